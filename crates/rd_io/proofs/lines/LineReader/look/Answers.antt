use Rattle.std.proofs.lemmas.Grind.{elements}
use Rattle.std.proofs.Common.{refl, arith}
use Rattle.rd_io.proofs.LookLemmas.{gives_line, is_past}
use Rattle.rd_io.proofs.lines.LineReader.look.Goals as goal

pub returns-in-Some : goal.returns-in-Some
returns-in-Some c =
    let r = c.self.inside in
    rw (← c.self.view_is)
    (gives_line r.buffer.items _ r.start r.held c.min-within.result r.room r.limit r.number r.ended c.min-within.ensures (omega arith)
    c.in-Some.at c.self.invariant.fits (rw c.deref.ensures.value at c.in-Some.ensures))

pub returns-in-None : goal.returns-in-None
returns-in-None c =
    let r = c.self.inside in (
      refl,
      rw (← c.self.view_is)
          (is_past r.buffer.items _ r.start r.held c.min-within.result r.room r.limit r.number r.ended c.min-within.ensures (omega arith)
          (rw c.deref.ensures.value at c.in-None.ensures) (omega arith) (omega arith) (omega arith)),
    )

pub first_feed-requires-clause-before : goal.first_feed-requires-clause-before
first_feed-requires-clause-before c = grind (arith, elements)
