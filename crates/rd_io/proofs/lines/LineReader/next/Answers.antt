use Rattle.std.proofs.Common.{refl}
use Rattle.rd_io.proofs.NextLemmas.{answered_line, answered_too_long, answered_past, answered_fault, answered_end}
use Rattle.rd_io.proofs.lines.LineReader.next.Goals as goal

pub returns-in-Line-clause-tells : goal.returns-in-Line-clause-tells
returns-in-Line-clause-tells g c = λ going.
    let f = c.in-Line.ensures.finds in (
      f.0,
      answered_line c.args.self.now c.advance.new.self f.0 f.2 f.3 f.1,
      λ old told. let t = f.4 old told in (t.0, t.1, (t.2.0, λ h. absurd h)),
    )

pub returns-in-TooLong-clause-tells : goal.returns-in-TooLong-clause-tells
returns-in-TooLong-clause-tells g c = λ going.
    let f = c.in-TooLong.ensures.finds in
    rw c.refuse.ensures.answer (
      f.0,
      answered_too_long c.args.self.now c.refuse.new.self f.0 f.2 f.3 c.advance.new.self f.1.0 f.1.1 c.refuse.ensures.reader,
      λ old told. let t = f.4 old told in (t.0, t.1, (t.2.0, λ h. absurd h)),
    )

pub returns-in-Past-clause-tells : goal.returns-in-Past-clause-tells
returns-in-Past-clause-tells g c = λ going.
    let f = c.in-Past.ensures.finds in
    rw c.refuse-in-Past.ensures.answer (
      f.0,
      answered_past c.args.self.now c.refuse-in-Past.new.self f.0 f.2 f.3 c.advance.new.self f.1.0 f.1.1 c.refuse-in-Past.ensures.reader,
      λ old told. let t = f.4 old told in (t.0, t.1, (t.2.0, λ h. absurd h)),
    )

pub returns-in-Ended-clause-moves : goal.returns-in-Ended-clause-moves
returns-in-Ended-clause-moves g c = λ going.
    let f = c.in-Ended.ensures.finds in
    (answered_end c.args.self.now c.finish.new.self f.0 f.2 f.3 c.finish.result f.1.1 (rw f.1.0 at c.finish.ensures.well) (rw f.1.0 at c.finish.ensures.rest)).1

pub returns-in-Ended-clause-tells : goal.returns-in-Ended-clause-tells
returns-in-Ended-clause-tells g c = λ going.
    let f = c.in-Ended.ensures.finds in (
      f.0,
      (answered_end c.args.self.now c.finish.new.self f.0 f.2 f.3 c.finish.result f.1.1 (rw f.1.0 at c.finish.ensures.well) (rw f.1.0 at c.finish.ensures.rest)).0,
      λ old told. let t = f.4 old told in (t.0, t.1, (t.2.0, λ h. t.2.1 refl)),
    )

pub returns-in-Faulted-clause-tells : goal.returns-in-Faulted-clause-tells
returns-in-Faulted-clause-tells g c = λ going.
    let f = c.in-Faulted.ensures.finds in (
      f.0,
      answered_fault c.args.self.now c.advance.new.self f.0 f.2 f.3 f.1.0 f.1.1,
      λ old told. let t = f.4 old told in (t.0, t.1, (t.2.0, λ h. absurd h)),
    )
