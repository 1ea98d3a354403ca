use Rattle.std.proofs.Common.{arith, sym, ◌∙◌, ◌≡◌, false, get_or}
use Rattle.rd_event.specs.ReadingSlots.{ends_value}
use Rattle.rd_event.proofs.CutLemmas.{ends_here, goes_on, ends_behind}
use Rattle.rd_event.proofs.slots.length_from.Goals as goal

pub returns-then-ends_value : goal.returns-then-ends_value
returns-then-ends_value c =
    omega (
      arith,
      c.loop-index.invariant,
      ends_here c.loop-index.place c.args.bytes.now c.loop-index.index c.loop-index-test.true
          (sym c.ends_value.ensures ∙ c.if-ends_value.true),
    )

pub loop-index-preserved : goal.loop-index-preserved
loop-index-preserved c =
    let on : ends_value c.loop-index.place (get_or c.args.bytes.now c.loop-index.index 0) ≡ false = sym c.ends_value.ensures ∙ c.if-ends_value.false in
    let step = goes_on c.loop-index.place c.args.bytes.now c.loop-index.index c.loop-index-test.true on in
    rw c.next_place-place.ensures (omega (arith, c.loop-index.invariant, step))

pub returns : goal.returns
returns c =
    omega (arith, c.loop-index.invariant, ends_behind c.loop-index.place c.args.bytes.now c.loop-index.index c.loop-index-test.false)
