use Rattle.std.proofs.Common.{arith, ◌+◌}
use Rattle.rd_event.specs.declared.slots.Place.TheVariants.{Outside}
use Rattle.rd_event.proofs.CutLemmas.{at_quote, at_space, at_other, ends_behind, quoted_behind}
use Rattle.rd_event.proofs.slots.value_length.Goals as goal

pub returns-then-byte-eq32 : goal.returns-then-byte-eq32
returns-then-byte-eq32 c =
    omega (arith, c.loop-index.invariant, at_space c.args.bytes.now c.loop-index.index c.loop-index-test.true c.if-byte-eq32.true)

pub loop-index-preserved : goal.loop-index-preserved
loop-index-preserved c =
    omega (
      arith,
      c.loop-index.invariant,
      at_other c.args.bytes.now c.loop-index.index c.loop-index-test.true c.if-byte-eq32.false c.if-byte-eq34.false,
    )

pub returns : goal.returns
returns c =
    omega (arith, c.loop-index.invariant, ends_behind Outside c.args.bytes.now c.loop-index.index c.loop-index-test.false)

pub returns-then-byte-eq34 : goal.returns-then-byte-eq34
returns-then-byte-eq34 c =
    omega (
      arith,
      c.loop-index.invariant,
      c.quoted_length.ensures.value,
      quoted_behind c.args.bytes.now (c.loop-index.index + 1),
      at_quote c.args.bytes.now c.loop-index.index c.loop-index-test.true c.if-byte-eq34.true,
    )
