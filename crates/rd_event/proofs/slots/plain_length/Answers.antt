use Rattle.std.proofs.Common.{arith, ◌+◌}
use Rattle.rd_event.specs.declared.slots.Place.TheVariants.{Outside}
use Rattle.rd_event.proofs.CutLemmas.{at_closing, at_inner, at_space, ends_behind}
use Rattle.rd_event.proofs.slots.plain_length.Goals as goal

pub returns-then-end-bytes-clause-value : goal.returns-then-end-bytes-clause-value
returns-then-end-bytes-clause-value c =
    let closing = at_closing c.args.bytes.now c.loop-index.index c.loop-index-test.true c.if-byte-eq34.true in
    omega (arith, c.loop-index.invariant, closing, ends_behind Outside c.args.bytes.now (c.loop-index.index + 1) (omega (arith, c.if-end-bytes.true)))

pub returns-then-bytes-end-eq32-clause-value : goal.returns-then-bytes-end-eq32-clause-value
returns-then-bytes-end-eq32-clause-value c =
    let closing = at_closing c.args.bytes.now c.loop-index.index c.loop-index-test.true c.if-byte-eq34.true in
    omega (
      arith,
      c.loop-index.invariant,
      closing,
      at_space c.args.bytes.now (c.loop-index.index + 1) (omega (arith, c.loop-index-test.true, c.if-end-bytes.false)) c.if-bytes-end-eq32.true,
    )

pub loop-index-preserved : goal.loop-index-preserved
loop-index-preserved c =
    omega (
      arith,
      c.loop-index.invariant,
      at_inner c.args.bytes.now c.loop-index.index c.loop-index-test.true c.if-byte-eq34.false c.if-byte-eq92.false,
    )
