use Rattle.std.proofs.Common.{arith}
use Rattle.rd_open_kind.proofs.FilledLemmas.{all_filled}
use Rattle.rd_open_kind.proofs.filling.fill.Goals as goal

pub returns : goal.returns
returns c =
    let rows = c.methods-count.ensures.valid.pairs.rows in
    let count = c.loop-place.invariant.1 in
    let end = c.loop-place-test.false in
    all_filled c.args.draft.now c.args.value c.loop-place.place c.loop-place.draft (omega (arith, rows, count, end)) c.loop-place.invariant.0
