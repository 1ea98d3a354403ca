use Rattle.std.proofs.Common.{◌+◌, ap, ◌∙◌}
use Rattle.rd_points.specs.Blocks.{Column, meets}
use Rattle.rd_points.specs.Classes.{slot_at}
use Rattle.rd_points.proofs.BlockLemmas.{numbered}
use Rattle.rd_points.proofs.rows.add_each.Goals as goal

pub loop-i-preserved : goal.loop-i-preserved
loop-i-preserved c =
    let column : Column = record { forward = c.args.forward.now; backward = c.args.backward.now; slots = c.args.slots } in
    numbered (λ i. meets column c.args.slot (slot_at i)) c.args.first _ _ _ c.loop-i.i _ c.meet.result
    (c.meet.ensures ∙ ap (meets column c.args.slot) c.slot_at.ensures) (ap (λ k. c.args.first + k) c.from.ensures) c.in_ok-push_if.ensures c.loop-i.invariant
