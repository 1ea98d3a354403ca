use Rattle.std.proofs.lemmas.List.{map_more}
use Rattle.rd_points.specs.Tables.{is_plain_class}
use Rattle.rd_classes.proofs.merging.plain.Goals as goal

pub loop-leader-preserved : goal.loop-leader-preserved
loop-leader-preserved c =
    let more = map_more (λ k. is_plain_class c.args.table.now k.class) c.args.least.now c.loop-leader.leader-index
    (record { class = 0; signature = 0 }) c.loop-leader-test.true in
    cc (c.in_ok-push.ensures.items, c.loop-leader.invariant)
