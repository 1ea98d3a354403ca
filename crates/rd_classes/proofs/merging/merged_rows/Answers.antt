use Rattle.std.proofs.Common.{map, ◌∷◌, [], ap, ◌∙◌}
use Rattle.std.proofs.lemmas.List.{map_more, map-append}
use Rattle.rd_classes.specs.Merged.{merged_conflicts}
use Rattle.rd_classes.proofs.merging.merged_rows.Goals as goal

pub loop-leader-preserved : goal.loop-leader-preserved
loop-leader-preserved c =
    let more = map_more (λ k. merged_conflicts c.args.table.now k.class) c.args.least.now c.loop-leader.leader-index
    (record { class = 0; signature = 0 }) c.loop-leader-test.true in
    let pushed = ap (map (λ row. row.items)) c.in_ok-push.ensures.items
    ∙ map-append (λ row. row.items) c.loop-leader.rows.items (c.in_ok-merged_row.field-0 ∷ []) in
    cc (c.loop-leader.invariant, c.in_ok-merged_row.ensures)
