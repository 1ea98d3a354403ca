use Rattle.std.proofs.Common.{map, take, ◌++◌, ◌∷◌, [], ap, sym, ◌∙◌}
use Rattle.std.proofs.lemmas.List.{map_more}
use Rattle.rd_classes.specs.Merged.{merged}
use Rattle.rd_ecl.specs.Specified.{SpecifiedKind}
use Rattle.rd_points.specs.Compiled.{compiled}
use Rattle.rd_points.specs.Tables.{PointTable}
use Rattle.rd_detect.proofs.detector.tables.Goals as goal

abbrev table_of : SpecifiedKind → PointTable
table_of kind = merged (compiled kind)

pub loop-kind-preserved : goal.loop-kind-preserved
loop-kind-preserved c =
    c.in_ok-push.ensures.items ∙ ap (λ tables. tables ++ c.in_ok-merged_table.field-0 ∷ []) c.loop-kind.invariant
    ∙ ap (λ table. map table_of (take c.loop-kind.kind-index c.args.kinds.now) ++ table ∷ []) (c.in_ok-merged_table.ensures ∙ ap table_of c.kind-item.is)
    ∙ sym (map_more table_of c.args.kinds.now c.loop-kind.kind-index c.kind-item.result c.loop-kind-test.true)
