use Rattle.std.proofs.Common.{map, ap, ◌∙◌}
use Rattle.rd_points.specs.Tables.{is_plain_class}
use Rattle.rd_classes.specs.Merged.{merged_conflicts}
use Rattle.rd_classes.proofs.StepLemmas.{parts_of}
use Rattle.rd_classes.proofs.merging.collect.Goals as goal

pub returns-clause-parts : goal.returns-clause-parts
returns-clause-parts c =
    parts_of c.args.table.now c.in_ok-names.least.items c.in_ok-names.ensures.leaders _ _ _ c.in_ok-names.ensures.names
    (c.in_ok-plain.ensures ∙ ap (map (λ l. is_plain_class c.args.table.now l.class)) c.as_slice.ensures.value)
    (c.in_ok-conflicts.ensures ∙ ap (map (λ l. merged_conflicts c.args.table.now l.class)) c.as_slice-2.ensures.value)
