use Rattle.std.proofs.Common.{ap, sym, subst, ◌∙◌}
use Rattle.rd_points.specs.Tables.{Tells}
use Rattle.rd_classes.specs.Merged.{merged}
use Rattle.rd_classes.proofs.StepLemmas.{renamed_is}
use Rattle.rd_classes.proofs.merging.merge.Goals as goal

pub returns-in-Ok-clause-merged : goal.returns-in-Ok-clause-merged
returns-in-Ok-clause-merged c = renamed_is c.args.table _ _ _ c.in-Ok.ensures.parts _ _ c.as_slice.ensures.value c.rename.ensures

pub returns-in-Ok-clause-tells : goal.returns-in-Ok-clause-tells
returns-in-Ok-clause-tells c kind is same =
    let new = renamed_is c.args.table _ _ _ c.in-Ok.ensures.parts _ _ c.as_slice.ensures.value c.rename.ensures in
    subst (Tells kind) (sym (new ∙ ap merged same)) (c.law_of_merging.ensures.tells kind is)
