use Rattle.std.proofs.Common.{◌∙◌, ap, [], ◌∷◌, ◌++◌}
use Rattle.rd_base.specs.Slots.{held_values}
use Rattle.rd_base.proofs.ListedLemmas.{held_all}
use Rattle.rd_base.proofs.slots.with_last.Goals as goal

pub returns : goal.returns
returns c =
    c.in_ok-new.ensures.ok ∙ c.in_ok-push.ensures.ok ∙ ap (λ values. values ++ c.args.last ∷ []) (ap (λ few. held_values few c.in_ok-copies.field-0.items) c.new.ensures ∙ held_all c.in_ok-copies.field-0.items ∙ c.in_ok-copies.ensures)
