use Rattle.std.proofs.Common.{◌∙◌, ap}
use Rattle.rd_base.specs.Slots.{held_values}
use Rattle.rd_base.proofs.ListedLemmas.{held_all}
use Rattle.rd_base.proofs.slots.Slots.from_values.Goals as goal

pub returns : goal.returns
returns c = c.from_shared.ensures ∙ c.in_ok-new.ensures.ok ∙ ap (λ few. held_values few c.args.values.items) c.new.ensures ∙ held_all c.args.values.items
