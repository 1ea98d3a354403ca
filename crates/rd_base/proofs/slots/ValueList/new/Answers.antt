use Rattle.std.proofs.Common.{◌∙◌, ap, length}
use Rattle.rd_base.proofs.ListedLemmas.{held_few}
use Rattle.rd_base.proofs.slots.ValueList.new.Goals as goal

pub returns : goal.returns
returns c = held_few c.new.result.items c.new-2.result.items (ap length c.new-2.ensures.items) ∙ c.new.ensures
