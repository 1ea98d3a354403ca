use Rattle.std.proofs.Common.{◌∙◌, ap, length}
use Rattle.rd_base.proofs.ListedLemmas.{held_few}
use Rattle.rd_base.proofs.slots.ValueList.clear.Goals as goal

pub returns : goal.returns
returns c = held_few c.clear.new.self.items c.clear-2.new.self.items (ap length c.clear-2.ensures.items) ∙ c.clear.ensures
