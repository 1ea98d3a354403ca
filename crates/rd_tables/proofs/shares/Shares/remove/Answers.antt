use Rattle.std.proofs.lemmas.Grind.{common_steps, elements}
use Rattle.std.proofs.Common.{arith}
use Rattle.rd_tables.proofs.shares.Shares.remove.Goals as goal

pub part_some-self : goal.part_some-self
part_some-self c = grind (arith, common_steps)

pub part_none-self : goal.part_none-self
part_none-self c = grind (arith, common_steps)

pub remove-requires : goal.remove-requires
remove-requires c = grind (arith, elements)

pub returns-in-Some : goal.returns-in-Some
returns-in-Some c = grind (arith, elements)

pub returns-in_default : goal.returns-in_default
returns-in_default c = grind (arith, elements)
