use Rattle.std.proofs.lemmas.Grind.{common_steps}
use Rattle.std.proofs.Common.{arith}
use Rattle.rd_tables.proofs.sharers.Sharers.least_other.Goals as goal

pub loop-sharer-preserved : goal.loop-sharer-preserved
loop-sharer-preserved c = grind (arith, common_steps)

pub returns : goal.returns
returns c = grind (arith, common_steps)
