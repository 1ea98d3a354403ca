use Rattle.std.proofs.lemmas.Grind.{common_steps, elements}
use Rattle.std.proofs.Common.{arith}
use Rattle.rd_tables.proofs.sharers.Sharers.place_of.Goals as goal

pub returns-then-sharer-gt0-clause-none : goal.returns-then-sharer-gt0-clause-none
returns-then-sharer-gt0-clause-none c = grind (arith, common_steps)

pub loop-at-preserved : goal.loop-at-preserved
loop-at-preserved c = grind (arith, common_steps)

pub returns-clause-none : goal.returns-clause-none
returns-clause-none c = grind (arith, common_steps)

pub returns-then-sharer-gt0-clause-some : goal.returns-then-sharer-gt0-clause-some
returns-then-sharer-gt0-clause-some c = grind (arith, elements)
