use Rattle.std.proofs.Common.{arith}
use Rattle.std.proofs.lemmas.Grind.{common_steps}
use Rattle.rd_ecl.proofs.slot_pairs.place.Goals as goal

pub loop-at-preserved : goal.loop-at-preserved
loop-at-preserved c = grind (arith, common_steps)

pub returns-then-are_same-clause-there : goal.returns-then-are_same-clause-there
returns-then-are_same-clause-there c = grind (arith, common_steps)

pub returns-in-loop-at-clause-free : goal.returns-in-loop-at-clause-free
returns-in-loop-at-clause-free c = grind (arith, common_steps)

pub returns-clause-free : goal.returns-clause-free
returns-clause-free c = grind (arith, common_steps)
