use Rattle.std.proofs.Common.{arith}
use Rattle.std.proofs.lemmas.Grind.{common_steps}
use Rattle.rd_linear.proofs.waits.push_others.Goals as goal

pub returns-in_ok-push_if-in-Acquire : goal.returns-in_ok-push_if-in-Acquire
returns-in_ok-push_if-in-Acquire c = grind (arith, common_steps)
