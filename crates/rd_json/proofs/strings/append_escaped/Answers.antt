use Rattle.std.proofs.Common.{arith}
use Rattle.std.proofs.lemmas.Grind.{common_steps}
use Rattle.rd_json.proofs.strings.append_escaped.Goals as goal

pub loop-front-preserved : goal.loop-front-preserved
loop-front-preserved c = grind (arith, common_steps)
