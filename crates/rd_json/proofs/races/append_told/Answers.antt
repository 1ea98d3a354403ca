use Rattle.std.proofs.Common.{arith}
use Rattle.std.proofs.lemmas.Grind.{common_steps}
use Rattle.rd_json.specs.Json.{told_json}
use Rattle.rd_json.proofs.races.append_told.Goals as goal

pub returns : goal.returns
unfolding told_json
returns c = grind (arith, common_steps)
