use Rattle.std.proofs.Common.{arith}
use Rattle.std.proofs.lemmas.Grind.{common_steps}
use Rattle.rd_report.specs.Races.{told_text}
use Rattle.rd_report.proofs.races.append_told.Goals as goal

pub returns : goal.returns
unfolding told_text
returns c = grind (arith, common_steps)
