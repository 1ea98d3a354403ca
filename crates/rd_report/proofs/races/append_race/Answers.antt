use Rattle.std.proofs.Common.{arith}
use Rattle.std.proofs.lemmas.Grind.{common_steps}
use Rattle.rd_report.specs.Races.{race_lines}
use Rattle.rd_report.proofs.races.append_race.Goals as goal

pub returns-clause-text : goal.returns-clause-text
unfolding race_lines
returns-clause-text c = grind (arith, common_steps)

pub returns-clause-ends : goal.returns-clause-ends
unfolding race_lines
returns-clause-ends c = grind (arith, common_steps)

pub returns-clause-lines : goal.returns-clause-lines
unfolding race_lines
returns-clause-lines c = grind (arith, common_steps)
