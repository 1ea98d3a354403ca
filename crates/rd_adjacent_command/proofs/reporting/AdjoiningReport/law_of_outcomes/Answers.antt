use Rattle.rd_adjacent_command.proofs.EndLemmas.{adjacent_well}
use Rattle.rd_adjacent_command.proofs.reporting.AdjoiningReport.law_of_outcomes.Goals as goal

pub returns-clause-well : goal.returns-clause-well
returns-clause-well c = adjacent_well c.args.self.now.first c.args.self.now.second
