use Rattle.rd_reorder_command.proofs.OutcomeLemmas.{reorder_well}
use Rattle.rd_reorder_command.proofs.reporting.ReorderingReport.law_of_outcomes.Goals as goal

pub returns-clause-well : goal.returns-clause-well
returns-clause-well c = reorder_well c.args.self.now.number
