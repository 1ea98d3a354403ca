use Rattle.rd_epochs_command.proofs.OutcomeLemmas.{epochs_fronts, epochs_well}
use Rattle.rd_epochs_command.proofs.reporting.FirstRacesReport.law_of_outcomes.Goals as goal

pub returns-clause-fronts : goal.returns-clause-fronts
returns-clause-fronts c = λ kinds entries walked begins accepted. epochs_fronts kinds entries walked begins.kinds_are accepted

pub returns-clause-well : goal.returns-clause-well
returns-clause-well c = λ kinds. epochs_well
