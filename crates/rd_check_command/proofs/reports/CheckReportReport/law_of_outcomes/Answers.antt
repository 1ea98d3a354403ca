use Rattle.rd_check_command.proofs.OutcomeLemmas.{check_fronts, check_well}
use Rattle.rd_check_command.proofs.reports.CheckReportReport.law_of_outcomes.Goals as goal

pub returns-clause-fronts : goal.returns-clause-fronts
returns-clause-fronts c = λ kinds entries walked begins accepted. check_fronts kinds c.args.self.now.check entries walked begins.checks accepted

pub returns-clause-well : goal.returns-clause-well
returns-clause-well c = λ kinds. check_well c.args.self.now.check.form c.args.self.now.check.spec.now
