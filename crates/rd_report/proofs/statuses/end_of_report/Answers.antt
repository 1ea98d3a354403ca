use Rattle.std.proofs.Common.{rules, tests}
use Rattle.rd_report.proofs.statuses.end_of_report.Goals as goal

pub returns-clause-reported : goal.returns-clause-reported
returns-clause-reported c = search (tests, rules)
