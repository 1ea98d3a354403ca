use Rattle.std.proofs.Common.{rules, tests}
use Rattle.rd_report.proofs.statuses.is_limit.Goals as goal

pub returns-in_default-2 : goal.returns-in_default-2
returns-in_default-2 c = search (tests, rules)
