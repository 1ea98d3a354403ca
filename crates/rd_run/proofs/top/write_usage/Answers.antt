use Rattle.std.proofs.Common.{rules, tests}
use Rattle.rd_run.proofs.top.write_usage.Goals as goal

pub returns-in_err-write_line-clause-output : goal.returns-in_err-write_line-clause-output
returns-in_err-write_line-clause-output g c = search (tests, rules)

pub returns-clause-output : goal.returns-clause-output
returns-clause-output g c = search (tests, rules)
