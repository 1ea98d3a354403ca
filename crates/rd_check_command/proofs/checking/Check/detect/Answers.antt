use Rattle.std.proofs.Common.{rules, tests}
use Rattle.rd_check_command.proofs.checking.Check.detect.Goals as goal

pub returns-clause-answer : goal.returns-clause-answer
returns-clause-answer g c = search (tests, rules)
