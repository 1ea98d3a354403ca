use Rattle.std.proofs.Common.{rules, tests}
use Rattle.rd_ecl.proofs.reduction.of_either.Goals as goal

pub returns-in-False-default : goal.returns-in-False-default
returns-in-False-default c = search (tests, rules)
