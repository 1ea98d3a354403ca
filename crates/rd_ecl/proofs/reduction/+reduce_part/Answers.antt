use Rattle.std.proofs.Common.{rules, tests}
use Rattle.rd_ecl.proofs.reduction.+reduce_part.Goals as goal

pub returns-in-Second : goal.returns-in-Second
returns-in-Second t c = search (tests, rules)
