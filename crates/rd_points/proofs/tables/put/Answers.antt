use Rattle.std.proofs.Common.{rules, tests}
use Rattle.rd_points.proofs.tables.put.Goals as goal

pub returns-in-Some : goal.returns-in-Some
returns-in-Some c = search (tests, rules)
