use Rattle.std.proofs.Common.{rules, tests}
use Rattle.rd_points.proofs.columns.clash.Goals as goal

pub returns-then-is_none : goal.returns-then-is_none
returns-then-is_none c = search (tests, rules)

pub returns-else-is_none : goal.returns-else-is_none
returns-else-is_none c = search (tests, rules)
