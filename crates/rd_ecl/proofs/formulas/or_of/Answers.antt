use Rattle.std.proofs.Common.{rules, tests}
use Rattle.rd_ecl.proofs.formulas.or_of.Goals as goal

pub returns-then-right : goal.returns-then-right
returns-then-right c = search (tests, rules)
