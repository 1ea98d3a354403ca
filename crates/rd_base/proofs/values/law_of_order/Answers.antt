use Rattle.std.proofs.Common.{rules, tests}
use Rattle.rd_base.proofs.values.law_of_order.Goals as goal

pub returns-clause-values : goal.returns-clause-values
returns-clause-values c = search (tests, rules)
