use Rattle.std.proofs.Common.{rules, tests}
use Rattle.rd_store.proofs.store.later.Goals as goal

pub returns-then-covers-clause-value : goal.returns-then-covers-clause-value
returns-then-covers-clause-value g c = search (tests, rules)
