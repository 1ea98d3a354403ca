use Rattle.std.proofs.Common.{rules, tests}
use Rattle.rd_store.proofs.store.is_live.Goals as goal

pub returns : goal.returns
returns c = search (tests, rules)
