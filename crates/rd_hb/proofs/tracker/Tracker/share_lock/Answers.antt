use Rattle.std.proofs.Common.{rules, tests}
use Rattle.rd_hb.proofs.tracker.Tracker.share_lock.Goals as goal

pub tick-requires-clause-below : goal.tick-requires-clause-below
tick-requires-clause-below g c = search (tests, rules)

pub returns-clause-ok : goal.returns-clause-ok
returns-clause-ok g c = search (tests, rules)

pub returns-clause-cost : goal.returns-clause-cost
returns-clause-cost g c = search (tests, rules)
