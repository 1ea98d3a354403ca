use Rattle.std.proofs.Common.{rules, tests}
use Rattle.rd_hb.proofs.tracker.Tracker.hear_both.Goals as goal

pub returns-else-was_unshared-clause-learnt : goal.returns-else-was_unshared-clause-learnt
returns-else-was_unshared-clause-learnt g c = search (tests, rules)
