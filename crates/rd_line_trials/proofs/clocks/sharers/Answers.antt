use Rattle.rd_order.specs.TestLists.{two_roots}
use Rattle.rd_line_trials.proofs.LockLemmas.{sharers_may}
use Rattle.rd_line_trials.proofs.clocks.sharers.Goals as goal

pub has_rows-requires : goal.has_rows-requires
has_rows-requires g c = (two_roots, sharers_may c.in_ok-tracker.tracker c.in_ok-tracker.ensures.stands c.in_ok-tracker.ensures.count)
