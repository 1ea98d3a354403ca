use Rattle.rd_order.specs.TestLists.{two_roots}
use Rattle.rd_line_trials.proofs.LockLemmas.{guarded_may}
use Rattle.rd_line_trials.proofs.clocks.guarded.Goals as goal

pub is_told_twice-requires : goal.is_told_twice-requires
is_told_twice-requires g c = record {
  all = (two_roots, rw (c.call.ensures, c.call-2.ensures) (guarded_may c.in_ok-tracker.tracker c.in_ok-tracker.ensures.stands c.in_ok-tracker.ensures.count));
  calls = (two_roots, rw (c.call.ensures, c.call-2.ensures) (guarded_may c.in_ok-passing.passing c.in_ok-passing.ensures.stands c.in_ok-passing.ensures.count));
}
