use Rattle.rd_order.specs.TestLists.{one_root}
use Rattle.rd_line_trials.proofs.TrackerLemmas.{family_may}
use Rattle.rd_line_trials.proofs.clocks.two_children.Goals as goal

pub is_told_twice-told-requires : goal.is_told_twice-told-requires
is_told_twice-told-requires g c = record {
  all = (
    one_root,
    rw (c.call.ensures, c.call-2.ensures, c.call-3.ensures) (family_may c.in_ok-tracker.tracker c.in_ok-tracker.ensures.stands c.in_ok-tracker.ensures.count),
  );
  calls = (
    one_root,
    rw (c.call.ensures, c.call-2.ensures, c.call-3.ensures) (family_may c.in_ok-passing.passing c.in_ok-passing.ensures.stands c.in_ok-passing.ensures.count),
  );
}
