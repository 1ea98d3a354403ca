use Rattle.rd_order.specs.TestLists.{two_roots}
use Rattle.rd_line_trials.proofs.TrackerLemmas.{three_live_may}
use Rattle.rd_line_trials.proofs.clocks.three_live.Goals as goal

pub has_rows-told-requires : goal.has_rows-told-requires
has_rows-told-requires g c = (
  two_roots,
  rw (c.call.ensures, c.call-2.ensures, c.call-3.ensures) (three_live_may c.in_ok-tracker.tracker c.in_ok-tracker.ensures.stands c.in_ok-tracker.ensures.count),
)
