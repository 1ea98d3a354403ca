use Rattle.rd_order.specs.TestLists.{two_roots}
use Rattle.rd_epoch.proofs.TestLemmas.{guarded_may}
use Rattle.rd_epoch.proofs.epochs.tests.guarded.Goals as goal

pub are_told-requires : goal.are_told-requires
are_told-requires g c = (
  two_roots,
  rw (c.access.ensures, c.access-2.ensures, c.access-3.ensures, c.access-4.ensures, c.access-5.ensures)
      (guarded_may c.with_two_roots-tracker.result c.with_two_roots-tracker.ensures.stands c.with_two_roots-tracker.ensures.count),
)
