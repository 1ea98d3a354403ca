use Rattle.rd_order.specs.TestLists.{one_root}
use Rattle.rd_epoch.proofs.TestLemmas.{children_may}
use Rattle.rd_epoch.proofs.epochs.tests.children.Goals as goal

pub are_told-requires : goal.are_told-requires
are_told-requires g c = (
  one_root,
  rw (c.access.ensures, c.access-2.ensures, c.access-3.ensures, c.access-4.ensures)
      (children_may c.with_one_root-tracker.result c.with_one_root-tracker.ensures.stands c.with_one_root-tracker.ensures.count),
)
