-- Traces for tests: roots have the first numbers, and each forked thread the next one.
use Rattle.std.specs.Prelude.{ℕ, Bool, List, [], length}
use Rattle.rd_event.specs.declared.events.Event.{Event}
use Rattle.rd_order.specs.EventLists.{WellFormed}
use Rattle.rd_order.specs.TestLists.{NextNumbers}
use Rattle.rd_hb.specs.Tracker.{TrackerStandsFor, Tracking}

-- a tracker that has seen the roots alone may take all these events
pub record MayTakeAll (tracking : Tracking) (roots : ℕ → Bool) (es : List Event) : Type 0 where
  pub stands : TrackerStandsFor tracking roots []
  pub formed : WellFormed roots es
  pub numbered : NextNumbers (length tracking.threads) es
