-- What stands between two turns. This project's profile.
use Rattle.std.specs.Prelude.{◌≡◌, ◌⊎◌, ℕ, ◌<◌, Bool, false, IsTrue, List, length}
use Rattle.rd_turns.specs.declared.logs.NumberedLogs.{NumberedLogs}
use Rattle.rd_turns.specs.NumberedLogs.{logs_by_numbers}
use Rattle.rd_turns.specs.Standing.{StandsFor, Tabled}
use Rattle.rd_weavings.specs.declared.spots.Spot.{Spot}
use Rattle.rd_weavings.specs.Weavings.{ArePlaced}
use Rattle.rd_weavings.specs.WeaveTests.{may_give, placed_in, turns_left, woven_first}

-- each log is ready, or may not give its next event
abbrev pub AreReady : NumberedLogs → List Spot → (ℕ → Bool) → Type 0
AreReady n spots ready = (l : ℕ) → l < length n.logs.items → IsTrue (ready l) ⊎ (may_give (logs_by_numbers n) spots l ≡ false)

-- The events were placed one by one, as at each turn the first log that may gives its next one, and the turns go on from them; the tables stand for
-- them, and each log that may give its next event is ready.
pub record IsTurning (n : NumberedLogs) (spots : List Spot) (t : Tabled) (is_ready : ℕ → Bool) : Type 0 where
  pub placed : ArePlaced (logs_by_numbers n) spots
  pub rest : woven_first (logs_by_numbers n) ≡ placed_in (logs_by_numbers n) (turns_left (logs_by_numbers n) spots) spots
  pub tables : StandsFor n spots t
  pub ready : AreReady n spots is_ready
