-- What is known of points beside their cells: events that know all calls which are kept at a point, so that a clock which has heard of such
-- an event covers the cells of its point, however many they are: this project's profile.
use Rattle.std.specs.Prelude.{◌≡◌, ◌⊎◌, ℕ, suc, ◌<◌, ◌≤◌, Bool, false, nat_le, List, ◌++◌, length, Option, None, Some, slice_get, slice_index_or}
use Rattle.rd_clock.specs.Clock.{component}
use Rattle.rd_clock.specs.declared.clock.Stamp.{Stamp}
use Rattle.rd_clock.specs.declared.clock.StampRef.{StampRef}
use Rattle.rd_event.specs.declared.events.Event.{Event}
use Rattle.rd_hb.specs.Tracker.{IsStamp}
use Rattle.rd_points.specs.declared.points.Point.{Point}
use Rattle.rd_store.specs.Stores.{IsCovered, PointCells, cell_at, point_at}
use Rattle.rd_store.specs.declared.Seat.{Seat}
use Rattle.rd_store.specs.declared.Witness.{Witness}
use Rattle.rd_detect.specs.declared.covers.Epoch.{Epoch}

-- the epoch at the index of a point, where there is one
abbrev pub cover_at : List (Option Epoch) → ℕ → Option Epoch
cover_at covers index = slice_index_or covers index None

-- the epoch of a stamp's event
abbrev pub epoch_of : StampRef → Epoch
epoch_of stamp = record { thread = stamp.thread; number = stamp.number }

-- the clock counts the event of the epoch
abbrev pub CountsEpoch : List ℕ → Epoch → Type 0
CountsEpoch clock epoch = epoch.number ≤ component clock epoch.thread

-- whether a clock counts the event, where there is one
abbrev pub counts_epoch : List ℕ → Option Epoch → Bool
counts_epoch clock None = false
counts_epoch clock (Some epoch) = nat_le epoch.number (component clock epoch.thread)

-- the clock covers each cell of the point
abbrev pub AreCoveredAt : List PointCells → Point → List ℕ → Type 0
AreCoveredAt store point clock = (thread : ℕ) (seen : Witness) → cell_at store point thread ≡ Some seen → IsCovered clock thread seen

-- where this clock counts the event of a point's epoch, it covers the point's cells
pub record AreTrueFor (store : List PointCells) (covers : List (Option Epoch)) (clock : List ℕ) : Type 0 where
  pub few : length covers ≤ length store
  pub each : (index : ℕ) (epoch : Epoch) (point : Point) → cover_at covers index ≡ Some epoch → point_at store index ≡ Some point → CountsEpoch clock epoch → AreCoveredAt store point clock

-- the clock is that of the last event of the list, or of a later one
pub record IsLater (es : List Event) (clock : List ℕ) : Type 0 where
  pub rest : List Event
  pub place : ℕ
  pub stamp : Stamp
  pub late : length es ≤ suc place
  pub inside : place < length (es ++ rest)
  pub stamped : IsStamp (es ++ rest) place stamp
  pub clock_is : clock ≡ stamp.clock

-- this is true for the clocks of the last event and of all that may follow
pub record CoversStandFor (es : List Event) (store : List PointCells) (covers : List (Option Epoch)) : Type 0 where
  pub few : length covers ≤ length store
  pub each : (index : ℕ) (epoch : Epoch) (point : Point) (clock : List ℕ) → cover_at covers index ≡ Some epoch → point_at store index ≡ Some point → IsLater es clock
      → CountsEpoch clock epoch → AreCoveredAt store point clock

-- an epoch is as it was, or there is none, or it is this one, and the clock covers the cells of the point
abbrev pub IsCoverOf : List PointCells → List ℕ → Epoch → Option Epoch → Option Epoch → ℕ → Type 0
IsCoverOf store clock own old new index = (new ≡ old) ⊎ ((new ≡ None) ⊎ ((new ≡ Some own) × ((point : Point) → point_at store index ≡ Some point → AreCoveredAt store point clock)))

abbrev pub CoversFollow : List PointCells → List ℕ → Epoch → List (Option Epoch) → List (Option Epoch) → Type 0
CoversFollow store clock own old new = (index : ℕ) → IsCoverOf store clock own (cover_at old index) (cover_at new index) index

-- there is no epoch where the cells of a call stand, or that of the call itself
abbrev pub AreOwn : Epoch → List (Option Epoch) → List Seat → Type 0
AreOwn own covers seats = (i : ℕ) (seat : Seat) → slice_get seats i ≡ Some seat → (cover_at covers seat.index ≡ None) ⊎ (cover_at covers seat.index ≡ Some own)

-- there are none, or they are as before, and points keep their indices
abbrev pub AreLeft : List PointCells → List PointCells → List (Option Epoch) → List (Option Epoch) → Type 0
AreLeft old_store new_store old new = (length new ≡ 0) ⊎ ((new ≡ old) × ((index : ℕ) → point_at new_store index ≡ point_at old_store index))

-- the epochs follow from those, and there are no more of them than points
pub record CoversKept (store : List PointCells) (clock : List ℕ) (own : Epoch) (old new : List (Option Epoch)) : Type 0 where
  pub few : length new ≤ length store
  pub follow : CoversFollow store clock own old new
