-- What a detector holds of a list of events: this project's profile.
use Rattle.std.specs.Prelude.{◌≡◌, ◌⊎◌, ℕ, ◌+◌, ◌*◌, ◌<◌, ◌≤◌, nat_le, nat_lt, Bool, true, false, ◌&&◌, if◌then◌else◌, List, [], ◌∷◌, ◌++◌, All, Contains, length, map, flat_map, max, min, Option, None, Some, slice_get, slice_index_or}
use Rattle.std.specs.List.{list_any, sum_by}
use Rattle.rd_event.specs.declared.events.Call.{Call as CallOf}
use Rattle.rd_event.specs.declared.events.Event.{Event}
use Rattle.rd_event.specs.declared.events.Event.TheVariants.{Call}
use Rattle.rd_classes.specs.Merged.{merged}
use Rattle.rd_clock.specs.declared.clock.Stamp.{Stamp}
use Rattle.rd_ecl.specs.Kinds.{kinds_of}
use Rattle.rd_ecl.specs.Specified.{IsKind, SpecifiedKind}
use Rattle.rd_hb.specs.Knows.{Carries, Knows}
use Rattle.rd_hb.specs.Tracker.{IsFloor, IsStamp, TrackerStandsFor, Tracking}
use Rattle.rd_hb.specs.declared.tracker.Tracked.{Tracked}
use Rattle.rd_order.specs.EventLists.{IsKnownThread, WellFormedWith, joins}
use Rattle.rd_points.specs.Compiled.{compiled}
use Rattle.rd_points.specs.PointLists.{same_point}
use Rattle.rd_points.specs.Points.{value_of_slot}
use Rattle.rd_points.specs.Tables.{PointTable, conflicts_at, touched}
use Rattle.rd_points.specs.declared.points.Point.{Point}
use Rattle.rd_points.specs.declared.touches.Touch.{Touch}
use Rattle.rd_store.specs.Stores.{IsCovered, IsSameStore, IsSwept, PointCells, cell_at, cell_count, new_cells}
use Rattle.rd_store.specs.declared.Race.{Race}
use Rattle.rd_store.specs.declared.Witness.{Witness}
use Rattle.rd_races.specs.Commuting.{Commute}
use Rattle.rd_races.specs.Races.{Reported, IsLatest}

-- ---- the state

-- the tables of access points, one for each kind; the cells; and how many were left when they were last swept, 0 where they never were
pub record Detecting : Type 0 where
  pub tables : List PointTable
  pub store : List PointCells
  pub kept : ℕ

-- a table of a kind without methods
abbrev pub no_table : PointTable
no_table = record { predicates = []; touches = []; plain = []; conflicts = [] }

-- the table of the kind with this number
abbrev pub table_at : List PointTable → ℕ → PointTable
table_at tables number = slice_index_or tables number no_table

-- the merged table of each kind
abbrev pub tables_of : List SpecifiedKind → List PointTable
tables_of kinds = map (λ kind. merged (compiled kind)) kinds

-- ---- what a call touches, and what conflicts with it

-- the point that a call touches by a touch
abbrev pub point_of : CallOf → Touch → Point
point_of call touch = record { object = call.object; class = touch.class; value = value_of_slot call.slots touch.slot }

-- the points that a call touches, by the table of its kind
abbrev pub points_in : PointTable → CallOf → List Point
points_in table call = map (point_of call) (touched table call.method call.slots)

-- the same by all tables
abbrev pub touched_points : List PointTable → CallOf → List Point
touched_points tables call = points_in (table_at tables call.kind) call

-- the point in another class
abbrev pub in_class : Point → ℕ → Point
in_class point class = record { object = point.object; class = class; value = point.value }

-- the points that conflict with one
abbrev pub conflicting_points : PointTable → Point → List Point
conflicting_points table point = map (in_class point) (conflicts_at table point.class)

-- the points that conflict with one that a call touches
abbrev pub asked_points : List PointTable → CallOf → List Point
asked_points tables call = flat_map (conflicting_points (table_at tables call.kind)) (touched_points tables call)

-- ---- what it stands for

-- what is kept of a call is what the list has at its place: the call, its line, and where it stands
pub record IsWitness (lines : List ℕ) (es : List Event) (witness : Witness) : Type 0 where
  pub call : slice_get es witness.place ≡ Some (Call witness.call)
  pub line : slice_get lines witness.place ≡ Some witness.line
  pub stamp : IsStamp es witness.place witness.stamp

-- a cell has the last call of the thread that touches the point
pub record IsCell (tables : List PointTable) (lines : List ℕ) (es : List Event) (point : Point) (thread : ℕ) (witness : Witness) : Type 0 where
  pub is : IsWitness lines es witness
  pub of_thread : witness.call.thread ≡ thread
  pub touches : Contains (touched_points tables witness.call) point
  pub last : (i : ℕ) (call : CallOf) → slice_get es i ≡ Some (Call call) → call.thread ≡ thread
      → Contains (touched_points tables call) point → i ≤ witness.place

-- each thread that may still act knows the event at this place
abbrev pub IsDead : (ℕ → Bool) → List Event → ℕ → Type 0
IsDead roots es i = (t : ℕ) → IsKnownThread roots es t → joins es t ≡ 0 → Knows es (Carries es t) i

-- the thread of a call has a cell at a point, of that call or of a later one
abbrev pub IsInCell : List PointCells → Point → CallOf → ℕ → Type 0
IsInCell store point call i = (seen : Witness) × (cell_at store point call.thread ≡ Some seen) × (i ≤ seen.place)

-- The tables are the merged ones of these kinds, and the list is well-formed with them. A cell has the last call of its thread that touches
-- the point; where a thread touched a point and has no cell there, that call is dead: each thread that may still act knows it.
pub record DetectorStandsFor (kinds : List SpecifiedKind) (detecting : Detecting) (roots : ℕ → Bool) (lines : List ℕ) (es : List Event) : Type 0 where
  pub kinds_are : All IsKind kinds
  pub tables_are : detecting.tables ≡ tables_of kinds
  pub formed : WellFormedWith (kinds_of kinds) roots es
  pub lengths : length lines ≡ length es
  pub cells : (point : Point) (thread : ℕ) (seen : Witness) → cell_at detecting.store point thread ≡ Some seen → IsCell detecting.tables lines es point thread seen
  pub last : (i : ℕ) (call : CallOf) (point : Point) → slice_get es i ≡ Some (Call call) → Contains (touched_points detecting.tables call) point
      → IsInCell detecting.store point call i ⊎ IsDead roots es i

-- the call is the next event, at this place and with this stamp, of a list that is well-formed with these kinds, and the tracker stands for
-- the list with it
pub record IsNextCall (kinds : List SpecifiedKind) (detecting : Detecting) (tracking : Tracking) (roots : ℕ → Bool) (lines : List ℕ) (es : List Event) (place : ℕ) (call : CallOf) (stamp : Stamp) : Type 0 where
  pub stands : DetectorStandsFor kinds detecting roots lines es
  pub at_end : place ≡ length es
  pub stamped : IsStamp (es ++ Call call ∷ []) (length es) stamp
  pub formed : WellFormedWith (kinds_of kinds) roots (es ++ Call call ∷ [])
  pub tracked : TrackerStandsFor tracking roots (es ++ Call call ∷ [])

-- ---- its answers

-- the race has these two calls, and names their kind, and their methods in the order in which they are declared
pub record IsRaceOf (later earlier : Witness) (race : Race) : Type 0 where
  pub later_is : race.later.value ≡ later
  pub earlier_is : race.earlier.value ≡ earlier
  pub kind : race.kind ≡ later.call.kind
  pub first : race.first ≡ min later.call.method earlier.call.method
  pub second : race.second ≡ max later.call.method earlier.call.method

-- the race has the call at place j as its later one, and that at place i as its earlier one
pub record IsRace (lines : List ℕ) (es : List Event) (j i : ℕ) (race : Race) : Type 0 where
  pub later : Witness
  pub earlier : Witness
  pub is : IsRaceOf later earlier race
  pub at_j : IsWitness lines es later
  pub later_place : later.place ≡ j
  pub at_i : IsWitness lines es earlier
  pub earlier_place : earlier.place ≡ i
  pub one_kind : earlier.call.kind ≡ later.call.kind

-- the answer for the call at this place: nothing where none is reported, else the race with the latest call that races with it
abbrev pub IsAnswer : List SpecifiedKind → List ℕ → List Event → ℕ → Option Race → Type 0
IsAnswer kinds lines es j None = ¬ (Reported (Commute kinds) es j)
IsAnswer kinds lines es j (Some race) = (i : ℕ) × IsLatest (Commute kinds) es j i × IsRace lines es j i race

-- ---- the parts of an answer

-- a cell of one of the points that the clock doesn't cover
pub record IsUncovered (store : List PointCells) (points : List Point) (clock : List ℕ) (seen : Witness) : Type 0 where
  pub point : Point
  pub among : Contains points point
  pub thread : ℕ
  pub cell : cell_at store point thread ≡ Some seen
  pub uncovered : ¬ (IsCovered clock thread seen)

-- the clock covers each cell of the points, or this is one that it doesn't, and none has a later place
abbrev pub IsLatestOf : List PointCells → List Point → List ℕ → Option Witness → Type 0
IsLatestOf store points clock None = (seen : Witness) → ¬ (IsUncovered store points clock seen)
IsLatestOf store points clock (Some latest) = IsUncovered store points clock latest × ((seen : Witness) → IsUncovered store points clock seen → seen.place ≤ latest.place)

-- this is the answer where that one is the latest
abbrev pub Answers : Witness → Option Witness → Option Race → Type 0
Answers later None answer = answer ≡ None
Answers later (Some earlier) answer = (race : Race) × (answer ≡ Some race) × IsRaceOf later earlier race

-- the later of two
abbrev pub later_of : Option Witness → Option Witness → Option Witness
later_of None other = other
later_of (Some one) None = Some one
later_of (Some one) (Some other) = if nat_lt one.place other.place then Some other else Some one

-- ---- what a call leaves

-- at how many of these points the thread has no cell, a point that stands there more than once counted once
abbrev pub new_cells_at : List PointCells → List Point → ℕ → ℕ
new_cells_at store [] thread = 0
new_cells_at store (point ∷ points) thread =
    (if list_any (same_point point) points then 0 else new_cells store point thread) + new_cells_at store points thread

-- the cells of a thread at these points are this one, and all others are as before; each point where it had none has one more
pub record AreTouched (old new : List PointCells) (points : List Point) (thread : ℕ) (witness : Witness) : Type 0 where
  pub own : (point : Point) → Contains points point → cell_at new point thread ≡ Some witness
  pub rest : (point : Point) → Contains points point ⊎ (cell_at new point thread ≡ cell_at old point thread)
  pub others : (point : Point) (other : ℕ) → ¬ (other ≡ thread) → cell_at new point other ≡ cell_at old point other
  pub count : cell_count new ≡ cell_count old + new_cells_at old points thread

-- a sweep is due where there are so many cells, and so many were left by the last one
abbrev pub is_due : ℕ → ℕ → Bool
is_due count kept = nat_le 64 count && nat_le (2 * kept) count

-- where a sweep is due, exactly the cells that the floor of the threads covers are gone, and it is told how many are left; else all stay
abbrev pub IsSweptWhere : Bool → List Tracked → ℕ → List PointCells → List PointCells → ℕ → Type 0
IsSweptWhere true threads kept store new left = (floor : List ℕ) × IsFloor threads floor × IsSwept floor store new × (left ≡ cell_count new)
IsSweptWhere false threads kept store new left = (new ≡ store) × (left ≡ kept)

-- the call is kept in the cells of all points that it touches, and then a sweep comes where it is due
pub record IsCallKept (threads : List Tracked) (old new : Detecting) (call : CallOf) (witness : Witness) : Type 0 where
  pub tables : new.tables ≡ old.tables
  pub store : List PointCells
  pub touched : AreTouched old.store store (touched_points old.tables call) call.thread witness
  pub swept : IsSweptWhere (is_due (cell_count store) old.kept) threads old.kept store new.store new.kept

-- all is as before, but that there may be more room
pub record IsCallLeft (old new : Detecting) : Type 0 where
  pub tables : new.tables ≡ old.tables
  pub store : IsSameStore old.store new.store
  pub kept : new.kept ≡ old.kept

-- ---- steps

-- the cells are of threads below this number
abbrev pub AreBelow : ℕ → List PointCells → Type 0
AreBelow count store = (point : Point) (thread : ℕ) (seen : Witness) → cell_at store point thread ≡ Some seen → thread < count

-- the bound on the look-ups for a point: one for each class that conflicts with its, each with a step for each thread and one more
abbrev pub asking_bound : PointTable → ℕ → Point → ℕ
asking_bound table threads point = length (conflicts_at table point.class) * (threads + 1)

-- the bound on the steps of a call's detection, by the number of threads that are known: the look-ups for each point that it touches, and for each
-- to set its cell
abbrev pub detection_bound : List PointTable → ℕ → CallOf → ℕ
detection_bound tables threads call =
    sum_by (asking_bound (table_at tables call.kind) threads) (touched_points tables call) + length (touched_points tables call) * (threads + 1)
