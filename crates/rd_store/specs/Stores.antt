-- What a store holds: cells, one for each access point and each thread that touched it. This project's profile, after Dimitrov,
-- Raychev, Vechev and Koskinen 2014.
use Rattle.std.specs.Prelude.{◌≡◌, ◌≢◌, ◌⊎◌, ℕ, suc, ◌+◌, ◌≤◌, ◌==◌, not, nat_le, Bool, List, [], ◌∷◌, length, map, sum, count_by, Option, Some, None, is_some, option_map, slice_get, IsSome, if◌then◌else◌}
use Rattle.std.specs.Option.{option_map_or}
use Rattle.rd_clock.specs.Clock.{component}
use Rattle.rd_points.specs.PointLists.{same_point}
use Rattle.rd_points.specs.declared.points.Point.{Point}
use Rattle.rd_store.specs.declared.Seat.{Seat}
use Rattle.rd_store.specs.declared.Witness.{Witness}

-- ---- the state

-- what is kept of the last call of a thread that touched a point
pub record Cell : Type 0 where
  pub thread : ℕ
  pub witness : Witness

-- what is held of a point: its cells, and how many more it can take without memory
pub record PointCells : Type 0 where
  pub point : Point
  pub cells : List Cell
  pub spare : ℕ

-- what is held of a point; none where it was never entered
abbrev pub held_of : List PointCells → Point → Option PointCells
held_of [] point = None
held_of (held ∷ store) point = if same_point point held.point then Some held else held_of store point

-- the cells of a point
abbrev pub cells_at : List PointCells → Point → List Cell
cells_at store point = option_map_or (λ held. held.cells) (held_of store point) []

-- how many more cells a point can take without memory
abbrev pub spare_at : List PointCells → Point → ℕ
spare_at store point = option_map_or (λ held. held.spare) (held_of store point) 0

-- the point that was entered at an index
abbrev pub point_at : List PointCells → ℕ → Option Point
point_at store index = option_map (λ held. held.point) (slice_get store index)

-- the first cell of a thread
abbrev pub cell_of : List Cell → ℕ → Option Witness
cell_of [] thread = None
cell_of (cell ∷ cells) thread = if cell.thread == thread then Some cell.witness else cell_of cells thread

-- what is kept of the last call of a thread that touched a point; none where there is no such cell
abbrev pub cell_at : List PointCells → Point → ℕ → Option Witness
cell_at store point thread = cell_of (cells_at store point) thread

-- how many cells there are
abbrev pub cell_count : List PointCells → ℕ
cell_count store = sum (map (λ held. length held.cells) store)

-- the place of the first cell of a thread, or how many cells there are where it has none
abbrev pub place_of : List Cell → ℕ → ℕ
place_of [] thread = 0
place_of (cell ∷ cells) thread = if cell.thread == thread then 0 else suc (place_of cells thread)

-- no two cells are of one thread
abbrev pub HasOneEach : List Cell → Type 0
HasOneEach [] = Unit {0}
HasOneEach (cell ∷ cells) = (cell_of cells cell.thread ≡ None) × HasOneEach cells

-- each point is entered once, and has at most one cell of each thread
pub record IsOneEach (store : List PointCells) : Type 0 where
  pub once : (i j : ℕ) (point : Point) → point_at store i ≡ Some point → point_at store j ≡ Some point → i ≡ j
  pub each : (point : Point) → HasOneEach (cells_at store point)

-- how many cells are of other threads
abbrev pub others_of : List Cell → ℕ → ℕ
others_of cells thread = count_by (λ cell. not (cell.thread == thread)) cells

-- ---- what a clock covers

-- the clock counts the call of this thread
abbrev pub is_covered : List ℕ → ℕ → Witness → Bool
is_covered clock thread witness = nat_le witness.stamp.number (component clock thread)

abbrev pub IsCovered : List ℕ → ℕ → Witness → Type 0
IsCovered clock thread witness = witness.stamp.number ≤ component clock thread

-- none of a point's cells is uncovered by the clock, or this one is, and none that is uncovered has a later place
abbrev pub IsLatestUncovered : List PointCells → Point → List ℕ → Option Witness → Type 0
IsLatestUncovered store point clock None = (thread : ℕ) (seen : Witness) → cell_at store point thread ≡ Some seen → IsCovered clock thread seen
IsLatestUncovered store point clock (Some latest) =
    ((thread : ℕ) × (cell_at store point thread ≡ Some latest) × ¬ (IsCovered clock thread latest))
    × ((thread : ℕ) (seen : Witness) → cell_at store point thread ≡ Some seen → ¬ (IsCovered clock thread seen) → seen.place ≤ latest.place)

-- ---- what changes

-- the cells are the same, and there is no less room
pub record IsSameStore (old new : List PointCells) : Type 0 where
  pub cells : (point : Point) → cells_at new point ≡ cells_at old point
  pub count : cell_count new ≡ cell_count old
  pub spare : (point : Point) → spare_at old point ≤ spare_at new point

-- the thread has a cell at the point, or there is room for one
abbrev pub HasRoom : List PointCells → ℕ → Point → Type 0
HasRoom store thread point = IsSome (cell_at store point thread) ⊎ (1 ≤ spare_at store point)

-- where a thread's cell of a point stands, or will stand: at the index of the point, and at this place among its cells
pub record IsSeat (store : List PointCells) (thread : ℕ) (point : Point) (seat : Seat) : Type 0 where
  pub at : point_at store seat.index ≡ Some point
  pub place : seat.place ≡ place_of (cells_at store point) thread
  pub room : HasRoom store thread point

-- one where the thread has no cell at the point
abbrev pub new_cells : List PointCells → Point → ℕ → ℕ
new_cells store point thread = if is_some (cell_at store point thread) then 0 else 1

-- the thread's cell at the point is this one, and all else is as before
pub record IsTouched (old new : List PointCells) (point : Point) (thread : ℕ) (witness : Witness) : Type 0 where
  pub own : cell_at new point thread ≡ Some witness
  pub others : (other : ℕ) → other ≢ thread → cell_at new point other ≡ cell_at old point other
  pub points : (other : Point) → other ≢ point → cells_at new other ≡ cells_at old other
  pub spare : spare_at new point + new_cells old point thread ≡ spare_at old point
  pub spares : (other : Point) → other ≢ point → spare_at new other ≡ spare_at old other
  pub count : cell_count new ≡ cell_count old + new_cells old point thread

-- a cell that the clock doesn't cover
abbrev pub uncovered : List ℕ → ℕ → Option Witness → Option Witness
uncovered clock thread None = None
uncovered clock thread (Some seen) = if is_covered clock thread seen then None else Some seen

-- exactly the cells that the clock covers are gone
abbrev pub IsSwept : List ℕ → List PointCells → List PointCells → Type 0
IsSwept clock old new = (point : Point) (thread : ℕ) → cell_at new point thread ≡ uncovered clock thread (cell_at old point thread)
