-- A store as the code holds it.
use Rattle.std.specs.Prelude.{◌≡◌, ℕ, zero, suc, ◌+◌, ◌-◌, ◌==◌, List, [], ◌∷◌, map, fold, filter, length, not, nat_le, Option, Some, None, if◌then◌else◌, vec_len, vec_capacity}
use Rattle.std.specs.Global.{Global}
use Rattle.std.specs.declared.rc.Rc.{Rc}
use Rattle.std.specs.declared.vec.Vec.{Vec}
use Rattle.rd_points.specs.declared.points.Point.{Point}
use Rattle.rd_store.specs.declared.Witness.{Witness}
use Rattle.rd_store.specs.Stores.{Cell, PointCells, HasOneEach, cell_count, is_covered}

-- a cell as the code holds it
abbrev pub Held : Type 0
Held = ℕ × Rc Witness Global

-- the cells of a point as the code holds them
abbrev pub Cells : Type 0
Cells = Vec Held Global

-- as contracts see it
abbrev pub cell : Held → Cell
cell held = record { thread = held.0; witness = held.1.value }

-- the cells as contracts see them
abbrev pub cells_of : Cells → List Cell
cells_of cells = map cell cells.items

-- how many more cells a point can take without memory
abbrev pub room_of : Cells → ℕ
room_of cells = vec_capacity cells - vec_len cells

-- the points that were entered, each with what is held of it, as contracts see them
abbrev pub held_entries : List (Point × Cells) → List PointCells
held_entries entries = map (λ e. record { point = e.0; cells = cells_of e.1; spare = room_of e.1 }) entries

-- no two cells of a point are of one thread
abbrev pub HaveOneEach : List (Point × Cells) → Type 0
HaveOneEach [] = Unit {0}
HaveOneEach (e ∷ entries) = HasOneEach (cells_of e.1) × HaveOneEach entries

-- what is true of the fields of every store: at most one cell for each thread at a point, and the count is that of the cells
pub record AreStoreFields (entries : List (Point × Cells)) (count : ℕ) : Type 0 where
  pub one_each : HaveOneEach entries
  pub counted : count ≡ cell_count (held_entries entries)

-- the cells with this one in the place of the first of its thread, or last where there is none
abbrev pub with_cell : List Cell → ℕ → Witness → List Cell
with_cell [] thread witness = record { thread = thread; witness = witness } ∷ []
with_cell (cell ∷ cells) thread witness =
    if cell.thread == thread then record { thread = thread; witness = witness } ∷ cells else cell ∷ with_cell cells thread witness

-- the later of what was found before and a cell, where the clock doesn't cover it
abbrev pub later_found : List ℕ → Option Witness → Cell → Option Witness
later_found clock None cell = if is_covered clock cell.thread cell.witness then None else Some cell.witness
later_found clock (Some found) cell =
    if is_covered clock cell.thread cell.witness then Some found else if nat_le cell.witness.place found.place then Some found else Some cell.witness

-- the latest that the clock doesn't cover, of cells from the first on
abbrev pub latest_in_cells : List ℕ → List Cell → Option Witness
latest_in_cells clock cells = fold (later_found clock) None cells

-- the cells that the clock doesn't cover
abbrev pub live : List ℕ → List Cell → List Cell
live clock cells = filter (λ cell. not (is_covered clock cell.thread cell.witness)) cells

-- what is held of a point, without the cells that the clock covers, whose room is spare then
abbrev pub swept : List ℕ → PointCells → PointCells
swept clock held = record { point = held.point; cells = live clock held.cells; spare = held.spare + (length held.cells - length (live clock held.cells)) }

-- the same at one place alone
abbrev pub swept_at : List ℕ → List PointCells → ℕ → List PointCells
swept_at clock [] place = []
swept_at clock (held ∷ store) zero = swept clock held ∷ store
swept_at clock (held ∷ store) (suc place) = held ∷ swept_at clock store place

-- the same at each place below
abbrev pub swept_below : List ℕ → List PointCells → ℕ → List PointCells
swept_below clock [] place = []
swept_below clock (held ∷ store) zero = held ∷ store
swept_below clock (held ∷ store) (suc place) = swept clock held ∷ swept_below clock store place
