-- Vector clocks, as lists of components (Fidge 1988, Mattern 1989).
use Rattle.std.specs.Prelude.{◌≡◌, ◌≢◌, ℕ, ◌+◌, max, min, List, slice_index_or}

-- the component of a thread, 0 past the end
abbrev pub component : List ℕ → ℕ → ℕ
component clock thread = slice_index_or clock thread 0

-- one more for the thread, and the same for each other
pub record IsTick (old new : List ℕ) (thread : ℕ) : Type 0 where
  pub ticked : component new thread ≡ component old thread + 1
  pub others : (other : ℕ) → other ≢ thread → component new other ≡ component old other

-- at least that number for the thread, and the same for each other
pub record IsRaise (old new : List ℕ) (thread number : ℕ) : Type 0 where
  pub raised : component new thread ≡ max (component old thread) number
  pub others : (other : ℕ) → other ≢ thread → component new other ≡ component old other

-- the greater of the two for each thread
abbrev pub IsJoin : List ℕ → List ℕ → List ℕ → Type 0
IsJoin old other new = (thread : ℕ) → component new thread ≡ max (component old thread) (component other thread)

-- the lesser of the two for each thread
abbrev pub IsMeet : List ℕ → List ℕ → List ℕ → Type 0
IsMeet old other new = (thread : ℕ) → component new thread ≡ min (component old thread) (component other thread)
