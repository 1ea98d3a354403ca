-- An order that is made one event at a time, by whichever ready thread a number picks: this project's profile. It is told for places below a
-- count, by their threads and by a test of which place reaches which.
use Rattle.std.specs.Prelude.{◌==◌, ◌&&◌, ◌||◌, ◌/◌, ◌%◌, ◌++◌, not, ℕ, zero, suc, Bool, if◌then◌else◌, List, [], ◌∷◌, Option, Some, None, length, slice_index_or, filter_map}
use Rattle.std.specs.List.{range_with_len, list_any, list_all, find}

-- the place is one of those that are placed
abbrev pub is_placed : List ℕ → ℕ → Bool
is_placed placed place = list_any (λ q. q == place) placed

-- the place, where it passes the test
abbrev pub keep_if : (ℕ → Bool) → Option ℕ → Option ℕ
keep_if test None = None
keep_if test (Some place) = if test place then Some place else None

-- the first place of a thread that isn't placed, where all places that reach it are
unfoldable pub ready_at : ℕ → (ℕ → ℕ) → (ℕ → ℕ → Bool) → List ℕ → ℕ → Option ℕ
ready_at count thread_at reaches placed thread =
    keep_if (λ place. list_all (λ k. not (reaches k place) || is_placed placed k) (range_with_len 0 count))
    (find (λ place. (thread_at place == thread) && not (is_placed placed place)) (range_with_len 0 count))

-- those of the threads that are ready, in the order of the threads
abbrev pub choices : ℕ → (ℕ → ℕ) → (ℕ → ℕ → Bool) → List ℕ → List ℕ → List ℕ
choices count thread_at reaches threads placed = filter_map (ready_at count thread_at reaches placed) threads

-- The places with so many turns more. At each the remainder of the number by how many threads are ready picks one of them, from 0, and the
-- quotient is the number for the next turn.
abbrev pub turns : ℕ → (ℕ → ℕ) → (ℕ → ℕ → Bool) → List ℕ → ℕ → ℕ → List ℕ → List ℕ
turns count thread_at reaches threads zero number placed = placed
turns count thread_at reaches threads (suc left) number placed =
    turns count thread_at reaches threads left (number / length (choices count thread_at reaches threads placed))
    (placed ++ slice_index_or (choices count thread_at reaches threads placed) (number % length (choices count thread_at reaches threads placed)) 0 ∷ [])
