-- Paths to a place of which each step goes as far as a path may: this project's profile.
use Rattle.std.specs.Prelude.{◌≡◌, ◌⊎◌, ℕ, zero, suc, ◌-◌, ◌<◌, ◌≤◌, ◌==◌, ◌&&◌, ◌||◌, if◌then◌else◌, Bool, List, [], ◌∷◌, length, Option, Some, None, slice_index_or}
use Rattle.rd_event.specs.declared.events.Event.{Event}
use Rattle.rd_order.specs.Order.{Edge, Reaches}
use Rattle.rd_order.specs.OrderTests.{is_edge, reaches}

-- place m is j or reaches it
abbrev pub Comes : List Event → ℕ → ℕ → Type 0
Comes es j m = (m ≡ j) ⊎ Reaches es m j

-- an edge leads from the place to k, which is j or reaches it
abbrev pub LeadsOn : List Event → ℕ → ℕ → ℕ → Type 0
LeadsOn es j place k = Edge es place k × Comes es j k

-- the farthest next place on the way to j: the greatest to which such an edge leads; none where there is no such edge
abbrev pub IsFarthest : List Event → ℕ → ℕ → Option ℕ → Type 0
IsFarthest es j place None = (k : ℕ) → ¬ (LeadsOn es j place k)
IsFarthest es j place (Some next) = LeadsOn es j place next × ((k : ℕ) → LeadsOn es j place k → k ≤ next)

-- from the place through these to the last of them, each the farthest next place of the one in front of it
abbrev pub GoesFarthest : List Event → ℕ → ℕ → List ℕ → ℕ → Type 0
GoesFarthest es j place [] last = place ≡ last
GoesFarthest es j place (next ∷ places) last = IsFarthest es j place (Some next) × GoesFarthest es j next places last

-- the farthest path from i to j: i first, j last, and each place the farthest next one of the one in front of it
abbrev pub IsFarthestPath : List Event → ℕ → List ℕ → ℕ → Type 0
IsFarthestPath es i places j = (behind : List ℕ) × (places ≡ i ∷ behind) × GoesFarthest es j i behind j

-- the farthest next place of the place before j, of the one before that, and so on
abbrev pub AreFarthestSteps : List Event → ℕ → List (Option ℕ) → Type 0
AreFarthestSteps es j steps = (back : ℕ) → back < length steps → IsFarthest es j (j - back - 1) (slice_index_or steps back None)

-- ---- the path as a function

-- the greatest number below n that passes the test; the other number where none does
abbrev pub last_below_or : (ℕ → Bool) → ℕ → ℕ → ℕ
last_below_or test zero other = other
last_below_or test (suc n) other = if test n then n else last_below_or test n other

-- an edge leads from the place to k, which is j or reaches it
unfoldable pub leads_on : List Event → ℕ → ℕ → ℕ → Bool
leads_on es j place k = is_edge es place k && ((k == j) || reaches es k j)

-- the greatest such place
unfoldable pub farthest_next : List Event → ℕ → ℕ → ℕ
farthest_next es j place = last_below_or (leads_on es j place) (length es) j

-- from the place to j, by at most so many steps
abbrev pub farthest_from : List Event → ℕ → ℕ → ℕ → List ℕ
farthest_from es j zero place = place ∷ []
farthest_from es j (suc left) place = place ∷ (if place == j then [] else farthest_from es j left (farthest_next es j place))

-- the farthest path from i, which reaches j, to j
unfoldable pub farthest_path : List Event → ℕ → ℕ → List ℕ
farthest_path es i j = farthest_from es j (length es) i
