-- Other orders of the same events: this project's profile.
use Rattle.std.specs.Prelude.{◌≡◌, ◌<◌, ◌==◌, ◌+◌, ℕ, if◌then◌else◌, List, ◌++◌, ◌∷◌, Some, slice_get, length, filter_map, IsPermutation}
use Rattle.std.specs.List.{range_with_len}
use Rattle.rd_event.specs.declared.events.Event.{Event}
use Rattle.rd_order.specs.Order.{Reaches}

-- where the event at k stands once those at i and i + 1 are exchanged
unfoldable pub exchanged : ℕ → ℕ → ℕ
exchanged i k = if k == i then i + 1 else (if k == i + 1 then i else k)

-- in this list of places, one that leads to another by R stands before it
abbrev pub Keeps : (ℕ → ℕ → Type 0) → List ℕ → Type 0
Keeps R places = (p q j k : ℕ) → R p q → slice_get places j ≡ Some p → slice_get places k ≡ Some q → j < k

-- all places of the events, each once, and one that reaches another before it
pub record IsLinear (es : List Event) (places : List ℕ) : Type 0 where
  pub all : IsPermutation (range_with_len 0 (length es)) places
  pub keeps : Keeps (Reaches es) places

-- the events at these places
abbrev pub in_order : List Event → List ℕ → List Event
in_order es places = filter_map (slice_get es) places

-- reached from the places in their order by exchanging neighbours of which the first doesn't reach the second
pub data IsReached (es : List Event) : List ℕ → Type 0 where
  start : IsReached es (range_with_len 0 (length es))
  exchange : (xs ys : List ℕ) (p q : ℕ) → ¬ (Reaches es p q) → IsReached es (xs ++ p ∷ q ∷ ys) → IsReached es (xs ++ q ∷ p ∷ ys)
