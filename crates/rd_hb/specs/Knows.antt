-- What is known after a list of events: what a clock counts that carries on from some places (Fidge 1988 and Mattern 1989).
use Rattle.std.specs.Prelude.{◌≡◌, ◌⊎◌, ℕ, List, length, Some, slice_get}
use Rattle.rd_event.specs.declared.events.Event.{Event}
use Rattle.rd_order.specs.Order.{IsOf, Reaches, forked_thread}
use Rattle.rd_order.specs.Counts.{Counts}

-- ---- where a clock carries on from

-- thread t carries on from place m: its event is of t, or forks t
abbrev pub Carries : List Event → ℕ → ℕ → Type 0
Carries es t m = IsOf es t m ⊎ ((e : Event) × (slice_get es m ≡ Some e) × (forked_thread e ≡ Some t))

-- ---- what is known there

-- from the places with P place k is known: it is one of them, or reaches one
abbrev pub Knows : List Event → (ℕ → Type 0) → ℕ → Type 0
Knows es P k = P k ⊎ ((m : ℕ) × P m × Reaches es k m)

-- of the events of thread u, c are known from the places with P
abbrev pub KnownCount : List Event → (ℕ → Type 0) → ℕ → ℕ → Type 0
KnownCount es P u c = Counts (λ k. IsOf es u k × Knows es P k) (length es) c
