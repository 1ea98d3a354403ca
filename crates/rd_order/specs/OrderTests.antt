-- Edges and reaching by tests, for what has to be computed.
use Rattle.std.specs.Prelude.{ℕ, zero, suc, ◌==◌, nat_lt, Bool, false, ◌&&◌, ◌||◌, List, Option, Some, None, slice_get}
use Rattle.rd_event.specs.declared.events.Event.{Event}
use Rattle.rd_order.specs.Order.{thread_of, forked_thread, joined_thread, Hold, exclusive, shared, hold_taken, hold_given}

-- the thread is this one
abbrev pub is_this : Option ℕ → ℕ → Bool
is_this None t = false
is_this (Some u) t = u == t

-- both are one thread
abbrev pub is_same : Option ℕ → Option ℕ → Bool
is_same None other = false
is_same (Some u) other = is_this other u

-- the holds are against one another
abbrev pub is_against : Hold → Hold → Bool
is_against (exclusive lock) (exclusive other) = lock == other
is_against (exclusive lock) (shared other) = lock == other
is_against (shared lock) (exclusive other) = lock == other
is_against (shared lock) (shared other) = false

-- the first hold is against the second
abbrev pub is_handed : Option Hold → Option Hold → Bool
is_handed (Some h) (Some k) = is_against h k
is_handed _ _ = false

-- the events are linked
unfoldable pub is_linked : Event → Event → Bool
is_linked a b =
    (thread_of a == thread_of b)
    || (is_this (forked_thread a) (thread_of b)
    || (is_this (joined_thread b) (thread_of a)
    || (is_same (forked_thread a) (joined_thread b) || is_handed (hold_given a) (hold_taken b))))

-- both are events, and linked
abbrev pub are_linked : Option Event → Option Event → Bool
are_linked (Some a) (Some b) = is_linked a b
are_linked _ _ = false

-- there is an edge from i to j
unfoldable pub is_edge : List Event → ℕ → ℕ → Bool
is_edge es i j = nat_lt i j && are_linked (slice_get es i) (slice_get es j)

-- a number below n passes
abbrev pub any_below : (ℕ → Bool) → ℕ → Bool
any_below test zero = false
any_below test (suc n) = test n || any_below test n

-- i reaches j by at most this many edges
abbrev pub reaches_within : List Event → ℕ → ℕ → ℕ → Bool
reaches_within es zero i j = false
reaches_within es (suc edges) i j =
    is_edge es i j || any_below (λ k. is_edge es k j && reaches_within es edges i k) j

-- place i reaches place j
unfoldable pub reaches : List Event → ℕ → ℕ → Bool
reaches es i j = reaches_within es j i j
