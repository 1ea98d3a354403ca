-- Clocks by tests, for what has to be computed.
use Rattle.std.specs.Prelude.{ℕ, zero, suc, ◌==◌, Bool, false, ◌&&◌, ◌||◌, if◌then◌else◌, List, length, Option, Some, None, slice_get}
use Rattle.rd_event.specs.declared.events.Event.{Event}
use Rattle.rd_order.specs.Order.{thread_of}
use Rattle.rd_order.specs.OrderTests.{reaches}

-- how many numbers below n pass
abbrev pub count_below : (ℕ → Bool) → ℕ → ℕ
count_below test zero = 0
count_below test (suc n) = if test n then suc (count_below test n) else count_below test n

-- it is an event of thread t
abbrev pub is_of : Option Event → ℕ → Bool
is_of None t = false
is_of (Some e) t = thread_of e == t

-- the clock of place j at thread t: how many events of t are at j or reach it
unfoldable pub clock_at : List Event → ℕ → ℕ → ℕ
clock_at es j t = count_below (λ k. is_of (slice_get es k) t && ((k == j) || reaches es k j)) (length es)
