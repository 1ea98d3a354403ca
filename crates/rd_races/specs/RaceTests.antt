-- Racing by tests, for what has to be computed. Which calls commute is told by a test. `law_of_races` says that these agree with
-- the definitions.
use Rattle.std.specs.Prelude.{ℕ, zero, suc, ◌==◌, nat_lt, Bool, false, not, ◌&&◌, if◌then◌else◌, List, Option, Some, None, IsTrue, slice_get}
use Rattle.rd_event.specs.declared.events.Call.{Call as CallOf}
use Rattle.rd_event.specs.declared.events.Event.{Event}
use Rattle.rd_event.specs.declared.events.Event.TheVariants.{Call}
use Rattle.rd_order.specs.OrderTests.{reaches}

-- the calls that pass a test of commuting
abbrev pub Passing : (CallOf → CallOf → Bool) → CallOf → CallOf → Type 0
Passing commuting a b = IsTrue (commuting a b)

-- both are calls, on one object, and they don't commute
abbrev pub are_apart : (CallOf → CallOf → Bool) → Option Event → Option Event → Bool
are_apart commuting (Some (Call a)) (Some (Call b)) = (a.object == b.object) && not (commuting a b)
are_apart commuting _ _ = false

-- the calls at the two places race
unfoldable pub is_racing : (CallOf → CallOf → Bool) → List Event → ℕ → ℕ → Bool
is_racing commuting es i j = nat_lt i j && (are_apart commuting (slice_get es i) (slice_get es j) && not (reaches es i j))

-- the last number below n that passes
abbrev pub last_below : (ℕ → Bool) → ℕ → Option ℕ
last_below test zero = None
last_below test (suc n) = if test n then Some n else last_below test n

-- the latest place whose call races with the one at place j
unfoldable pub latest_of : (CallOf → CallOf → Bool) → List Event → ℕ → Option ℕ
latest_of commuting es j = last_below (λ i. is_racing commuting es i j) j
