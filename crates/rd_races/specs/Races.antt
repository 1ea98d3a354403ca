-- Races: calls that no order ties and that don't commute. Which calls commute is told by a relation on calls. This project's profile.
use Rattle.std.specs.Prelude.{◌≡◌, ℕ, ◌≤◌, List, Some, slice_get}
use Rattle.rd_event.specs.declared.events.Call.{Call as CallOf}
use Rattle.rd_event.specs.declared.events.Event.{Event}
use Rattle.rd_event.specs.declared.events.Event.TheVariants.{Call}
use Rattle.rd_order.specs.Order.{Unordered}

-- the calls at two places, the first earlier, are on one object, unordered, and don't commute
pub record Racing (Commuting : CallOf → CallOf → Type 0) (es : List Event) (i j : ℕ) : Type 0 where
  pub a : CallOf
  pub b : CallOf
  pub at_i : slice_get es i ≡ Some (Call a)
  pub at_j : slice_get es j ≡ Some (Call b)
  pub object : a.object ≡ b.object
  pub unordered : Unordered es i j
  pub apart : ¬ (Commuting a b)

-- an earlier call races with the one at this place
abbrev pub Reported : (CallOf → CallOf → Type 0) → List Event → ℕ → Type 0
Reported Commuting es j = (i : ℕ) × Racing Commuting es i j

-- the latest of them stands at place i
pub record IsLatest (Commuting : CallOf → CallOf → Type 0) (es : List Event) (j i : ℕ) : Type 0 where
  pub racing : Racing Commuting es i j
  pub latest : (k : ℕ) → Racing Commuting es k j → k ≤ i
