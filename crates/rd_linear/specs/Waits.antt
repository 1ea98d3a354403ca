-- What an event waits for: places before it, so few that where they stand all stand that reach it. This project's profile.
use Rattle.std.specs.Prelude.{◌⊎◌, ℕ, List}
use Rattle.rd_event.specs.declared.events.Event.{Event}
use Rattle.rd_order.specs.Order.{Reaches}
use Rattle.rd_linear.specs.Linear.{Stands}

-- these are waits of the event at a place
pub record AreWaits (es : List Event) (place : ℕ) (waits : List ℕ) : Type 0 where
  -- each of them reaches the place
  pub reach : (w : ℕ) → Stands waits w → Reaches es w place
  -- what reaches the place is one of them, or reaches another one that does
  pub rest : (k : ℕ) → Reaches es k place → Stands waits k ⊎ ((m : ℕ) × Reaches es k m × Reaches es m place)

-- all of these stand among the places
abbrev pub AllStand : List ℕ → List ℕ → Type 0
AllStand places waits = (w : ℕ) → Stands waits w → Stands places w
