-- What is told of two places of a trace: this project's profile.
use Rattle.std.specs.Prelude.{◌≡◌, ◌⊎◌, ℕ, List, Some, slice_get, ⊤}
use Rattle.rd_event.specs.declared.events.Call.{Call as CallOf}
use Rattle.rd_event.specs.declared.events.Event.{Event}
use Rattle.rd_event.specs.declared.events.Event.TheVariants.{Call}
use Rattle.rd_order.specs.Paths.{IsFarthestPath}
use Rattle.rd_adjacent.specs.declared.calls.NotAdjacent.{NotAdjacent}
use Rattle.rd_adjacent.specs.declared.calls.NotAdjacent.TheVariants.{Ordered, NotACall, NoMemory}

-- the event at the place is a call
abbrev pub IsCallAt : List Event → ℕ → Type 0
IsCallAt es place = (call : CallOf) × (slice_get es place ≡ Some (Call call))

-- why two places aren't set side by side: the first that is no call; or else, of two calls, the path between them. Want of memory says nothing.
abbrev pub IsNotAdjacent : List Event → ℕ → ℕ → NotAdjacent → Type 0
IsNotAdjacent es i j (NotACall place) = ((place ≡ i) × ¬ (IsCallAt es i)) ⊎ ((place ≡ j) × IsCallAt es i × ¬ (IsCallAt es j))
IsNotAdjacent es i j (Ordered places) = IsCallAt es i × IsCallAt es j × IsFarthestPath es i places j
IsNotAdjacent es i j NoMemory = ⊤
