-- Runs that come to the same end in every order of their events: this project's profile.
use Rattle.std.specs.Prelude.{◌≡◌, ◌↔◌, ◌++◌, ℕ, Bool, List, Option, Some, map, option_map, slice_get}
use Rattle.std.specs.List.{filter_map}
use Rattle.rd_event.specs.declared.events.Call.{Call as CallOf}
use Rattle.rd_event.specs.declared.events.Event.{Event}
use Rattle.rd_event.specs.declared.events.Event.TheVariants.{Call}
use Rattle.rd_ecl.specs.Specified.{SpecifiedKind}
use Rattle.rd_object.specs.Machines.{Machine}
use Rattle.rd_object.specs.declared.shapes.Shape.{Shape}
use Rattle.rd_order.specs.Order.{Reaches, call_in}
use Rattle.rd_order.specs.EventLists.{WellFormed}
use Rattle.rd_replay.specs.Replays.{Recorded, held_by}
use Rattle.rd_races.specs.Commuting.{Commute}
use Rattle.rd_linear.specs.Orders.{IsLinear, in_order}
use Rattle.rd_races.specs.Races.{Reported}

-- the call of an event, as a replay takes it; the number of its line doesn't matter
abbrev pub recorded_in : Event → Option Recorded
recorded_in e = option_map (λ call. (0, call)) (call_in e)

-- the calls of a list of events, in their order
abbrev pub recorded_calls : List Event → List Recorded
recorded_calls es = filter_map recorded_in es

-- kinds of which these are the machines of the first
abbrev pub kinds_from : List Machine → List SpecifiedKind → List SpecifiedKind
kinds_from machines more = map (λ machine. machine.kind) machines ++ more

-- what an object holds behind its own calls among these events, by machines and the kinds of the objects
abbrev pub held_behind : List Machine → List ℕ → List Event → ℕ → Option Shape
held_behind machines kinds es object = held_by machines kinds (recorded_calls es) object

-- each call is on an object of its kind
abbrev pub AreOnObjects : List ℕ → List Event → Type 0
AreOnObjects kinds es = (i : ℕ) (call : CallOf) → slice_get es i ≡ Some (Call call) → slice_get kinds call.object ≡ Some call.kind

-- the objects hold these, by their numbers, behind the calls of the events
abbrev pub Ends : List Machine → List ℕ → List Event → List Shape → Type 0
Ends machines kinds es shapes = (object : ℕ) (shape : Shape) → slice_get shapes object ≡ Some shape → held_behind machines kinds es object ≡ Some shape

-- no call is reported
abbrev pub NoneReported : List SpecifiedKind → List Event → Type 0
NoneReported kinds es = (j : ℕ) → ¬ (Reported (Commute kinds) es j)

-- Deterministic: in every order of the events that keeps what reaches what, the list is well-formed, the same pairs of events reach each other,
-- and each object's calls lead its machine to the same shape.
pub record IsDeterministic (machines : List Machine) (roots : ℕ → Bool) (objects : List ℕ) (es : List Event) (shapes : List Shape) : Type 0 where
  pub formed : (places : List ℕ) → IsLinear es places → WellFormed roots (in_order es places)
  pub reaches : (places : List ℕ) → IsLinear es places → (i j p q : ℕ) → slice_get places i ≡ Some p → slice_get places j ≡ Some q
      → (Reaches (in_order es places) i j ↔ Reaches es p q)
  pub ends : (places : List ℕ) → IsLinear es places → Ends machines objects (in_order es places) shapes
