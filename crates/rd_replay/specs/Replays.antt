-- Replays of recorded calls by the machines of their objects' kinds: this project's profile.
use Rattle.std.specs.Prelude.{◌≡◌, ◌⊎◌, true, ℕ, ◌-◌, ◌<◌, ◌==◌, nat_lt, Bool, if◌then◌else◌, List, [], ◌∷◌, ◌++◌, length, take, filter, slice_get, Option, Some, None, option_map}
use Rattle.std.specs.List.{list_all}
use Rattle.std.specs.Option.{option_and_then, option_or}
use Rattle.rd_base.specs.declared.values.Value.{Value as Result}
use Rattle.rd_ecl.specs.Formulas.{same_value}
use Rattle.rd_event.specs.declared.events.Call.{Call}
use Rattle.rd_kinds.specs.Machines.{shipped_machines}
use Rattle.rd_object.specs.Machines.{Machine, Step}
use Rattle.rd_object.specs.Machines.Step.{goes, refuses, unknown}
use Rattle.rd_object.specs.declared.shapes.Shape.{Shape}
use Rattle.rd_object.specs.declared.shapes.Expected.{Expected}
use Rattle.rd_object.specs.declared.shapes.Expected.TheVariants.{Value, BadArgument}
use Rattle.rd_object.specs.declared.shapes.ReplayEnd.{ReplayEnd}
use Rattle.rd_object.specs.declared.shapes.ReplayEnd.TheVariants.{Exact, Differs, NotShipped}

-- ---- one call

-- the arguments of a call, and its result
abbrev pub arguments_of : List Result → List Result
arguments_of slots = take (length slots - 1) slots

abbrev pub result_of : List Result → Option Result
result_of slots = slice_get slots (length slots - 1)

-- the step of a machine at a call
abbrev pub step_at : Machine → Shape → Call → Step
step_at machine shape call = machine.step call.method (arguments_of call.slots) shape

-- the shape to which a step goes, where its result is the recorded one
abbrev pub shape_after : Step → Option Result → Option Shape
shape_after (goes shape result) (Some recorded) = if same_value result recorded then Some shape else None
shape_after _ _ = None

-- What a step gives in place of what was recorded, where that is something else. A step that isn't known, which no call of the kind takes,
-- counts as one that refuses.
abbrev pub step_difference : Step → Option Result → Option Expected
step_difference (goes shape result) (Some recorded) = if same_value result recorded then None else Some (Value result)
step_difference (goes shape result) None = Some (Value result)
step_difference (refuses slot) recorded = Some (BadArgument slot)
step_difference unknown recorded = Some (BadArgument 0)

-- ---- the calls on an object

-- a call, with the number of its line
abbrev pub Recorded : Type 0
Recorded = ℕ × Call

abbrev pub is_on : ℕ → Recorded → Bool
is_on object recorded = recorded.1.object == object

-- those on an object, in their order
abbrev pub calls_on : ℕ → List Recorded → List Recorded
calls_on object calls = filter (is_on object) calls

-- the shape to which a machine goes by these calls one after another, where each gives what was recorded
abbrev pub shape_by : Machine → Shape → List Recorded → Option Shape
shape_by machine shape [] = Some shape
shape_by machine shape (recorded ∷ calls) =
    option_and_then (λ next. shape_by machine next calls) (shape_after (step_at machine shape recorded.1) (result_of recorded.1.slots))

-- the machine of an object, by machines, which stand in the order of the kinds' numbers, and the kinds of the objects
abbrev pub machine_by : List Machine → List ℕ → ℕ → Option Machine
machine_by machines kinds object = option_and_then (slice_get machines) (slice_get kinds object)

-- what an object holds behind its own calls among these
abbrev pub held_by : List Machine → List ℕ → List Recorded → ℕ → Option Shape
held_by machines kinds calls object =
    option_and_then (λ machine. shape_by machine machine.first (calls_on object calls)) (machine_by machines kinds object)

-- both by the machines of the kinds that are built in
abbrev pub object_machine : List ℕ → ℕ → Option Machine
object_machine kinds object = machine_by shipped_machines kinds object

abbrev pub held_shape : List ℕ → List Recorded → ℕ → Option Shape
held_shape kinds calls object = held_by shipped_machines kinds calls object

-- ---- all calls

-- what a machine gives at a call behind others in place of what was recorded
abbrev pub difference : List ℕ → List Recorded → Call → Option Expected
difference kinds before call =
    option_and_then (λ machine. option_and_then (λ shape. step_difference (step_at machine shape call) (result_of call.slots)) (held_shape kinds before call.object))
    (object_machine kinds call.object)

-- with the number of its line
abbrev pub with_line : ℕ → Option Expected → Option (ℕ × Expected)
with_line line expected = option_map (λ e. (line, e)) expected

-- the first of the calls behind others that differs: the number of its line, and what the machine gives
abbrev pub first_difference : List ℕ → List Recorded → List Recorded → Option (ℕ × Expected)
first_difference kinds before [] = None
first_difference kinds before (recorded ∷ calls) =
    option_or (with_line recorded.0 (difference kinds before recorded.1)) (first_difference kinds (before ++ recorded ∷ []) calls)

abbrev pub end_by_difference : Option (ℕ × Expected) → ReplayEnd
end_by_difference None = Exact
end_by_difference (Some first) = Differs first.0 first.1

-- the kinds are built in
abbrev pub all_shipped : List ℕ → Bool
all_shipped kinds = list_all (λ kind. nat_lt kind (length shipped_machines)) kinds

-- how the replay of calls on objects of these kinds ends
unfoldable pub replay_end : List ℕ → List Recorded → ReplayEnd
replay_end kinds calls = if all_shipped kinds then end_by_difference (first_difference kinds [] calls) else NotShipped

-- all objects are of kinds that are built in, and each object's calls alone lead its machine from the first shape to one that it has in the end
abbrev pub ReplaysAll : List ℕ → List Recorded → Type 0
ReplaysAll kinds calls = (all_shipped kinds ≡ true) × ((object : ℕ) → object < length kinds → (shape : Shape) × (held_shape kinds calls object ≡ Some shape))

-- Behind the ones before, this line has the first of the calls that gives something else than was recorded, and this is what the machine
-- gives there: it is the first of them, or that one gives what was recorded, and it is so of the others.
abbrev pub FirstDiffers : List ℕ → List Recorded → List Recorded → ℕ → Expected → Type 0
FirstDiffers kinds before [] line expected = ⊥
FirstDiffers kinds before (recorded ∷ calls) line expected =
    ((recorded.0 ≡ line) × (difference kinds before recorded.1 ≡ Some expected))
    ⊎ ((difference kinds before recorded.1 ≡ None) × FirstDiffers kinds (before ++ recorded ∷ []) calls line expected)
