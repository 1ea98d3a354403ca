-- What objects hold in the end, by the calls on them without their lines: this project's profile.
use Rattle.std.specs.Prelude.{◌≡◌, ℕ, ◌<◌, ◌==◌, List, [], ◌∷◌, length, filter, map, slice_get, Option, Some}
use Rattle.std.specs.Option.{option_and_then}
use Rattle.rd_event.specs.declared.events.Call.{Call}
use Rattle.rd_object.specs.Machines.{Machine}
use Rattle.rd_object.specs.declared.shapes.Shape.{Shape}
use Rattle.rd_replay.specs.Replays.{Recorded, object_machine, result_of, shape_after, step_at}

-- recorded calls without their lines
abbrev pub without_lines : List Recorded → List Call
without_lines calls = map (λ recorded. recorded.1) calls

-- those on an object, in their order
abbrev pub calls_of : ℕ → List Call → List Call
calls_of object calls = filter (λ call. call.object == object) calls

-- the shape to which a machine goes by these calls one after another, where each gives what was recorded
abbrev pub end_shape : Machine → Shape → List Call → Option Shape
end_shape machine shape [] = Some shape
end_shape machine shape (call ∷ calls) = option_and_then (λ next. end_shape machine next calls) (shape_after (step_at machine shape call) (result_of call.slots))

-- what an object holds behind its own calls among these
abbrev pub held_in_the_end : List ℕ → List Call → ℕ → Option Shape
held_in_the_end kinds calls object =
    option_and_then (λ machine. end_shape machine machine.first (calls_of object calls)) (object_machine kinds object)

-- these are the end shapes of objects of these kinds, one for each, in the order of their numbers
pub record AreEndShapes (kinds : List ℕ) (calls : List Call) (shapes : List Shape) : Type 0 where
  pub count : length shapes ≡ length kinds
  pub each : (object : ℕ) → object < length kinds → held_in_the_end kinds calls object ≡ slice_get shapes object
