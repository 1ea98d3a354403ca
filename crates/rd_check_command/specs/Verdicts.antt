-- What the verdict `deterministic` says. This project's profile.
use Rattle.std.specs.Prelude.{◌≡◌, ℕ, ◌<◌, List, length, Some, slice_get}
use Rattle.rd_check_command.specs.Checked.{entry_events}
use Rattle.rd_ecl.specs.Kinds.{kinds_of}
use Rattle.rd_ecl.specs.Specified.{SpecifiedKind}
use Rattle.rd_kinds.specs.Machines.{shipped_machines}
use Rattle.rd_linear.specs.Determinism.{IsDeterministic}
use Rattle.rd_object.specs.declared.shapes.Shape.{Shape}
use Rattle.rd_replay.specs.Replays.{held_shape}
use Rattle.rd_replay_command.specs.Replaying.{recorded_of}
use Rattle.rd_walk.specs.Walk.{Entry, items}
use Rattle.rd_rules.specs.Events.{roots_of}
use Rattle.rd_rules.specs.MayFollow.{object_kinds}

-- the kinds of the objects of accepted lines, by their numbers
abbrev pub kinds_of_objects : List SpecifiedKind → List Entry → List ℕ
kinds_of_objects kinds entries = object_kinds (kinds_of kinds) (items entries)

-- The events of these lines are deterministic: each object has a shape to which the lines' own calls lead it, and to which the calls lead
-- it in every order of the events that keeps what comes before what; and each such order is well-formed, with the same events before one another.
pub record AreDeterministic (kinds : List SpecifiedKind) (entries : List Entry) : Type 0 where
  pub shapes : List Shape
  pub held : (object : ℕ) → object < length (kinds_of_objects kinds entries)
      → (shape : Shape) × (slice_get shapes object ≡ Some shape) × (held_shape (kinds_of_objects kinds entries) (recorded_of (kinds_of kinds) entries) object ≡ Some shape)
  pub orders : IsDeterministic shipped_machines (roots_of (items entries)) (kinds_of_objects kinds entries) (entry_events kinds entries) shapes
