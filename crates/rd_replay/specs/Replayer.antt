-- What a replayer keeps of the objects and calls that it was told of.
use Rattle.std.specs.Prelude.{◌≡◌, ℕ, ◌<◌, List, length, slice_get, All, Some}
use Rattle.rd_ecl.specs.Specified.{slots_at}
use Rattle.rd_event.specs.declared.events.Call.{Call}
use Rattle.rd_kinds.specs.Machines.{machine_of}
use Rattle.rd_kinds.specs.Objects.{object_kind, shape_of}
use Rattle.rd_kinds.specs.declared.objects.Object.{Object}
use Rattle.rd_object.specs.Machines.{Machine}
use Rattle.rd_object.specs.declared.shapes.ReplayEnd.{ReplayEnd}
use Rattle.rd_object.specs.declared.shapes.ReplayEnd.TheVariants.{Exact, Differs, NotShipped}
use Rattle.rd_replay.specs.Replays.{Recorded, held_shape, replay_end}
use Rattle.rd_replay.specs.declared.replayer.Match.{Match}
use Rattle.rd_replay.specs.declared.replayer.Match.TheVariants as match
use Rattle.rd_replay.specs.declared.replayer.Replayer.{Replayer}

-- the object is of the kind with this number, and holds what the calls on it leave
pub record IsHeld (kinds : List ℕ) (calls : List Recorded) (number kind : ℕ) (object : Object) : Type 0 where
  pub kind_is : object_kind object ≡ kind
  pub holds : held_shape kinds calls number ≡ Some (shape_of object)

-- so is each object, by its number
pub record AreObjectsHeld (kinds : List ℕ) (calls : List Recorded) (objects : List Object) : Type 0 where
  pub count : length objects ≡ length kinds
  pub each : (number kind : ℕ) (object : Object) → slice_get kinds number ≡ Some kind → slice_get objects number ≡ Some object
      → IsHeld kinds calls number kind object

-- The replayer stands for objects of these kinds and for these calls with the numbers of their lines: it keeps how their replay ends, and
-- while each call gave what was recorded, it keeps the objects.
pub record ReplayerStandsFor (replayer : Replayer) (kinds : List ℕ) (calls : List Recorded) : Type 0 where
  pub end : replayer.end ≡ replay_end kinds calls
  pub declared : All (λ (recorded : Recorded). recorded.1.object < length kinds) calls
  pub objects : replayer.end ≡ Exact → AreObjectsHeld kinds calls replayer.objects.items

-- the call may be told next: its object is declared with its kind, and where that is built in, its method is the kind's and it has as many
-- slots as the method, its result among them
pub record IsRecordable (kinds : List ℕ) (call : Call) : Type 0 where
  pub declared : slice_get kinds call.object ≡ Some call.kind
  pub fits : (machine : Machine) → machine_of call.kind ≡ Some machine
      → (0 < length call.slots) × (call.method < length machine.kind.methods) × (slots_at machine.kind.methods call.method ≡ length call.slots)

-- how a call compares with the record, by how the replay ends before it and with it
abbrev pub match_of : ReplayEnd → ReplayEnd → Match
match_of NotShipped now = match.NotShipped
match_of (Differs line expected) now = match.Stopped
match_of Exact (Differs line expected) = match.Differs
match_of Exact now = match.Same
