-- Replays of calls on one object.
use Rattle.std.specs.Prelude.{◌≡◌, ℕ, ◌<◌, List, [], ◌∷◌, length, Option, Some, None, ⊤}
use Rattle.rd_base.specs.declared.values.Value.{Value}
use Rattle.rd_ecl.specs.Specified.{slots_at}
use Rattle.rd_object.specs.Machines.{Machine}
use Rattle.rd_replay.specs.Replays.{Recorded}
use Rattle.rd_replay.specs.Replayer.{ReplayerStandsFor}
use Rattle.rd_replay.specs.declared.replayer.Replayer.{Replayer}

-- the replayer stands for one object, of the kind with this number, and for some calls
pub record HasOne (replayer : Replayer) (kind : ℕ) : Type 0 where
  pub calls : List Recorded
  pub stands : ReplayerStandsFor replayer (kind ∷ []) calls

-- where the kind has a machine, the method is the kind's, and it has as many slots
abbrev pub FitsMachine : Option Machine → ℕ → List Value → Type 0
FitsMachine None method slots = ⊤
FitsMachine (Some machine) method slots =
    (0 < length slots) × (method < length machine.kind.methods) × (slots_at machine.kind.methods method ≡ length slots)
