-- What a report of `replay` says of the bytes of a trace, in the words of accepted lines and of replays. This project's profile.
use Rattle.std.specs.Prelude.{◌≡◌, ℕ, ◌<◌, true, false, List, [], All, length}
use Rattle.rd_base.specs.declared.limits.Limits.{Limits}
use Rattle.rd_io.specs.Lines.{Stop, reading}
use Rattle.rd_object.specs.declared.shapes.ReplayEnd.TheVariants.{Exact, Differs, NotShipped}
use Rattle.rd_object.specs.declared.shapes.ReplayEnd.{ReplayEnd}
use Rattle.rd_replay.specs.Replays.{FirstDiffers, Recorded, ReplaysAll, all_shipped}
use Rattle.rd_report.specs.Endings.{check_status, ending_of_report, thread_names}
use Rattle.rd_replay_command.specs.Replaying.{recorded_of}
use Rattle.rd_replay_command.specs.States.{built_in_kinds, replayed_text, states_text}
use Rattle.rd_walk.specs.AcceptedLines.{IsWalk}
use Rattle.rd_walk.specs.Output.{Outcome}
use Rattle.rd_walk.specs.Walk.{Entry, items}
use Rattle.rd_walk.specs.declared.walk.WalkEnd.{WalkEnd}
use Rattle.rd_rules.specs.MayFollow.{object_kinds}

-- How the replay of calls on objects of these kinds ends: each object's calls alone lead its machine from the first shape to one that it has in
-- the end; or this line has the first call that gives something else than was recorded, and this is what the machine gives there; or some kind
-- isn't built in.
abbrev pub ReplayEndsSo : List ℕ → List Recorded → ReplayEnd → Type 0
ReplayEndsSo kinds calls Exact = ReplaysAll kinds calls
ReplayEndsSo kinds calls (Differs line expected) = (all_shipped kinds ≡ true) × FirstDiffers kinds [] calls line expected
ReplayEndsSo kinds calls NotShipped = all_shipped kinds ≡ false

-- What `replay` writes and answers for the bytes of a trace whose reading ends so: how the lines end, and at the end of the trace how the replay
-- of the calls does, and where it is exact what each object holds.
pub record IsReplayed (limits : Limits) (stop : Stop) (bytes : List ℕ) (outcome : Outcome) : Type 0 where
  -- the accepted lines, and how they end
  pub entries : List Entry
  pub ending : WalkEnd
  pub walk : IsWalk built_in_kinds limits [] 1 (reading limits.line limits.bytes stop bytes) entries ending
  -- their calls are on declared objects, and so their replay ends
  pub declared : All (λ (recorded : Recorded). recorded.1.object < length (object_kinds built_in_kinds (items entries))) (recorded_of built_in_kinds entries)
  pub replay : ReplayEnd
  pub replays : ReplayEndsSo (object_kinds built_in_kinds (items entries)) (recorded_of built_in_kinds entries) replay
  -- what is written, and the status
  pub text : outcome.text ≡ replayed_text (thread_names entries) (states_text built_in_kinds entries) (ending_of_report 0 replay ending)
  pub status : outcome.status ≡ check_status 0 (ending_of_report 0 replay ending)
