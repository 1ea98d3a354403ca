-- What `replay` writes. This project's profile.
use Rattle.rd_report.specs.Endings.{thread_names, ending_of_report, check_status}
use Rattle.rd_ecl.specs.Kinds.{Kind, kinds_of}
use Rattle.rd_io.specs.Inputs.{fault_line}
use Rattle.rd_kinds.specs.Shipped.{shipped_kinds}
use Rattle.rd_object.specs.declared.shapes.ReplayEnd.TheVariants.{Exact}
use Rattle.rd_object.specs.declared.shapes.Shape.{Shape}
use Rattle.rd_replay.specs.Replays.{Recorded, held_shape}
use Rattle.rd_report.specs.States.{state_line}
use Rattle.rd_report.specs.Texts.{name_of, refused_line, replay_line}
use Rattle.rd_report.specs.declared.endings.Ending.TheVariants as report
use Rattle.rd_report.specs.declared.endings.Ending.{Ending}
use Rattle.rd_walk.specs.Output.{Outcome}
use Rattle.rd_replay_command.specs.Replaying.{recorded_of, replay_of}
use Rattle.rd_walk.specs.Traces.{ReportTexts}
use Rattle.rd_walk.specs.Walk.{Entry, Walked, ending_of, entries_of, items, trace_says}
use Rattle.rd_rules.specs.MayFollow.{object_kinds, objects_of}
use Rattle.std.specs.Prelude.{ℕ, Bool, true, false, zero, suc, List, [], ◌++◌, length, Option, Some, None}

-- the line that tells what an object with this name holds, where its calls lead it to a shape
abbrev pub held_text : List ℕ → Option Shape → List ℕ
held_text name None = []
held_text name (Some shape) = state_line name shape

-- those of the objects with the first numbers, in order of their numbers, by the names and the kinds of all objects and the calls on them
unfoldable pub states_before : List (List ℕ) → List ℕ → List Recorded → ℕ → List ℕ
states_before names kinds calls zero = []
states_before names kinds calls (suc object) =
    states_before names kinds calls object ++ held_text (name_of names object) (held_shape kinds calls object)

-- what each object holds behind the calls of the accepted lines
abbrev pub states_text : List Kind → List Entry → List ℕ
states_text kinds entries =
    states_before (objects_of (items entries)) (object_kinds kinds (items entries)) (recorded_of kinds entries) (length (objects_of (items entries)))

-- the trace was read to its end, and the replay is exact
abbrev pub is_exact : Ending → Bool
is_exact (report.End Exact shown) = true
is_exact _ = false

-- what `replay` writes: how the replay ended, and where it is exact what each object holds, or the line of a refusal or of a fault alone
abbrev pub replayed_text : List (List ℕ) → List ℕ → Ending → List ℕ
replayed_text names states (report.End Exact shown) = replay_line Exact ++ states
replayed_text names states (report.End replay shown) = replay_line replay
replayed_text names states (report.Refused number cause) = refused_line names number cause
replayed_text names states report.Fault = fault_line

-- `replay` on a trace with objects of these kinds. It answers as `check` does where no call is reported.
abbrev pub replay_outcome : List Kind → Walked → Outcome
replay_outcome kinds walked =
    let entries = entries_of walked in
    let ending = ending_of_report 0 (replay_of kinds entries) (ending_of walked) in
    record { text = replayed_text (thread_names entries) (states_text kinds entries) ending; status = check_status 0 ending }

-- nothing is written for the lines, and no step is counted
abbrev pub replay_texts : List Kind → ReportTexts
replay_texts kinds =
    record { says = trace_says; lines = λ entries. []; outcome = replay_outcome kinds; bound = λ before item. 0; unopened = fault_line }

-- those of a trace that is replayed
abbrev pub built_in_kinds : List Kind
built_in_kinds = kinds_of shipped_kinds
