-- How a trace ends, in words, and the names by which a report tells of threads and objects: this project's profile.
use Rattle.std.specs.Prelude.{ℕ, ◌+◌, Bool, true, false, List, [], ◌++◌, codes, decimal, slice_index_or}
use Rattle.rd_base.specs.Limits.{limit_cause_text}
use Rattle.rd_base.specs.Spelling.{value_spelling}
use Rattle.rd_event.specs.declared.items.Line.{Line as Item}
use Rattle.rd_io.specs.Inputs.{fault_line}
use Rattle.rd_object.specs.declared.shapes.Expected.{Expected}
use Rattle.rd_object.specs.declared.shapes.Expected.TheVariants.{Value, BadArgument}
use Rattle.rd_object.specs.declared.shapes.ReplayEnd.{ReplayEnd}
use Rattle.rd_object.specs.declared.shapes.ReplayEnd.TheVariants.{Exact, Differs, NotShipped}
use Rattle.rd_rules.specs.MayFollow.{objects_of, threads_of}
use Rattle.rd_wf.specs.Roster.{names_in, object_names_in}
use Rattle.rd_rules.specs.declared.causes.WfCause.{WfCause}
use Rattle.rd_rules.specs.declared.causes.WfCause.TheVariants as wf
use Rattle.rd_wf.specs.declared.roster.Roster.{Roster}
use Rattle.rd_rules.specs.declared.causes.TraceCause.{TraceCause}
use Rattle.rd_rules.specs.declared.causes.TraceCause.TheVariants as cause
use Rattle.rd_report.specs.declared.endings.Ending.{Ending}
use Rattle.rd_report.specs.declared.endings.Ending.TheVariants.{End, Refused, Fault}

-- ---- names

-- the names of threads and of objects, each at its number
pub record Naming : Type 0 where
  pub threads : List (List ℕ)
  pub objects : List (List ℕ)

-- the name with this number; the empty one where none has it
abbrev pub name_of : List (List ℕ) → ℕ → List ℕ
name_of names number = slice_index_or names number []

-- those that a roster has, and those of accepted lines
abbrev pub naming_in : Roster → Naming
naming_in roster = record { threads = names_in roster; objects = object_names_in roster }

abbrev pub naming : List Item → Naming
naming lines = record { threads = threads_of lines; objects = objects_of lines }

-- ---- causes

-- the text of a cause by which a line may not follow, by the names of the threads
unfoldable pub wf_text : List (List ℕ) → WfCause → List ℕ
wf_text names wf.HeaderFirst = codes "header-first"
wf_text names wf.LateRoot = codes "late-root"
wf_text names wf.NameTaken = codes "name-taken"
wf_text names wf.UnknownThread = codes "unknown-thread"
wf_text names wf.ThreadEnded = codes "thread-ended"
wf_text names wf.OwnThread = codes "own-thread"
wf_text names wf.UnknownKind = codes "unknown-kind"
wf_text names wf.UnknownObject = codes "unknown-object"
wf_text names wf.UnknownMethod = codes "unknown-method"
wf_text names wf.WrongCount = codes "wrong-count"
wf_text names (wf.LockHeld holder) = codes "lock-held " ++ name_of names holder
wf_text names wf.NotHeld = codes "not-held"
wf_text names (wf.Limit name number) = limit_cause_text name number

-- the text of a cause
unfoldable pub cause_text : List (List ℕ) → TraceCause → List ℕ
cause_text names cause.BadLine = codes "bad-line"
cause_text names cause.NoFinalNewline = codes "no-final-newline"
cause_text names (cause.Wf broken) = wf_text names broken
cause_text names (cause.Limit name number) = limit_cause_text name number

-- ---- replays

-- what a machine gives in place of what was recorded: a result, or none, since it doesn't take that argument, counted from 1
unfoldable pub expected_text : Expected → List ℕ
expected_text (Value value) = codes "expected " ++ value_spelling value
expected_text (BadArgument argument) = codes "argument " ++ decimal (argument + 1)

-- the line that tells how a replay ended
unfoldable pub replay_line : ReplayEnd → List ℕ
replay_line Exact = codes "replay exact\n"
replay_line (Differs number expected) = codes "replay differs line " ++ decimal number ++ codes " " ++ expected_text expected ++ codes "\n"
replay_line NotShipped = codes "replay not shipped\n"

-- the same without its first word and its line feed
unfoldable pub replay_words : ReplayEnd → List ℕ
replay_words Exact = codes "exact"
replay_words (Differs number expected) = codes "differs line " ++ decimal number ++ codes " " ++ expected_text expected
replay_words NotShipped = codes "not shipped"

-- ---- verdicts

-- whether it is shown that every order of the events that keeps what comes before what ends the same
abbrev pub verdict_words : Bool → List ℕ
verdict_words true = codes "deterministic"
verdict_words false = codes "not shown"

-- the line that tells it
abbrev pub verdict_line : Bool → List ℕ
verdict_line shown = codes "verdict " ++ verdict_words shown ++ codes "\n"

-- ---- endings

-- the line that tells how many calls are reported
abbrev pub races_line : ℕ → List ℕ
races_line races = codes "races " ++ decimal races ++ codes "\n"

-- the line of a refusal, and the same without its line feed
abbrev pub refused_line : List (List ℕ) → ℕ → TraceCause → List ℕ
refused_line names number cause = codes "refused line " ++ decimal number ++ codes " " ++ cause_text names cause ++ codes "\n"

abbrev pub refused_words : List (List ℕ) → ℕ → TraceCause → List ℕ
refused_words names number cause = codes "refused line " ++ decimal number ++ codes " " ++ cause_text names cause

-- the text behind the races: how many calls are reported, and how the replay ended and what is shown, or where the trace was refused, by
-- the names of the threads, or that it could not be read on
abbrev pub ending_text : List (List ℕ) → ℕ → Ending → List ℕ
ending_text names races (End replay shown) = races_line races ++ replay_line replay ++ verdict_line shown
ending_text names races (Refused number cause) = races_line races ++ refused_line names number cause
ending_text names races Fault = races_line races ++ fault_line
