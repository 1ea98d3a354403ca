-- What a report says of the bytes of a trace, in the words of accepted lines and of races: this project's profile.
use Rattle.std.specs.Prelude.{◌≡◌, ◌⊎◌, ℕ, zero, suc, ◌<◌, IsTrue, List, [], ◌++◌, All, length}
use Rattle.rd_base.specs.declared.limits.Limits.{Limits}
use Rattle.rd_races.specs.Commuting.{Commute}
use Rattle.rd_races.specs.Races.{Reported, IsLatest}
use Rattle.rd_event.specs.declared.events.Call.{Call}
use Rattle.rd_event.specs.declared.events.Event.{Event}
use Rattle.rd_order.specs.Counts.{Counts}
use Rattle.rd_order.specs.EventLists.{WellFormedWith}
use Rattle.rd_hb.specs.ClockTests.{clock_at}
use Rattle.rd_hb.specs.EventClocks.{IsClock}
use Rattle.rd_io.specs.Lines.{Reading, Stop}
use Rattle.rd_io.specs.SaidLines.{SaysLines}
use Rattle.rd_rules.specs.Events.{roots_of}
use Rattle.rd_ecl.specs.Kinds.{kinds_of}
use Rattle.rd_ecl.specs.Specified.{SpecifiedKind}
use Rattle.rd_json.specs.Forms.{ending_in}
use Rattle.rd_json.specs.declared.forms.Form.{Form}
use Rattle.rd_replay.specs.Replays.{Recorded}
use Rattle.rd_kinds.specs.Shipped.{shipped_kinds}
use Rattle.rd_object.specs.declared.shapes.ReplayEnd.{ReplayEnd}
use Rattle.rd_replay_command.specs.Replaying.{recorded_of}
use Rattle.rd_walk.specs.Output.{Outcome}
use Rattle.rd_report.specs.Endings.{check_status, ending_of_report, is_shown, thread_names}
use Rattle.rd_replay_command.specs.Reports.{ReplayEndsSo}
use Rattle.rd_check_command.specs.Checked.{entries_race, entry_events}
use Rattle.rd_check_command.specs.Verdicts.{AreDeterministic, kinds_of_objects}
use Rattle.rd_walk.specs.AcceptedLines.{IsWalk}
use Rattle.rd_walk.specs.Walk.{Entry, items}
use Rattle.rd_walk.specs.declared.walk.WalkEnd.{WalkEnd}

-- ---- the races

-- The text for the events in front of a place: that for those before the last of them, and then nothing where no earlier call
-- races with the last, else the text of the race with the latest that does.
abbrev pub IsReport : (Call → Call → Type 0) → (ℕ → ℕ → List ℕ) → List Event → ℕ → List ℕ → Type 0
IsReport Commuting race es zero text = text ≡ []
IsReport Commuting race es (suc place) text =
    (before : List ℕ) × IsReport Commuting race es place before
    × ((¬ (Reported Commuting es place) × (text ≡ before))
    ⊎ ((i : ℕ) × IsLatest Commuting es place i × (text ≡ before ++ race place i)))

-- ---- the whole

-- The headline: what `check` writes in this form and answers for the bytes of a trace whose objects are of these kinds, and whose reading ends
-- so: the texts of the races among the events of the accepted lines, how many calls are reported, and how the lines end, with the replay of the
-- calls and the verdict at the end of the trace; in lines, rules, races, clocks, replays and orders.
pub record IsChecked (form : Form) (kinds : List SpecifiedKind) (limits : Limits) (stop : Stop) (bytes : List ℕ) (outcome : Outcome) : Type 0 where
  -- the lines that the bytes are
  pub lines : Reading
  pub says : SaysLines limits.line limits.bytes stop bytes lines
  -- those that are accepted, by what they say and by the rules, and how they end
  pub entries : List Entry
  pub ending : WalkEnd
  pub walk : IsWalk (kinds_of kinds) limits [] 1 lines entries ending
  -- their events are a well-formed list, with calls of these kinds
  pub formed : WellFormedWith (kinds_of kinds) (roots_of (items entries)) (entry_events kinds entries)
  -- a text for each reported call, with the latest that races with it: both calls, their clocks, and the formula that they fail
  pub races : List ℕ
  pub report : IsReport (Commute kinds) (entries_race form kinds entries) (entry_events kinds entries) (length (entry_events kinds entries)) races
  -- a clock that is told has for each thread how many of its events are the call or reach it
  pub clocks : (place thread : ℕ) → IsClock (entry_events kinds entries) place thread (clock_at (entry_events kinds entries) place thread)
  -- how many calls are reported
  pub count : ℕ
  pub counted : Counts (Reported (Commute kinds) (entry_events kinds entries)) (length (entry_events kinds entries)) count
  -- how the replay of the calls ends, which are on declared objects
  pub declared : All (λ (recorded : Recorded). recorded.1.object < length (kinds_of_objects kinds entries)) (recorded_of (kinds_of kinds) entries)
  pub replay : ReplayEnd
  pub replays : ReplayEndsSo (kinds_of_objects kinds entries) (recorded_of (kinds_of kinds) entries) replay
  -- where it is shown, behind the built-in kinds and any others, the events are deterministic
  pub verdict : (more : List SpecifiedKind) → kinds ≡ shipped_kinds ++ more → IsTrue (is_shown count replay) → AreDeterministic kinds entries
  -- what is written, and the status
  pub text : outcome.text ≡ races ++ ending_in form (thread_names entries) count (ending_of_report count replay ending)
  pub status : outcome.status ≡ check_status count (ending_of_report count replay ending)
