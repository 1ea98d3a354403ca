-- What `check` writes: races, and how many. This project's profile.
use Rattle.rd_report.specs.Endings.{thread_names, ending_of_report, check_status}
use Rattle.rd_walk.specs.Output.{Outcome}
use Rattle.rd_races.specs.Commuting.{calls_commute}
use Rattle.rd_detect.specs.Detect.{detection_bound, tables_of}
use Rattle.rd_races.specs.RaceTests.{latest_of}
use Rattle.rd_ecl.specs.Kinds.{kinds_of}
use Rattle.rd_ecl.specs.Specified.{SpecifiedKind}
use Rattle.rd_event.specs.declared.events.Call.{Call}
use Rattle.rd_event.specs.declared.events.Event.TheVariants as event
use Rattle.rd_event.specs.declared.events.Event.{Event}
use Rattle.rd_event.specs.declared.items.Line.{Line}
use Rattle.rd_hb.specs.ClockTests.{clock_at}
use Rattle.rd_json.specs.Forms.{ending_in, fault_in, race_in}
use Rattle.rd_json.specs.declared.forms.Form.{Form}
use Rattle.rd_report.specs.Races.{Told}
use Rattle.rd_report.specs.Texts.{Naming, naming}
use Rattle.rd_report.specs.declared.endings.Ending.{Ending}
use Rattle.rd_replay_command.specs.Replaying.{replay_of}
use Rattle.rd_walk.specs.Traces.{ReportTexts}
use Rattle.rd_walk.specs.Walk.{Entry, Walked, ending_of, entries_of, items, trace_says, tracking_bound}
use Rattle.rd_walk.specs.declared.walk.WalkEnd.{WalkEnd}
use Rattle.rd_rules.specs.Events.{event_of, events_of}
use Rattle.rd_rules.specs.MayFollow.{is_event, threads_of}
use Rattle.std.specs.Prelude.{ℕ, zero, suc, ◌+◌, Bool, List, [], ◌∷◌, ◌++◌, length, filter_map, slice_get, Option, Some, None, is_some, unwrap_or, if◌then◌else◌}

-- the number of the line of an event
abbrev pub event_number : Entry → Option ℕ
event_number entry = if is_event entry.item then Some entry.number else None

-- the numbers of the lines of the events, in their order
abbrev pub event_numbers : List Entry → List ℕ
event_numbers entries = filter_map event_number entries

-- the number of the line of the event at a place
abbrev pub number_at : List ℕ → ℕ → ℕ
number_at numbers place = unwrap_or (slice_get numbers place) 0

-- what is told of the call at a place
abbrev pub told_at : List ℕ → List Event → ℕ → Call → Told
told_at numbers es place call = record { line = number_at numbers place; call = call; clock = clock_at es place }

-- the text for two events, the later one first, where both are calls
abbrev pub calls_text : (Call → Call → List ℕ) → Option Event → Option Event → List ℕ
calls_text text (Some (event.Call later)) (Some (event.Call earlier)) = text later earlier
calls_text text _ _ = []

-- the text in a form of the race of the calls at two places, the later one first
unfoldable pub race_at : Form → List SpecifiedKind → Naming → List ℕ → List Event → ℕ → ℕ → List ℕ
race_at form kinds names numbers es j i =
    calls_text (λ later earlier. race_in form kinds names (told_at numbers es j later) (told_at numbers es i earlier)) (slice_get es j) (slice_get es i)

-- what is written for the event at a place, by the latest that races with it: nothing where none does
abbrev pub text_with : (ℕ → ℕ → List ℕ) → ℕ → Option ℕ → List ℕ
text_with text place None = []
text_with text place (Some earlier) = text place earlier

-- the texts for the events in front of a place, in their order
unfoldable pub texts_before : (Call → Call → Bool) → (ℕ → ℕ → List ℕ) → List Event → ℕ → List ℕ
texts_before commuting text es zero = []
texts_before commuting text es (suc place) = texts_before commuting text es place ++ text_with text place (latest_of commuting es place)

-- how many of the events in front of a place are reported
unfoldable pub races_before : (Call → Call → Bool) → List Event → ℕ → ℕ
races_before commuting es zero = 0
races_before commuting es (suc place) = races_before commuting es place + (if is_some (latest_of commuting es place) then 1 else 0)

-- the events of the accepted lines
abbrev pub entry_events : List SpecifiedKind → List Entry → List Event
entry_events kinds entries = events_of (kinds_of kinds) (items entries)

-- how many calls of the accepted lines are reported
unfoldable pub races_of : List SpecifiedKind → List Entry → ℕ
races_of kinds entries = races_before (calls_commute kinds) (entry_events kinds entries) (length (entry_events kinds entries))

-- the text of the race of the calls at two places of the accepted lines
abbrev pub entries_race : Form → List SpecifiedKind → List Entry → ℕ → ℕ → List ℕ
entries_race form kinds entries = race_at form kinds (naming (items entries)) (event_numbers entries) (entry_events kinds entries)

-- the texts of the reported calls of the accepted lines, in their order, each with the latest that races with it
unfoldable pub race_texts : Form → List SpecifiedKind → List Entry → List ℕ
race_texts form kinds entries = texts_before (calls_commute kinds) (entries_race form kinds entries) (entry_events kinds entries) (length (entry_events kinds entries))

-- the ending of a report of these accepted lines, of which so many calls are reported
abbrev pub entries_ending : List SpecifiedKind → List Entry → ℕ → WalkEnd → Ending
entries_ending kinds entries races ending = ending_of_report races (replay_of (kinds_of kinds) entries) ending

-- `check` on a trace with objects of these kinds, in this form
abbrev pub check_outcome : Form → List SpecifiedKind → Walked → Outcome
check_outcome form kinds walked =
    let entries = entries_of walked in
    let races = races_of kinds entries in
    let ending = entries_ending kinds entries races (ending_of walked) in
    record {
      text = race_texts form kinds entries ++ ending_in form (thread_names entries) races ending;
      status = check_status races ending;
    }

-- The bound on the steps of the detector for an event, by the number of threads that are known once it is done: only a call takes some
abbrev pub detector_bound : List SpecifiedKind → ℕ → Option Event → ℕ
detector_bound kinds threads (Some (event.Call call)) = detection_bound (tables_of kinds) threads call
detector_bound kinds threads _ = 0

-- The bound on the steps of `check` for an accepted line behind others, by the kinds: those on clocks, and those of the detector
abbrev pub check_bound : List SpecifiedKind → List Line → Line → ℕ
check_bound kinds before item = tracking_bound before item + detector_bound kinds (length (threads_of (before ++ item ∷ []))) (event_of (kinds_of kinds) before item)

-- what `check` writes in this form for accepted lines, in all and where the trace can't be opened, and the bound on its steps
abbrev pub check_texts : Form → List SpecifiedKind → ReportTexts
check_texts form kinds =
    record { says = trace_says; lines = race_texts form kinds; outcome = check_outcome form kinds; bound = check_bound kinds; unopened = fault_in form }
