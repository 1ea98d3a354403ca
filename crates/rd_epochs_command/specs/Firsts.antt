-- What `epochs` writes: the first race of each variable, and how many there are. This project's profile.
use Rattle.std.specs.Prelude.{ℕ, zero, suc, ◌+◌, ◌==◌, ◌&&◌, ◌||◌, Bool, false, List, [], ◌∷◌, ◌++◌, codes, decimal, is_some, length, slice_get, Option, Some, None, if◌then◌else◌}
use Rattle.rd_check_command.specs.Checked.{entry_events, event_numbers, number_at, text_with}
use Rattle.rd_epoch.specs.Accesses.{variable_kinds}
use Rattle.rd_event.specs.declared.events.Event.TheVariants.{Call}
use Rattle.rd_event.specs.declared.events.Event.{Event}
use Rattle.rd_event.specs.declared.items.Line.{Line}
use Rattle.rd_io.specs.Inputs.{fault_line}
use Rattle.rd_memory.specs.MemoryTraces.{memory_says}
use Rattle.rd_object.specs.declared.shapes.ReplayEnd.TheVariants.{NotShipped}
use Rattle.rd_races.specs.Commuting.{calls_commute}
use Rattle.rd_races.specs.RaceTests.{latest_of}
use Rattle.rd_report.specs.Endings.{check_status, ending_of_report, thread_names}
use Rattle.rd_report.specs.Texts.{name_of, races_line, refused_line}
use Rattle.rd_rules.specs.MayFollow.{is_call, objects_of, threads_of}
use Rattle.rd_walk.specs.Output.{Outcome}
use Rattle.rd_walk.specs.Traces.{ReportTexts}
use Rattle.rd_walk.specs.Walk.{Entry, Walked, ending_of, entries_of, items, tracking_bound}
use Rattle.rd_walk.specs.declared.walk.WalkEnd.TheVariants.{End, Refused, Fault}
use Rattle.rd_walk.specs.declared.walk.WalkEnd.{WalkEnd}

-- ---- first races

-- the latest access that races with the one at a place
abbrev pub latest_access : List Event → ℕ → Option ℕ
latest_access es place = latest_of (calls_commute variable_kinds) es place

-- the event is an access to this variable
abbrev pub is_access_on : ℕ → Option Event → Bool
is_access_on variable (Some (Call call)) = call.object == variable
is_access_on variable _ = false

-- in front of a place an access to this variable is reported
unfoldable pub raced_before : List Event → ℕ → ℕ → Bool
raced_before es variable zero = false
raced_before es variable (suc place) = raced_before es variable place || (is_access_on variable (slice_get es place) && is_some (latest_access es place))

-- the latest access that races with this event at a place, where it is the first to its variable that is reported
abbrev pub first_with : List Event → ℕ → Option Event → Option ℕ
first_with es place (Some (Call call)) = if raced_before es call.object place then None else latest_access es place
first_with es place _ = None

unfoldable pub first_at : List Event → ℕ → Option ℕ
first_at es place = first_with es place (slice_get es place)

-- ---- their texts

-- the first race of a variable of this name, by the lines of the access and of the latest one that races with it
abbrev pub first_line : List ℕ → ℕ → ℕ → List ℕ
first_line name later earlier = codes "first " ++ name ++ codes " line " ++ decimal later ++ codes " with line " ++ decimal earlier ++ codes "\n"

-- so it is told of an event that is an access
abbrev pub access_line : List (List ℕ) → ℕ → ℕ → Option Event → List ℕ
access_line names later earlier (Some (Call call)) = first_line (name_of names call.object) later earlier
access_line names later earlier _ = []

-- the text for the accesses at two places, the later one first, by the names of the variables and the lines of the events
abbrev pub first_text : List (List ℕ) → List ℕ → List Event → ℕ → ℕ → List ℕ
first_text names numbers es later earlier = access_line names (number_at numbers later) (number_at numbers earlier) (slice_get es later)

-- the texts for the events in front of a place, in their order, and how many there are
unfoldable pub first_texts_before : (ℕ → ℕ → List ℕ) → List Event → ℕ → List ℕ
first_texts_before text es zero = []
first_texts_before text es (suc place) = first_texts_before text es place ++ text_with text place (first_at es place)

unfoldable pub firsts_before : List Event → ℕ → ℕ
firsts_before es zero = 0
firsts_before es (suc place) = firsts_before es place + (if is_some (first_at es place) then 1 else 0)

-- the events of accepted lines of reads and writes
abbrev pub accesses : List Entry → List Event
accesses entries = entry_events variable_kinds entries

-- the texts of the first races of accepted lines, and how many there are
unfoldable pub first_texts : List Entry → List ℕ
first_texts entries = first_texts_before (first_text (objects_of (items entries)) (event_numbers entries) (accesses entries)) (accesses entries) (length (accesses entries))

unfoldable pub firsts_of : List Entry → ℕ
firsts_of entries = firsts_before (accesses entries) (length (accesses entries))

-- ---- the whole

-- what stands behind the number of first races: nothing at the end of the trace, and else what `check` writes there
abbrev pub last_line : List (List ℕ) → WalkEnd → List ℕ
last_line names End = []
last_line names (Refused number cause) = refused_line names number cause
last_line names Fault = fault_line

-- `epochs` on a trace
abbrev pub epochs_outcome : Walked → Outcome
epochs_outcome walked =
    let entries = entries_of walked in
    record {
      text = first_texts entries ++ (races_line (firsts_of entries) ++ last_line (thread_names entries) (ending_of walked));
      status = check_status (firsts_of entries) (ending_of_report (firsts_of entries) NotShipped (ending_of walked));
    }

-- The bound on the steps of `epochs` for an accepted line behind others: those on clocks, and for an access two more and one for each thread that is
-- known
abbrev pub epochs_bound : List Line → Line → ℕ
epochs_bound before item = tracking_bound before item + (if is_call item then length (threads_of (before ++ item ∷ [])) + 2 else 0)

-- what `epochs` reads and writes
abbrev pub epochs_texts : ReportTexts
epochs_texts = record { says = memory_says; lines = first_texts; outcome = epochs_outcome; bound = epochs_bound; unopened = fault_line }
