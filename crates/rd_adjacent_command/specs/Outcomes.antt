-- What `adjacent` writes and answers. This project's profile.
use Rattle.std.specs.Prelude.{ℕ, ◌==◌, ◌++◌, Bool, true, false, List, [], Option, Some, None, codes, decimal, filter, flat_map, if◌then◌else◌, map, max, min, position, slice_get, slice_index_or}
use Rattle.std.specs.Option.{option_and_then, option_map_or}
use Rattle.rd_adjacent.specs.Beside.{beside}
use Rattle.rd_ecl.specs.Kinds.{Kind}
use Rattle.rd_event.specs.Items.{lines_text}
use Rattle.rd_event.specs.declared.events.Event.{Event}
use Rattle.rd_event.specs.declared.events.Event.TheVariants.{Call}
use Rattle.rd_event.specs.declared.items.Line.{Line}
use Rattle.rd_io.specs.Inputs.{fault_line}
use Rattle.rd_order.specs.OrderTests.{reaches}
use Rattle.rd_order.specs.Paths.{farthest_path}
use Rattle.rd_report.specs.Endings.{thread_names}
use Rattle.rd_rewriting.specs.Ended.{ended_as}
use Rattle.rd_rewriting.specs.Reordered.{reordered}
use Rattle.rd_rules.specs.Events.{events_of}
use Rattle.rd_rules.specs.MayFollow.{is_event}
use Rattle.rd_walk.specs.Output.{Outcome}
use Rattle.rd_walk.specs.Traces.{ReportTexts}
use Rattle.rd_walk.specs.Walk.{Entry, Walked, ending_of, entries_of, items, trace_says}
use Rattle.rd_walk.specs.declared.status.Status.TheVariants.{Clean, NotACall}

-- the line of each event
abbrev pub event_lines : List Entry → List ℕ
event_lines entries = map (λ (entry : Entry). entry.number) (filter (λ (entry : Entry). is_event entry.item) entries)

-- the event at this place is a call
abbrev pub is_call_event : Event → Bool
is_call_event (Call call) = true
is_call_event _ = false

abbrev pub is_call_at : List Event → ℕ → Bool
is_call_at es place = option_map_or is_call_event (slice_get es place) false

-- the place of the call on a line, by the events and the line of each; there is none where another line or another event is there
abbrev pub call_on : List Event → List ℕ → ℕ → Option ℕ
call_on es lines line = option_and_then (λ place. if is_call_at es place then Some place else None) (position (λ number. number == line) lines)

-- that a line isn't the line of a call
abbrev pub not_a_call : ℕ → Outcome
not_a_call line = record { text = codes "refused line " ++ decimal line ++ codes " not-a-call\n"; status = NotACall }

-- the line of the event at a place, and those of the events at these places, one behind another
abbrev pub place_text : List ℕ → ℕ → List ℕ
place_text lines place = codes " " ++ decimal (slice_index_or lines place 0)

abbrev pub path_line : List ℕ → List ℕ → List ℕ
path_line lines places = codes "ordered" ++ (flat_map (place_text lines) places ++ codes "\n")

-- of two calls, the first in front of the other: the path that orders them, or the lines of the trace with these two side by side
abbrev pub two_text : List Event → List Line → List ℕ → ℕ → ℕ → List ℕ
two_text es items lines i j = if reaches es i j then path_line lines (farthest_path es i j) else lines_text (reordered items (beside es i j))

-- of the calls on two lines, if they are there; the first line is asked first
abbrev pub told_of : List Event → List Line → List ℕ → ℕ → ℕ → Option ℕ → Option ℕ → Outcome
told_of es items lines first second None other = not_a_call first
told_of es items lines first second (Some i) None = not_a_call second
told_of es items lines first second (Some i) (Some j) = record { text = two_text es items lines (min i j) (max i j); status = Clean }

-- at the end of a trace with these accepted lines
abbrev pub adjacent_end : List Kind → List Entry → ℕ → ℕ → Outcome
adjacent_end kinds entries first second =
    let es = events_of kinds (items entries) in
    let lines = event_lines entries in
    told_of es (items entries) lines first second (call_on es lines first) (call_on es lines second)

-- `adjacent` with these lines on a trace with objects of these kinds
abbrev pub adjacent_outcome : ℕ → ℕ → List Kind → Walked → Outcome
adjacent_outcome first second kinds walked =
    let entries = entries_of walked in ended_as (thread_names entries) (adjacent_end kinds entries first second) (ending_of walked)

-- nothing is written for the lines, and no step is counted
abbrev pub adjacent_texts : ℕ → ℕ → List Kind → ReportTexts
adjacent_texts first second kinds =
    record { says = trace_says; lines = λ entries. []; outcome = adjacent_outcome first second kinds; bound = λ before item. 0; unopened = fault_line }
