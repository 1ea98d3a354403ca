-- What `reorder` writes and answers. This project's profile.
use Rattle.std.specs.Prelude.{ℕ, List, [], length}
use Rattle.std.specs.List.{range_with_len}
use Rattle.rd_event.specs.Items.{lines_text}
use Rattle.rd_ecl.specs.Kinds.{Kind}
use Rattle.rd_event.specs.declared.items.Line.{Line}
use Rattle.rd_io.specs.Inputs.{fault_line}
use Rattle.rd_linear.specs.Lanes.{order_by}
use Rattle.rd_report.specs.Endings.{thread_names}
use Rattle.rd_rewriting.specs.Ended.{ended_as}
use Rattle.rd_rewriting.specs.Reordered.{reordered}
use Rattle.rd_walk.specs.Output.{Outcome}
use Rattle.rd_walk.specs.Traces.{ReportTexts}
use Rattle.rd_walk.specs.Walk.{Walked, ending_of, entries_of, items, trace_says}
use Rattle.rd_walk.specs.declared.status.Status.TheVariants.{Clean}
use Rattle.rd_rules.specs.Events.{events_of}
use Rattle.rd_rules.specs.MayFollow.{threads_of}

-- the places of the events in the order that the number picks, of all threads of the lines
abbrev pub places_by : List Kind → List Line → ℕ → List ℕ
places_by kinds lines number = order_by (events_of kinds lines) (range_with_len 0 (length (threads_of lines))) number

-- the lines in that order
abbrev pub picked_text : List Kind → List Line → ℕ → List ℕ
picked_text kinds lines number = lines_text (reordered lines (places_by kinds lines number))

-- this is written, and the trace was read to its end
abbrev pub written_whole : List ℕ → Outcome
written_whole text = record { text = text; status = Clean }

-- `reorder` with this number on a trace with objects of these kinds
abbrev pub reorder_outcome : ℕ → List Kind → Walked → Outcome
reorder_outcome number kinds walked =
    let entries = entries_of walked in
    ended_as (thread_names entries) (written_whole (picked_text kinds (items entries) number)) (ending_of walked)

-- nothing is written for the lines, and no step is counted
abbrev pub reorder_texts : ℕ → List Kind → ReportTexts
reorder_texts number kinds =
    record { says = trace_says; lines = λ entries. []; outcome = reorder_outcome number kinds; bound = λ before item. 0; unopened = fault_line }
