-- What weaving the texts of logs answers. This project's profile.
use Rattle.std.specs.Prelude.{ℕ, ◌+◌, ◌==◌, if◌then◌else◌, List, [], ◌∷◌, ◌++◌, filter_map, length, map, option_map, replicate, slice_get, slice_index_or, Bool, Result, Ok, Err}
use Rattle.rd_event.specs.declared.items.Line.{Line}
use Rattle.rd_event.specs.declared.items.Line.TheVariants.{Event, Header, Object, Thread}
use Rattle.rd_logs.specs.declared.lines.LogEvent.{LogEvent}
use Rattle.rd_logs.specs.declared.whole.ReadLog.{ReadLog}
use Rattle.rd_logs.specs.WholeLogs.{LogRecord, log_of}
use Rattle.rd_numbered_logs.specs.LogNames.{declared_objects, have_own_names}
use Rattle.rd_numbered_logs.specs.LogsUnder.{logs_under}
use Rattle.rd_weavings.specs.declared.spots.Spot.{Spot}
use Rattle.rd_weavings.specs.WeaveTests.{counts_of, turns_left, woven_first}

-- ---- reading the logs

-- the first bad line: the number of its log, from 0, and its own, from 1
pub record BadLine : Type 0 where
  pub log : ℕ
  pub line : ℕ

abbrev pub log_then : ℕ → Result LogRecord ℕ → Result (List LogRecord) BadLine → Result (List LogRecord) BadLine
log_then number (Err line) more = Err (record { log = number; line = line })
log_then number (Ok log) (Err bad) = Err bad
log_then number (Ok log) (Ok logs) = Ok (log ∷ logs)

-- what the texts of logs say, from the one with this number on, or the first bad line
unfoldable pub records_from : ℕ → List (List ℕ) → Result (List LogRecord) BadLine
records_from number [] = Ok []
records_from number (text ∷ texts) = log_then number (log_of text) (records_from (number + 1) texts)

abbrev pub records_of : List (List ℕ) → Result (List LogRecord) BadLine
records_of texts = records_from 0 texts

-- ---- the lines of a weaving

-- the threads of the logs that are roots, in the order of the logs, whose number is that of its thread
abbrev pub root_lines : (ℕ → Bool) → ℕ → List LogRecord → List Line
root_lines is_root number [] = []
root_lines is_root number (log ∷ logs) = if is_root number then Thread log.thread ∷ root_lines is_root (number + 1) logs else root_lines is_root (number + 1) logs

-- the objects that the logs declare, in the order of the logs and of their lines
abbrev pub object_lines : List LogRecord → List Line
object_lines logs = map (λ declared. Object declared.name declared.kind) (declared_objects logs)

-- the events at these spots
abbrev pub events_of_log : List LogRecord → ℕ → List LogEvent
events_of_log logs log = slice_index_or (map (λ one. one.events) logs) log []

abbrev pub placed_lines : List LogRecord → List Spot → List Line
placed_lines logs spots = filter_map (λ spot. option_map (λ noted. Event noted.event) (slice_get (events_of_log logs spot.log) spot.place)) spots

abbrev pub woven_lines : List LogRecord → List Spot → List Line
woven_lines logs spots = Header 1 ∷ root_lines (logs_under [] logs).roots 0 logs ++ object_lines logs ++ placed_lines logs spots

-- ---- the answer

-- the first bad line; or how many events of each log are placed, where no further one can be; or the lines of the weaving
pub data WeaveAnswer : Type 0 where
  Bad : BadLine → WeaveAnswer
  Stuck : List ℕ → WeaveAnswer
  Woven : List Line → WeaveAnswer

-- What is placed where at each turn the first log that may gives its next event. Neither kinds nor methods play a part in it
abbrev pub woven_spots : List LogRecord → List Spot
woven_spots logs = woven_first (logs_under [] logs)

-- where two logs are of one thread, or an object is declared twice, nothing is placed
abbrev pub records_answer : List LogRecord → WeaveAnswer
records_answer logs =
    if have_own_names logs then
    (if turns_left (logs_under [] logs) (woven_spots logs) == 0 then Woven (woven_lines logs (woven_spots logs)) else Stuck (counts_of (logs_under [] logs) (woven_spots logs)))
    else Stuck (replicate (length logs) 0)

abbrev pub answer_by : Result (List LogRecord) BadLine → WeaveAnswer
answer_by (Err bad) = Bad bad
answer_by (Ok logs) = records_answer logs

-- the answer to the texts of logs
abbrev pub weave_answer : List (List ℕ) → WeaveAnswer
weave_answer texts = answer_by (records_of texts)

-- the events that are left of each log
abbrev pub rest_events : List ReadLog → List (List LogEvent)
rest_events logs = map (λ log. log.events.items) logs
