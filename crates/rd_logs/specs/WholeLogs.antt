-- A whole log: its header and what its lines say, or the first line that says nothing. This project's profile.
use Rattle.std.specs.Prelude.{ℕ, ◌+◌, if◌then◌else◌, List, [], ◌∷◌, ◌++◌, map, Option, Some, None, Result, Ok, Err}
use Rattle.rd_event.specs.declared.items.LineEvent.TheVariants as event
use Rattle.rd_event.specs.Items.{is_skipped}
use Rattle.rd_io.specs.Lines.{Parts, part, parts_of, rest}
use Rattle.rd_logs.specs.declared.lines.LogEvent.{LogEvent}
use Rattle.rd_logs.specs.declared.lines.LogLine.{LogLine}
use Rattle.rd_logs.specs.declared.lines.LogLine.TheVariants.{Skip, Object, Event, Acquire}
use Rattle.rd_logs.specs.declared.lines.LogObject.{LogObject}
use Rattle.rd_logs.specs.declared.whole.Log.{Log}
use Rattle.rd_logs.specs.declared.whole.ReadLog.{ReadLog}
use Rattle.rd_logs.specs.declared.whole.Said.{Said}
use Rattle.rd_logs.specs.LogLines.{log_header_of, log_line_of}

-- what lines say: the objects that they declare, and the events, each in the order of the lines
pub record SaidLines : Type 0 where
  pub objects : List LogObject
  pub events : List LogEvent

-- what a log says, and whose it is
pub record LogRecord : Type 0 where
  pub thread : List ℕ
  pub objects : List LogObject
  pub events : List LogEvent

-- the texts of logs
abbrev pub log_texts : List Log → List (List ℕ)
log_texts logs = map (λ log. log.bytes) logs

-- what the code's values hold
abbrev pub said_in : Said → SaidLines
said_in said = record { objects = said.objects.items; events = said.events.items }

abbrev pub record_of : ReadLog → LogRecord
record_of log = record { thread = log.thread; objects = log.objects.items; events = log.events.items }

-- nothing, one object, and one event
abbrev pub nothing_said : SaidLines
nothing_said = record { objects = []; events = [] }

abbrev pub object_said : LogObject → SaidLines
object_said object = record { objects = object ∷ []; events = [] }

abbrev pub event_said : LogEvent → SaidLines
event_said noted = record { objects = []; events = noted ∷ [] }

-- what a line of the thread's log says
abbrev pub said_by : List ℕ → LogLine → SaidLines
said_by thread Skip = nothing_said
said_by thread (Object name kind) = object_said (record { name = name; kind = kind })
said_by thread (Event own) = event_said (record { event = own; number = 0 })
said_by thread (Acquire lock number) = event_said (record { event = event.Acquire thread lock; number = number })

abbrev pub added : SaidLines → SaidLines → SaidLines
added front more = record { objects = front.objects ++ more.objects; events = front.events ++ more.events }

-- lines in front of those behind them, where each of these says something
abbrev pub in_front : SaidLines → Result SaidLines ℕ → Result SaidLines ℕ
in_front front (Ok more) = Ok (added front more)
in_front front (Err number) = Err number

abbrev pub line_in_front : List ℕ → Option LogLine → ℕ → Result SaidLines ℕ → Result SaidLines ℕ
line_in_front thread None number more = Err number
line_in_front thread (Some line) number more = in_front (said_by thread line) more

-- what the lines of a thread's log say from the one with this number on, or the number of the first that says nothing or has no line feed
unfoldable pub log_lines_from : List ℕ → ℕ → Parts → Result SaidLines ℕ
log_lines_from thread number (rest []) = Ok nothing_said
log_lines_from thread number (rest (byte ∷ bytes)) = Err number
log_lines_from thread number (part bytes more) = line_in_front thread (log_line_of thread bytes) number (log_lines_from thread (number + 1) more)

abbrev pub of_thread : List ℕ → Result SaidLines ℕ → Result LogRecord ℕ
of_thread thread (Ok lines) = Ok (record { thread = thread; objects = lines.objects; events = lines.events })
of_thread thread (Err number) = Err number

abbrev pub begun_by : Option (List ℕ) → ℕ → Parts → Result LogRecord ℕ
begun_by None number more = Err number
begun_by (Some thread) number more = of_thread thread (log_lines_from thread (number + 1) more)

-- the log from its line with this number on, in front of its header: the header is the first line that isn't skipped
unfoldable pub log_from : ℕ → Parts → Result LogRecord ℕ
log_from number (rest bytes) = Err number
log_from number (part bytes more) = if is_skipped bytes then log_from (number + 1) more else begun_by (log_header_of bytes) number more

-- what the bytes say, and whose log they are, or the number of its first bad line, from 1; where they end before a header, the number of their lines
-- and one
abbrev pub log_of : List ℕ → Result LogRecord ℕ
log_of bytes = log_from 1 (parts_of bytes)
