-- What logs say under a specification, by numbers: what weaving is said of. This project's profile.
use Rattle.std.specs.Prelude.{ℕ, ◌==◌, nat_lt, Bool, not, ◌&&◌, List, length, map, slice_get, unwrap_or}
use Rattle.std.specs.List.{list_any}
use Rattle.rd_ecl.specs.Kinds.{Kind, kind_names, method_names, methods_at}
use Rattle.rd_event.specs.declared.events.Event.{Event}
use Rattle.rd_event.specs.declared.events.Event.TheVariants as event
use Rattle.rd_event.specs.declared.items.LineEvent.{LineEvent}
use Rattle.rd_event.specs.declared.items.LineEvent.TheVariants.{Fork, Join, Acquire, Release, Call}
use Rattle.rd_logs.specs.declared.lines.LogEvent.{LogEvent}
use Rattle.rd_logs.specs.WholeLogs.{LogRecord}
use Rattle.rd_numbered_logs.specs.LogNames.{LogNames, declared_objects, log_names}
use Rattle.rd_order.specs.Order.{forked_thread}
use Rattle.rd_order.specs.OrderTests.{is_this}
use Rattle.rd_rules.specs.MayFollow.{place}
use Rattle.rd_weavings.specs.Logs.{Logs, Noted, ThreadLog}

-- the number of the kind with which an object is declared; for one that isn't, one that no kind has
abbrev pub called_kind : List Kind → List LogRecord → ℕ → ℕ
called_kind kinds logs object = unwrap_or (slice_get (map (λ declared. place (kind_names kinds) declared.kind) (declared_objects logs)) object) (length kinds)

-- an event by the numbers of these names. A log has no other one than these; a fork of the own thread is never placed
abbrev pub event_under : List Kind → List LogRecord → LogNames → ℕ → LineEvent → Event
event_under kinds logs names thread (Fork own child) = event.Fork thread (place names.threads child)
event_under kinds logs names thread (Join own child) = event.Join thread (place names.threads child)
event_under kinds logs names thread (Acquire own lock) = event.Acquire thread (place names.locks lock)
event_under kinds logs names thread (Release own lock) = event.Release thread (place names.locks lock)
event_under kinds logs names thread (Call own object method slots) =
    let number = called_kind kinds logs (place names.objects object) in
    event.Call (record { thread = thread; object = place names.objects object; kind = number; method = place (method_names (methods_at kinds number)) method; slots = slots })
event_under kinds logs names thread _ = event.Fork thread thread

-- an acquire has this number, and another event none
abbrev pub number_of_event : ℕ → LineEvent → ℕ
number_of_event number (Acquire thread lock) = number
number_of_event number _ = 0

abbrev pub noted_under : List Kind → List LogRecord → LogNames → ℕ → LogEvent → Noted
noted_under kinds logs names thread noted = record { event = event_under kinds logs names thread noted.event; number = number_of_event noted.number noted.event }

abbrev pub log_under : List Kind → List LogRecord → LogNames → LogRecord → ThreadLog
log_under kinds logs names log = record { thread = place names.threads log.thread; events = map (noted_under kinds logs names (place names.threads log.thread)) log.events }

-- the thread has a log, and no log forks it
abbrev pub forks_this : ℕ → Noted → Bool
forks_this thread noted = is_this (forked_thread noted.event) thread

abbrev pub is_root_of : List ThreadLog → ℕ → Bool
is_root_of logs thread = list_any (λ log. log.thread == thread) logs && not (list_any (λ log. list_any (forks_this thread) log.events) logs)

abbrev pub thread_logs : List Kind → List LogRecord → List ThreadLog
thread_logs kinds logs = map (log_under kinds logs (log_names logs)) logs

-- The logs by numbers, under a specification of these kinds. Declared objects have the first numbers
abbrev pub logs_under : List Kind → List LogRecord → Logs
logs_under kinds logs = record {
  logs = thread_logs kinds logs;
  roots = is_root_of (thread_logs kinds logs);
  declared = λ object. nat_lt object (length (declared_objects logs));
}
