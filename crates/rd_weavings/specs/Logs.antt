-- Logs that were kept per thread: this project's profile. The numbers of threads, locks and objects stand for names.
use Rattle.std.specs.Prelude.{◌≡◌, ◌≢◌, ℕ, ◌<◌, ◌==◌, Bool, List, [], length, map, count_by, Some, slice_get, slice_index_or}
use Rattle.rd_event.specs.declared.events.Call.{Call as CallOf}
use Rattle.rd_event.specs.declared.events.Event.{Event}
use Rattle.rd_event.specs.declared.events.Event.TheVariants.{Fork}
use Rattle.rd_order.specs.EventLists.{is_hold}
use Rattle.rd_order.specs.Order.{call_in, exclusive, shared, hold_given, hold_taken, thread_of}
use Rattle.rd_weavings.specs.declared.spots.Spot.{Spot}

-- an event of a log. Where it is an acquire, the number says which one of its lock it is over all logs, from 1
pub record Noted : Type 0 where
  pub event : Event
  pub number : ℕ

-- the record of one thread: its events in their order
pub record ThreadLog : Type 0 where
  pub thread : ℕ
  pub events : List Noted

-- the logs, the threads that no log forks, and the objects that a log declares
pub record Logs : Type 0 where
  pub logs : List ThreadLog
  pub roots : ℕ → Bool
  pub declared : ℕ → Bool

abbrev pub no_log : ThreadLog
no_log = record { thread = 0; events = [] }

abbrev pub no_event : Noted
no_event = record { event = Fork 0 0; number = 0 }

abbrev pub log_at : Logs → ℕ → ThreadLog
log_at all log = slice_index_or all.logs log no_log

abbrev pub noted_event : Logs → Spot → Noted
noted_event all s = slice_index_or (log_at all s.log).events s.place no_event

abbrev pub event_at : Logs → Spot → Event
event_at all s = (noted_event all s).event

-- a log has an event there
abbrev pub IsSpot : Logs → Spot → Type 0
IsSpot all s = s.place < length (log_at all s.log).events

-- the events at these spots
abbrev pub woven : Logs → List Spot → List Event
woven all spots = map (event_at all) spots

-- the spot stands among these
abbrev pub IsPlaced : List Spot → Spot → Type 0
IsPlaced spots s = (j : ℕ) × (slice_get spots j ≡ Some s)

-- how many events of a log are among these
abbrev pub given : List Spot → ℕ → ℕ
given spots log = count_by (λ s. s.log == log) spots

-- the next event of a log behind these
abbrev pub next_spot : List Spot → ℕ → Spot
next_spot spots log = record { log = log; place = given spots log }

-- how many of the events acquire the lock
abbrev pub acquires_of : List Event → ℕ → ℕ
acquires_of es lock = count_by (λ e. is_hold (hold_taken e) (exclusive lock)) es

-- each event is one of its log's thread, none shares a lock, and calls on one object are of one kind
pub record AreLogs (all : Logs) : Type 0 where
  pub own : (s : Spot) → IsSpot all s → thread_of (event_at all s) ≡ (log_at all s.log).thread
  pub no_share : (s : Spot) (lock : ℕ) → IsSpot all s → hold_taken (event_at all s) ≢ Some (shared lock)
  pub no_unshare : (s : Spot) (lock : ℕ) → IsSpot all s → hold_given (event_at all s) ≢ Some (shared lock)
  pub one_kind : (s t : Spot) (a b : CallOf) → IsSpot all s → IsSpot all t → call_in (event_at all s) ≡ Some a → call_in (event_at all t) ≡ Some b → a.object ≡ b.object
      → a.kind ≡ b.kind
