-- Logs that differ at most in what is called on their objects. This project's profile.
use Rattle.std.specs.Prelude.{◌≡◌, ℕ, [], map}
use Rattle.rd_event.specs.declared.events.Event.{Event}
use Rattle.rd_event.specs.declared.events.Event.TheVariants.{Fork, Join, Acquire, Release, Share, Unshare, Call}
use Rattle.rd_weavings.specs.Logs.{Logs, Noted, ThreadLog}

-- an event without what is called on its object: which kind, method and values play no part in an order
abbrev pub plain_event : Event → Event
plain_event (Fork thread child) = Fork thread child
plain_event (Join thread child) = Join thread child
plain_event (Acquire thread lock) = Acquire thread lock
plain_event (Release thread lock) = Release thread lock
plain_event (Share thread lock) = Share thread lock
plain_event (Unshare thread lock) = Unshare thread lock
plain_event (Call call) = Call (record { thread = call.thread; object = call.object; kind = 0; method = 0; slots = [] })

-- its event plain, its number as it is
abbrev pub plain_noted : Noted → Noted
plain_noted noted = record { event = plain_event noted.event; number = noted.number }

-- its events plain
abbrev pub plain_log : ThreadLog → ThreadLog
plain_log log = record { thread = log.thread; events = map plain_noted log.events }

-- logs that differ at most in what is called on the objects
pub record AreAlike (one other : Logs) : Type 0 where
  pub logs : map plain_log one.logs ≡ map plain_log other.logs
  pub roots : (t : ℕ) → one.roots t ≡ other.roots t
  pub declared : (o : ℕ) → one.declared o ≡ other.declared o
