-- The orders of the events of all logs that the logs allow, and how one is made: this project's profile.
use Rattle.std.specs.Prelude.{◌≡◌, ℕ, ◌+◌, ◌<◌, IsTrue, List, [], ◌∷◌, ◌++◌, length, take, Some, slice_get}
use Rattle.rd_event.specs.declared.events.Call.{Call as CallOf}
use Rattle.rd_order.specs.EventLists.{MayHappen}
use Rattle.rd_order.specs.Order.{call_in, exclusive, hold_taken, joined_thread}
use Rattle.rd_weavings.specs.declared.spots.Spot.{Spot}
use Rattle.rd_weavings.specs.Logs.{IsSpot, Logs, IsPlaced, acquires_of, event_at, log_at, next_spot, noted_event, woven}

-- no two logs are of one thread
abbrev pub HaveOwnThreads : Logs → Type 0
HaveOwnThreads all = (l m : ℕ) → l < length all.logs → m < length all.logs → (log_at all l).thread ≡ (log_at all m).thread → l ≡ m

-- what an event has to meet behind those at these spots: it may happen, a call is on a declared object, and an acquire has the next number of its
-- lock
pub record MayBePlaced (all : Logs) (before : List Spot) (s : Spot) : Type 0 where
  pub happens : MayHappen all.roots (woven all before) (event_at all s)
  pub declared : (call : CallOf) → call_in (event_at all s) ≡ Some call → IsTrue (all.declared call.object)
  pub numbered : (lock : ℕ) → hold_taken (event_at all s) ≡ Some (exclusive lock) → (noted_event all s).number ≡ acquires_of (woven all before) lock + 1

-- A weaving: all events, each once, in the order of each log, and each may follow those before it.
pub record IsWeaving (all : Logs) (spots : List Spot) : Type 0 where
  pub one_each : HaveOwnThreads all
  pub once : (s : Spot) (j k : ℕ) → slice_get spots j ≡ Some s → slice_get spots k ≡ Some s → j ≡ k
  pub whole : (s : Spot) → IsSpot all s → IsPlaced spots s
  pub only : (s : Spot) → IsPlaced spots s → IsSpot all s
  pub keeps : (s t : Spot) (j k : ℕ) → slice_get spots j ≡ Some s → slice_get spots k ≡ Some t → s.log ≡ t.log → s.place < t.place → j < k
  pub follow : (s : Spot) (j : ℕ) → slice_get spots j ≡ Some s → MayBePlaced all (take j spots) s

-- ---- how one is made

-- no event of a thread's log is left
abbrev pub IsUsedUp : Logs → List Spot → ℕ → Type 0
IsUsedUp all spots thread = (s : Spot) → IsSpot all s → (log_at all s.log).thread ≡ thread → IsPlaced spots s

-- the next event of the log may be placed: it may follow, and of a thread that it joins nothing is left
pub record MayGive (all : Logs) (spots : List Spot) (log : ℕ) : Type 0 where
  pub inside : IsSpot all (next_spot spots log)
  pub follow : MayBePlaced all spots (next_spot spots log)
  pub ended : (u : ℕ) → joined_thread (event_at all (next_spot spots log)) ≡ Some u → IsUsedUp all spots u

-- placed one by one, each by a log that may give it
pub data ArePlaced (all : Logs) : List Spot → Type 0 where
  none : ArePlaced all []
  one_more : (spots : List Spot) (log : ℕ) → ArePlaced all spots → MayGive all spots log → ArePlaced all (spots ++ next_spot spots log ∷ [])
