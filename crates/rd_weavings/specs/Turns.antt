-- Which logs an event that is placed lets give: what a weaver has to look at again. This project's profile.
use Rattle.std.specs.Prelude.{◌≡◌, ℕ, List, [], ◌∷◌, ◌++◌, Some}
use Rattle.rd_order.specs.Order.{exclusive, forked_thread, hold_given, hold_taken, joined_thread, thread_of}
use Rattle.rd_weavings.specs.declared.spots.Spot.{Spot}
use Rattle.rd_weavings.specs.Logs.{Logs, event_at, next_spot}
use Rattle.rd_weavings.specs.Weavings.{IsUsedUp}

-- the next event of a log waits for the one that another log gives
pub data IsWoken (all : Logs) (spots : List Spot) (log waiting : ℕ) : Type 0 where
  -- which begins its thread, or the thread that it joins
  begun : forked_thread (event_at all (next_spot spots log)) ≡ Some (thread_of (event_at all (next_spot spots waiting))) → IsWoken all spots log waiting
  known : (u : ℕ) → forked_thread (event_at all (next_spot spots log)) ≡ Some u → joined_thread (event_at all (next_spot spots waiting)) ≡ Some u → IsWoken all spots log waiting
  -- which is the last one of the thread that it joins
  last : joined_thread (event_at all (next_spot spots waiting)) ≡ Some (thread_of (event_at all (next_spot spots log)))
      → IsUsedUp all (spots ++ next_spot spots log ∷ []) (thread_of (event_at all (next_spot spots log))) → IsWoken all spots log waiting
  -- which releases the lock that it acquires
  freed : (lock : ℕ) → hold_given (event_at all (next_spot spots log)) ≡ Some (exclusive lock) → hold_taken (event_at all (next_spot spots waiting)) ≡ Some (exclusive lock)
      → IsWoken all spots log waiting
