-- Weaving by tests, for what has to be computed: at each turn the first log that may gives its next event. This project's profile.
use Rattle.std.specs.Prelude.{ℕ, zero, suc, ◌+◌, ◌-◌, ◌==◌, nat_lt, Bool, false, not, ◌&&◌, ◌||◌, List, [], ◌∷◌, ◌++◌, length, map, Option, Some, None, find}
use Rattle.std.specs.List.{list_all, list_any, range_with_len, sum_by}
use Rattle.rd_event.specs.declared.events.Event.{Event}
use Rattle.rd_event.specs.declared.events.Event.TheVariants.{Fork, Join, Acquire, Release, Share, Unshare, Call}
use Rattle.rd_order.specs.EventLists.{forks, givings, joins, takings}
use Rattle.rd_order.specs.Order.{exclusive, thread_of, forked_thread}
use Rattle.rd_order.specs.OrderTests.{is_this}
use Rattle.rd_weavings.specs.declared.spots.Spot.{Spot}
use Rattle.rd_weavings.specs.Logs.{Logs, Noted, ThreadLog, acquires_of, given, log_at, next_spot, noted_event, woven}

-- the thread is a root or was forked
abbrev pub is_known : (ℕ → Bool) → List Event → ℕ → Bool
is_known roots before t = roots t || nat_lt 0 (forks before t)

-- each other one of these threads released the lock as often as it acquired it
abbrev pub is_lock_free : List ThreadLog → List Event → ℕ → ℕ → Bool
is_lock_free logs before t lock = list_all (λ log. (log.thread == t) || (takings before log.thread (exclusive lock) == givings before log.thread (exclusive lock))) logs

-- nothing is left of the thread's log
abbrev pub is_used_up : Logs → List Spot → ℕ → Bool
is_used_up all spots u = list_all (λ l. not ((log_at all l).thread == u) || (given spots l == length (log_at all l).events)) (range_with_len 0 (length all.logs))

-- what an event asks besides that its thread is known and wasn't joined
abbrev pub may_do : Logs → List Spot → List Event → ℕ → Event → Bool
may_do all spots before number (Fork t u) = not (is_known all.roots before u)
may_do all spots before number (Join t u) = is_known all.roots before u && (not (u == t) && is_used_up all spots u)
may_do all spots before number (Acquire t lock) = is_lock_free all.logs before t lock && (number == acquires_of before lock + 1)
may_do all spots before number (Release t lock) = nat_lt (givings before t (exclusive lock)) (takings before t (exclusive lock))
may_do all spots before number (Share t lock) = false
may_do all spots before number (Unshare t lock) = false
may_do all spots before number (Call call) = all.declared call.object

abbrev pub may_place : Logs → List Spot → List Event → Noted → Bool
may_place all spots before noted =
    is_known all.roots before (thread_of noted.event) && ((joins before (thread_of noted.event) == 0) && may_do all spots before noted.number noted.event)

-- the log may give its next event
abbrev pub may_give : Logs → List Spot → ℕ → Bool
may_give all spots log = nat_lt (given spots log) (length (log_at all log).events) && may_place all spots (woven all spots) (noted_event all (next_spot spots log))

-- what a turn makes of the events that are placed
abbrev pub with_next : List Spot → Option ℕ → (List Spot → List Spot) → List Spot
with_next spots None more = spots
with_next spots (Some log) more = more (spots ++ next_spot spots log ∷ [])

-- so many turns
abbrev pub placed_in : Logs → ℕ → List Spot → List Spot
placed_in all zero spots = spots
placed_in all (suc turns) spots = with_next spots (find (may_give all spots) (range_with_len 0 (length all.logs))) (placed_in all turns)

-- how many events are left
abbrev pub turns_left : Logs → List Spot → ℕ
turns_left all spots = sum_by (λ l. length (log_at all l).events - given spots l) (range_with_len 0 (length all.logs))

-- what is placed where at each turn the first log that may gives its next event, until none may
unfoldable pub woven_first : Logs → List Spot
woven_first all = placed_in all (turns_left all []) []

-- how many events of each log are placed
abbrev pub counts_of : Logs → List Spot → List ℕ
counts_of all spots = map (given spots) (range_with_len 0 (length all.logs))

-- the logs, with the threads as roots that no log forks, where all objects below a number are declared
abbrev pub logs_of : List ThreadLog → ℕ → Logs
logs_of logs objects = record {
  logs = logs;
  roots = λ t. list_any (λ log. log.thread == t) logs && not (list_any (λ log. list_any (λ noted. is_this (forked_thread noted.event) t) log.events) logs);
  declared = λ object. nat_lt object objects;
}
