-- What is known behind events that are placed, and what follows from it for the next one. This project's profile.
use Rattle.std.specs.Prelude.{◌≡◌, ℕ, ◌+◌, ◌-◌, ◌^◌, ◌<◌, ◌≤◌, ◌==◌, nat_lt, Bool, true, false, not, ◌&&◌, ◌||◌, if◌then◌else◌, List, length, Option, Some, None, slice_get, slice_index, slice_index_or, slice_set}
use Rattle.std.specs.List.{list_all}
use Rattle.std.specs.Option.{option_and_then}
use Rattle.rd_order.specs.EventLists.{givings, joins, takings}
use Rattle.rd_order.specs.Order.{exclusive}
use Rattle.rd_turns.specs.declared.logs.NumberedLogs.{NumberedLogs}
use Rattle.rd_turns.specs.declared.logs.Step.{Step}
use Rattle.rd_turns.specs.declared.logs.Step.TheVariants.{Fork, Join, Acquire, Release, Call}
use Rattle.rd_turns.specs.declared.logs.ThreadSteps.{ThreadSteps}
use Rattle.rd_turns.specs.declared.tables.LockState.{LockState}
use Rattle.rd_turns.specs.declared.tables.ThreadState.{ThreadState}
use Rattle.rd_turns.specs.NumberedLogs.{logs_by_numbers}
use Rattle.rd_weavings.specs.declared.spots.Spot.{Spot}
use Rattle.rd_weavings.specs.Logs.{Logs, acquires_of, given, woven}
use Rattle.rd_weavings.specs.WeaveTests.{is_known, is_used_up}

pub record Tabled : Type 0 where
  pub given : List ℕ
  pub threads : List ThreadState
  pub locks : List LockState

abbrev pub no_state : ThreadState
no_state = record { known = false; joined = false; ended = false }

abbrev pub no_lock : LockState
no_lock = record { holder = 0; depth = 0; count = 0 }

abbrev pub thread_state : Tabled → ℕ → ThreadState
thread_state t thread = slice_index_or t.threads thread no_state

abbrev pub lock_at : Tabled → ℕ → LockState
lock_at t lock = slice_index_or t.locks lock no_lock

-- ---- what it stands for

-- how often the thread acquired the lock and hasn't released it
abbrev pub held_depth : LockState → ℕ → ℕ
held_depth x thread = if thread == x.holder then x.depth else 0

pub record IsThread (all : Logs) (spots : List Spot) (thread : ℕ) (x : ThreadState) : Type 0 where
  pub known : x.known ≡ is_known all.roots (woven all spots) thread
  pub running : not x.joined ≡ (joins (woven all spots) thread == 0)
  pub ended : x.ended ≡ is_used_up all spots thread

pub record IsLock (all : Logs) (spots : List Spot) (lock : ℕ) (x : LockState) : Type 0 where
  pub counted : x.count ≡ acquires_of (woven all spots) lock
  pub held : (thread : ℕ) → takings (woven all spots) thread (exclusive lock) ≡ givings (woven all spots) thread (exclusive lock) + held_depth x thread
  pub few : x.depth ≤ x.count

pub record StandsFor (n : NumberedLogs) (spots : List Spot) (t : Tabled) : Type 0 where
  pub logs : length t.given ≡ length n.logs.items
  pub given : (l : ℕ) → slice_index t.given l ≡ given spots l
  pub thread_count : length t.threads ≡ length n.roots.items
  pub threads : (thread : ℕ) → thread < length n.roots.items → IsThread (logs_by_numbers n) spots thread (thread_state t thread)
  pub lock_count : length t.locks ≡ n.locks
  pub locks : (lock : ℕ) → lock < n.locks → IsLock (logs_by_numbers n) spots lock (lock_at t lock)

-- ---- before any event is placed

-- threads without an event, of which these are roots
pub record AreWithout (roots : List Bool) (threads : List ThreadState) : Type 0 where
  pub count : length threads ≡ length roots
  pub each : (thread : ℕ) → thread < length roots → slice_index_or threads thread no_state ≡ record { known = slice_index_or roots thread false; joined = false; ended = true }

abbrev pub AreThreadsOf : ℕ → List ThreadSteps → Type 0
AreThreadsOf count logs = (l : ℕ) (log : ThreadSteps) → slice_get logs l ≡ Some log → log.thread < count

-- nothing stands in a log, or it is another thread's
abbrev pub is_without : ℕ → ThreadSteps → Bool
is_without thread log = not (log.thread == thread) || (0 == length log.steps.items)

-- a thread of whose logs something is left hasn't ended
pub record AreLeftOpen (logs : List ThreadSteps) (old new : List ThreadState) : Type 0 where
  pub count : length new ≡ length old
  pub each : (thread : ℕ) → thread < length old → slice_index_or new thread no_state
      ≡ record { known = (slice_index_or old thread no_state).known; joined = (slice_index_or old thread no_state).joined; ended = (slice_index_or old thread no_state).ended && list_all (is_without thread) logs }

-- as many as the logs have
pub record FitsLogs (n : NumberedLogs) (t : Tabled) : Type 0 where
  pub logs : length t.given ≡ length n.logs.items
  pub threads : length t.threads ≡ length n.roots.items
  pub locks : length t.locks ≡ n.locks

-- ---- may an event be placed?

abbrev pub is_free_by : LockState → ℕ → Bool
is_free_by x thread = (x.depth == 0) || (x.holder == thread)

abbrev pub may_do_by : NumberedLogs → Tabled → ℕ → Step → Bool
may_do_by n t thread (Fork child) = not (thread_state t child).known
may_do_by n t thread (Join child) = (thread_state t child).known && (not (child == thread) && (thread_state t child).ended)
may_do_by n t thread (Acquire lock number) = is_free_by (lock_at t lock) thread && (number == (lock_at t lock).count + 1)
may_do_by n t thread (Release lock) = nat_lt 0 (held_depth (lock_at t lock) thread)
may_do_by n t thread (Call object) = slice_index_or n.declared.items object false

abbrev pub may_place_by : NumberedLogs → Tabled → ℕ → Step → Bool
may_place_by n t thread step = (thread_state t thread).known && (not (thread_state t thread).joined && may_do_by n t thread step)

-- the next step of the log, if it may be placed
abbrev pub next_step_in : NumberedLogs → Tabled → ℕ → ThreadSteps → Option Step
next_step_in n t log steps = option_and_then (λ step. if may_place_by n t steps.thread step then Some step else None) (slice_get steps.steps.items (slice_index t.given log))

abbrev pub next_step_of : NumberedLogs → Tabled → ℕ → Option Step
next_step_of n t log = option_and_then (next_step_in n t log) (slice_get n.logs.items log)

-- ---- what is known behind it

abbrev pub threads_behind : List ThreadState → Step → List ThreadState
threads_behind threads (Fork child) =
    let x = slice_index_or threads child no_state in slice_set threads child (record { known = true; joined = x.joined; ended = x.ended })
threads_behind threads (Join child) =
    let x = slice_index_or threads child no_state in slice_set threads child (record { known = x.known; joined = true; ended = x.ended })
threads_behind threads _ = threads

abbrev pub locks_behind : List LockState → ℕ → Step → List LockState
locks_behind locks thread (Acquire lock number) =
    slice_set locks lock (record { holder = thread; depth = (slice_index_or locks lock no_lock).depth + 1; count = number })
locks_behind locks thread (Release lock) =
    let x = slice_index_or locks lock no_lock in slice_set locks lock (record { holder = x.holder; depth = x.depth - 1; count = x.count })
locks_behind locks thread _ = locks

-- where nothing of a thread's log is left, it has ended
abbrev pub threads_left : List ThreadState → ℕ → Bool → List ThreadState
threads_left threads thread used_up =
    let x = slice_index_or threads thread no_state in
    if used_up then slice_set threads thread (record { known = x.known; joined = x.joined; ended = true }) else threads

abbrev pub placed_by : Tabled → ℕ → ThreadSteps → Step → Tabled
placed_by t log steps step = record {
  given = slice_set t.given log (slice_index t.given log + 1);
  threads = threads_left (threads_behind t.threads step) steps.thread (slice_index t.given log + 1 == length steps.steps.items);
  locks = locks_behind t.locks steps.thread step;
}

abbrev pub IsThreadStep : List ThreadState → Step → Type 0
IsThreadStep threads (Fork child) = child < length threads
IsThreadStep threads (Join child) = child < length threads
IsThreadStep threads _ = Unit {0}

-- an acquire leaves room for its lock's depth, and a release gives one back
abbrev pub IsLockStep : List LockState → Step → Type 0
IsLockStep locks (Acquire lock number) = (lock < length locks) × ((slice_index_or locks lock no_lock).depth + 1 < 2 ^ 32)
IsLockStep locks (Release lock) = (lock < length locks) × (0 < (slice_index_or locks lock no_lock).depth)
IsLockStep locks _ = Unit {0}

-- what placing a step asks of the tables
pub record CanPlace (n : NumberedLogs) (t : Tabled) (log : ℕ) (step : Step) : Type 0 where
  pub fits : FitsLogs n t
  pub inside : log < length n.logs.items
  pub room : slice_index t.given log + 1 < 2 ^ 32
  pub thread : IsThreadStep t.threads step
  pub lock : IsLockStep t.locks step

-- the number of the lock's next acquire, where no thread has the lock
abbrev pub next_acquire_by : LockState → Option ℕ
next_acquire_by x = if x.depth == 0 then Some (x.count + 1) else None
