-- The logs that stand for logs by numbers. This project's profile.
use Rattle.std.specs.Prelude.{◌≡◌, ℕ, ◌<◌, ◌^◌, false, [], length, map, slice_get, slice_index_or, Some}
use Rattle.rd_event.specs.declared.events.Event.{Event}
use Rattle.rd_event.specs.declared.events.Event.TheVariants as event
use Rattle.rd_turns.specs.declared.logs.NumberedLogs.{NumberedLogs}
use Rattle.rd_turns.specs.declared.logs.Step.{Step}
use Rattle.rd_turns.specs.declared.logs.Step.TheVariants.{Fork, Join, Acquire, Release, Call}
use Rattle.rd_turns.specs.declared.logs.ThreadSteps.{ThreadSteps}
use Rattle.rd_weavings.specs.Logs.{Logs, Noted, ThreadLog}

-- the event of the thread. All calls are of one kind and method: which they are, and their values, play no part in an order
abbrev pub step_event : ℕ → Step → Event
step_event thread (Fork child) = event.Fork thread child
step_event thread (Join child) = event.Join thread child
step_event thread (Acquire lock number) = event.Acquire thread lock
step_event thread (Release lock) = event.Release thread lock
step_event thread (Call object) = event.Call (record { thread = thread; object = object; kind = 0; method = 0; slots = [] })

abbrev pub step_number : Step → ℕ
step_number (Acquire lock number) = number
step_number _ = 0

abbrev pub noted_step : ℕ → Step → Noted
noted_step thread step = record { event = step_event thread step; number = step_number step }

abbrev pub thread_log : ThreadSteps → ThreadLog
thread_log log = record { thread = log.thread; events = map (noted_step log.thread) log.steps.items }

abbrev pub logs_by_numbers : NumberedLogs → Logs
logs_by_numbers n = record {
  logs = map thread_log n.logs.items;
  roots = λ t. slice_index_or n.roots.items t false;
  declared = λ o. slice_index_or n.declared.items o false;
}

-- ---- the numbers are those of threads, locks and objects

abbrev pub IsStepInRange : NumberedLogs → Step → Type 0
IsStepInRange n (Fork child) = child < length n.roots.items
IsStepInRange n (Join child) = child < length n.roots.items
IsStepInRange n (Acquire lock number) = (lock < n.locks) × (number < 2 ^ 32)
IsStepInRange n (Release lock) = lock < n.locks
IsStepInRange n (Call object) = object < length n.declared.items

-- and no log is too long for its places
pub record IsLogInRange (n : NumberedLogs) (log : ThreadSteps) : Type 0 where
  pub thread : log.thread < length n.roots.items
  pub steps : (p : ℕ) (step : Step) → slice_get log.steps.items p ≡ Some step → IsStepInRange n step
  pub few : length log.steps.items < 2 ^ 32

pub record AreInRange (n : NumberedLogs) : Type 0 where
  pub each : (l : ℕ) (log : ThreadSteps) → slice_get n.logs.items l ≡ Some log → IsLogInRange n log
  pub few : length n.logs.items < 2 ^ 32
