-- What stands between two events that are numbered. This project's profile.
use Rattle.std.specs.Prelude.{◌≡◌, ℕ, ◌<◌, ◌^◌, ◌==◌, Bool, false, List, ◌++◌, length, map, slice_get, Some}
use Rattle.rd_event.specs.declared.items.LineEvent.{LineEvent}
use Rattle.rd_event.specs.declared.items.LineEvent.TheVariants as line
use Rattle.rd_logs.specs.declared.lines.LogEvent.{LogEvent}
use Rattle.rd_logs.specs.WholeLogs.{LogRecord}
use Rattle.rd_numbered_logs.specs.LogNames.{LogNames}
use Rattle.rd_rules.specs.MayFollow.{place}
use Rattle.rd_turns.specs.declared.logs.Step.{Step}
use Rattle.rd_turns.specs.declared.logs.Step.TheVariants.{Fork, Join, Acquire, Release, Call}
use Rattle.rd_turns.specs.declared.logs.ThreadSteps.{ThreadSteps}

-- the step of an event of the thread with this number
abbrev pub step_with : LogNames → ℕ → ℕ → LineEvent → Step
step_with names thread number (line.Fork own child) = Fork (place names.threads child)
step_with names thread number (line.Join own child) = Join (place names.threads child)
step_with names thread number (line.Acquire own lock) = Acquire (place names.locks lock) number
step_with names thread number (line.Release own lock) = Release (place names.locks lock)
step_with names thread number (line.Call own object method slots) = Call (place names.objects object)
step_with names thread number _ = Fork thread

abbrev pub step_under : LogNames → ℕ → LogEvent → Step
step_under names thread noted = step_with names thread noted.number noted.event

-- more names may stand behind these
pub record IsFrontOf (names all : LogNames) : Type 0 where
  pub threads : (more : List (List ℕ)) × (all.threads ≡ names.threads ++ more)
  pub locks : (more : List (List ℕ)) × (all.locks ≡ names.locks ++ more)
  pub objects : (more : List (List ℕ)) × (all.objects ≡ names.objects ++ more)

-- the numbers of a step are those of names
abbrev pub IsStepAmong : LogNames → Step → Type 0
IsStepAmong names (Fork child) = child < length names.threads
IsStepAmong names (Join child) = child < length names.threads
IsStepAmong names (Acquire lock number) = (lock < length names.locks) × (number < 2 ^ 32)
IsStepAmong names (Release lock) = lock < length names.locks
IsStepAmong names (Call object) = object < length names.objects

-- the steps are those of the events, whatever names stand behind
pub record AreSteps (names : LogNames) (thread : ℕ) (events : List LogEvent) (steps : List Step) : Type 0 where
  pub are : (all : LogNames) → IsFrontOf names all → steps ≡ map (step_under all thread) events
  pub among : (p : ℕ) (step : Step) → slice_get steps p ≡ Some step → IsStepAmong names step

-- and so are those of a log, whose thread has this number
pub record IsNumberedLog (names : LogNames) (number : ℕ) (log : LogRecord) (numbered : ThreadSteps) : Type 0 where
  pub thread : numbered.thread ≡ number
  pub steps : AreSteps names number log.events numbered.steps.items
  pub few : length numbered.steps.items < 2 ^ 32

-- each thread has the number of its log
pub record AreNumberedLogs (names : LogNames) (logs : List LogRecord) (numbered : List ThreadSteps) : Type 0 where
  pub count : length numbered ≡ length logs
  pub each : (l : ℕ) (log : LogRecord) (steps : ThreadSteps) → slice_get logs l ≡ Some log → slice_get numbered l ≡ Some steps → IsNumberedLog names l log steps

-- the step forks the thread
abbrev pub step_forks : ℕ → Step → Bool
step_forks thread (Fork child) = child == thread
step_forks thread _ = false
