-- Which logs wait in which slots. This project's profile.
use Rattle.std.specs.Prelude.{◌≡◌, ℕ, ◌+◌, ◌<◌, ◌%◌, length, Some, IfSome, IsSome, slice_get, slice_index}
use Rattle.std.specs.List.{Contains}
use Rattle.rd_turns.specs.declared.logs.NumberedLogs.{NumberedLogs}
use Rattle.rd_turns.specs.declared.logs.Step.{Step}
use Rattle.rd_turns.specs.declared.logs.Step.TheVariants.{Fork, Join, Acquire, Release}
use Rattle.rd_turns.specs.declared.logs.ThreadSteps.{ThreadSteps}
use Rattle.rd_turns.specs.Standing.{Tabled, lock_at, next_acquire_by}
use Rattle.rd_turns.specs.declared.waiting.Waiters.{Waiters}
use Rattle.rd_turns.specs.declared.waiting.Waiting.{Waiting}

abbrev pub slot_count : Waiters → ℕ
slot_count w = length w.slots.items

-- the log stands in the slot
abbrev pub IsListed : Waiters → ℕ → ℕ → Type 0
IsListed w slot log = (slot < slot_count w) × IfSome (slice_get w.slots.items slot) (λ logs. Contains logs.items log)

abbrev pub acquire_slot : Waiting → ℕ → ℕ → ℕ
acquire_slot w lock number = (slice_index w.first.items lock + number) % slot_count w.acquires

-- there is a slot for each thread, and one for each acquire
pub record HasSlots (n : NumberedLogs) (w : Waiting) : Type 0 where
  pub threads : slot_count w.threads ≡ length n.roots.items
  pub acquires : 0 < slot_count w.acquires
  pub first : length w.first.items ≡ n.locks

-- no log was taken out, and the slots are those
pub record HasMore (old new : Waiting) : Type 0 where
  pub threads : (slot l : ℕ) → IsListed old.threads slot l → IsListed new.threads slot l
  pub acquires : (slot l : ℕ) → IsListed old.acquires slot l → IsListed new.acquires slot l
  pub thread_slots : slot_count new.threads ≡ slot_count old.threads
  pub acquire_slots : slot_count new.acquires ≡ slot_count old.acquires
  pub first : new.first ≡ old.first

abbrev pub KnowsStep : Waiting → ℕ → Step → Type 0
KnowsStep w log (Join child) = IsListed w.threads child log
KnowsStep w log (Acquire lock number) = IsListed w.acquires (acquire_slot w lock number) log
KnowsStep w log _ = Unit {0}

-- the log stands where its thread waits to begin, and where each of its steps waits
pub record KnowsLog (n : NumberedLogs) (w : Waiting) (l : ℕ) : Type 0 where
  pub own : (log : ThreadSteps) → slice_get n.logs.items l ≡ Some log → IsListed w.threads log.thread l
  pub steps : (log : ThreadSteps) (p : ℕ) (step : Step) → slice_get n.logs.items l ≡ Some log → slice_get log.steps.items p ≡ Some step → KnowsStep w l step

abbrev pub KnowsAll : NumberedLogs → Waiting → Type 0
KnowsAll n w = (l : ℕ) → l < length n.logs.items → KnowsLog n w l

-- what making ready asks
abbrev pub CanWake : Waiting → Tabled → Step → Type 0
CanWake w t (Fork child) = child < slot_count w.threads
CanWake w t (Release lock) = (lock < length t.locks) × (lock < length w.first.items) × (0 < slot_count w.acquires)
CanWake w t _ = Unit {0}

-- the log waits for the begin of the thread that the step forks, or to acquire the lock that it frees
abbrev pub IsWokenBy : Waiting → Tabled → Step → ℕ → Type 0
IsWokenBy w t (Fork child) l = IsListed w.threads child l
IsWokenBy w t (Release lock) l = IfSome (next_acquire_by (lock_at t lock)) (λ number. IsListed w.acquires (acquire_slot w lock number) l) × IsSome (next_acquire_by (lock_at t lock))
IsWokenBy w t _ l = ⊥
