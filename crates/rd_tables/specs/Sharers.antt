-- The threads that share locks: this project's profile.
use Rattle.std.specs.Prelude.{◌≡◌, ℕ, ◌<◌, ◌≤◌, ◌==◌, nat_lt, Bool, true, false, not, ◌&&◌, if◌then◌else◌, All, List, Option, Some, None}
use Rattle.std.specs.List.{sum_by}
use Rattle.rd_tables.specs.declared.sharers.Sharer.{Sharer}

-- how often the thread with this number has shared a lock and not unshared it, by one entry of the lock's sharers
abbrev pub depth_by : ℕ → Sharer → ℕ
depth_by thread sharer = if thread == sharer.thread then sharer.depth else 0

-- so by all of them
abbrev pub depth_among : List Sharer → ℕ → ℕ
depth_among sharers thread = sum_by (depth_by thread) sharers

-- no entry without depth is kept
abbrev pub AreDeep : List Sharer → Type 0
AreDeep sharers = All (λ sharer. 1 ≤ sharer.depth) sharers

-- a second thread shares the lock, and it is another one than the first
abbrev pub is_other_among : List Sharer → ℕ → ℕ → Bool
is_other_among sharers thread other = not (thread == other) && not (depth_among sharers other == 0)

-- the lesser of two numbers, where both are there, and else the one that is
abbrev pub lesser : Option ℕ → Option ℕ → Option ℕ
lesser None second = second
lesser (Some number) None = Some number
lesser (Some number) (Some other) = if nat_lt other number then Some other else Some number

-- it is the least number that passes the test, and none where none passes
abbrev pub IsLeast : (ℕ → Bool) → Option ℕ → Type 0
IsLeast test None = (n : ℕ) → test n ≡ false
IsLeast test (Some least) = (test least ≡ true) × ((n : ℕ) → n < least → test n ≡ false)
