-- The threads that share each lock: this project's profile.
use Rattle.std.specs.Prelude.{ℕ, ◌≡◌, ◌<◌, vec_len, vec_capacity, ◌==◌, Bool, not, ◌&&◌, Option, Some, None, slice_get}
use Rattle.rd_tables.specs.Sharers.{depth_among}
use Rattle.rd_tables.specs.declared.sharers.Sharers.{Sharers}
use Rattle.rd_tables.specs.declared.shares.Shares.{Shares}

-- how often the thread with this number has shared a lock and not unshared it, by the lock's sharers, where they are held
abbrev pub depth_at : Option Sharers → ℕ → ℕ
depth_at None thread = 0
depth_at (Some sharers) thread = depth_among sharers.sharers.items thread

-- so of the lock with this number
abbrev pub share_depth : Shares → ℕ → ℕ → ℕ
share_depth shares lock thread = depth_at (slice_get shares.locks.items lock) thread

-- a second thread shares this lock, and it is another one than the first
abbrev pub is_other_sharer : Shares → ℕ → ℕ → ℕ → Bool
is_other_sharer shares lock thread other = not (thread == other) && not (share_depth shares lock other == 0)
