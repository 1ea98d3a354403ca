use Rattle.std.proofs.Common.{◌≡◌, ℕ, ◌≤◌, vec_len}
use Rattle.rd_tables.specs.Shares.{share_depth}
use Rattle.rd_tables.proofs.shares.Shares.grow.Given as goal

-- so many lists are there, and all locks are shared as before
abbrev pub invariant-loop : goal.invariant-loop
invariant-loop l = record {
  many : l.counter ≤ vec_len l.self.locks;
  same : (other thread : ℕ) → share_depth l.self other thread ≡ share_depth l.fn.self other thread;
}
