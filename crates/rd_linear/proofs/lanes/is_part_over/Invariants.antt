use Rattle.std.proofs.Common.{◌≡◌, ◌<◌, ◌≤◌, ℕ, true}
use Rattle.rd_linear.specs.Lanes.{is_over}
use Rattle.rd_linear.proofs.lanes.is_part_over.Given as goal

abbrev pub invariant-loop-at : goal.invariant-loop-at
invariant-loop-at l = (k : ℕ) → l.fn.part.from ≤ k → k < l.at → is_over l.waits l.seen k ≡ true
