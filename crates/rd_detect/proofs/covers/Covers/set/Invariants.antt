use Rattle.std.proofs.Common.{◌≡◌, ◌≤◌, ◌+◌, ◌-◌, ℕ, length}
use Rattle.rd_detect.specs.Covers.{cover_at}
use Rattle.rd_detect.proofs.covers.Covers.set.Given as goal

abbrev pub invariant-loop-self : goal.invariant-loop-self
invariant-loop-self l =
    ((other : ℕ) → cover_at l.self-inside.epochs.items other ≡ cover_at l.initial.self-inside.epochs.items other)
    × ((most : ℕ) → length l.initial.self-inside.epochs.items ≤ most → l.index + 1 ≤ most → length l.self-inside.epochs.items ≤ most)

abbrev pub decreases-loop-self : goal.decreases-loop-self
decreases-loop-self l = (l.index + 1) - length l.self-inside.epochs.items
