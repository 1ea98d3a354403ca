use Rattle.std.proofs.Common.{◌≡◌, ◌+◌, ◌-◌, ℕ, length}
use Rattle.rd_linear.specs.Noting.{place_noted}
use Rattle.rd_linear.proofs.waits.make_room.Given as goal

abbrev pub invariant-loop-noted : goal.invariant-loop-noted
invariant-loop-noted l = (q : ℕ) → place_noted l.noted.items q ≡ place_noted l.initial.noted.items q

abbrev pub decreases-loop-noted : goal.decreases-loop-noted
decreases-loop-noted l = (l.key + 1) - length l.noted.items
