use Rattle.std.proofs.Common.{◌≡◌}
use Rattle.rd_linear.proofs.waits.replace.Given as goal

abbrev pub invariant-loop-at : goal.invariant-loop-at
invariant-loop-at l = l.places.items ≡ l.fn.places.items
