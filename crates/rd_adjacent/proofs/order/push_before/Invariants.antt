use Rattle.std.proofs.Common.{◌≡◌, ◌++◌}
use Rattle.rd_adjacent.specs.Beside.{places_before}
use Rattle.rd_adjacent.proofs.order.push_before.Given as goal

abbrev pub invariant-loop-place : goal.invariant-loop-place
invariant-loop-place l = l.places ≡ l.initial.places ++ places_before l.events l.two.i l.two.j l.place
