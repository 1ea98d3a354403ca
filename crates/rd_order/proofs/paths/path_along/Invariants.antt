use Rattle.std.proofs.Common.{◌≡◌, ◌≤◌, ◌-◌, ℕ, List, ◌∷◌}
use Rattle.rd_order.specs.Paths.{GoesFarthest}
use Rattle.rd_order.proofs.paths.path_along.Given as goal

abbrev pub decreases-loop-last : goal.decreases-loop-last
decreases-loop-last l = l.j - l.last

abbrev pub invariant-loop-last : goal.invariant-loop-last
invariant-loop-last l = record {
  from : l.i ≤ l.last;
  to : l.last ≤ l.j;
  trail : (behind : List ℕ) × (l.places ≡ l.i ∷ behind) × GoesFarthest l.events l.j l.i behind l.last;
}
