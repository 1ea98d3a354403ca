use Rattle.std.proofs.Common.{◌≡◌, ◌≤◌, length, map, All}
use Rattle.std.specs.List.{range_with_len}
use Rattle.rd_base.specs.declared.limits.TheConstants.{MOST_PREDICATES}
use Rattle.rd_ecl.specs.Specified.{method_predicates}
use Rattle.rd_points.proofs.compiling.predicates_of.Given as goal

abbrev pub invariant-loop-method : goal.invariant-loop-method
invariant-loop-method l = (l.predicates.items ≡ map (method_predicates l.kind) (range_with_len 0 l.method)) × All (λ ps. length ps ≤ MOST_PREDICATES) l.predicates.items
