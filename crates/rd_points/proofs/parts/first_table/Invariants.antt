use Rattle.std.proofs.Common.{◌≡◌, map}
use Rattle.std.specs.List.{range_with_len}
use Rattle.rd_ecl.specs.Formulas.{tree_of}
use Rattle.rd_ecl.specs.Reduction.{reduce_of}
use Rattle.rd_points.proofs.parts.first_table.Given as goal

abbrev pub invariant-loop-bits : goal.invariant-loop-bits
invariant-loop-bits l = l.table.items ≡ map (λ v. reduce_of (tree_of l.formula) l.first v l.second 0) (range_with_len 0 l.bits)
