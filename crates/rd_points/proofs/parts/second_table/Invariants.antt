use Rattle.std.proofs.Common.{◌≡◌, map}
use Rattle.std.specs.List.{range_with_len}
use Rattle.rd_ecl.specs.Formulas.{tree_of}
use Rattle.rd_ecl.specs.Reduction.{reduce_of}
use Rattle.rd_points.proofs.parts.second_table.Given as goal

abbrev pub invariant-loop-bits : goal.invariant-loop-bits
invariant-loop-bits l = l.table.items ≡ map (λ w. reduce_of (tree_of l.formula) l.first 0 l.second w) (range_with_len 0 l.bits)
