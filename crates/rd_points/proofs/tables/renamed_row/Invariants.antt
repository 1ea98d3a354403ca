use Rattle.std.proofs.Common.{◌≡◌, ◌≤◌, length, take, filter_map, slice_index_or, None}
use Rattle.rd_points.specs.Tables.{renamed_touch}
use Rattle.rd_points.proofs.tables.renamed_row.Given as goal

abbrev pub invariant-loop-touch : goal.invariant-loop-touch
invariant-loop-touch l =
    (l.renamed.items ≡ filter_map (renamed_touch (λ c. slice_index_or l.names c None)) (take l.touch-index l.touch-items))
    × (length l.renamed.items ≤ l.touch-index) × (length l.touch-items ≤ 8)
