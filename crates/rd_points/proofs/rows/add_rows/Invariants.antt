use Rattle.std.proofs.Common.{◌≡◌, ◌++◌, map}
use Rattle.std.specs.List.{range_with_len}
use Rattle.rd_points.specs.Blocks.{columns_at, row_from}
use Rattle.rd_points.specs.Classes.{slot_at}
use Rattle.rd_points.proofs.rows.add_rows.Given as goal

abbrev pub invariant-loop-i : goal.invariant-loop-i
invariant-loop-i l = map (λ row. row.items) l.rows.items
    ≡ map (λ row. row.items) l.initial.rows.items ++ map (λ i. row_from 0 (slot_at i) (columns_at (map (λ row. row.items) l.grid) l.blocks l.at)) (range_with_len 0 l.i)
