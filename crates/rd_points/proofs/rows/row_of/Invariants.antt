use Rattle.std.proofs.Common.{◌≡◌, ◌++◌, ◌*◌, ◌≤◌, drop, map}
use Rattle.rd_points.specs.Blocks.{columns_at, row_from}
use Rattle.rd_points.proofs.rows.row_of.Given as goal

abbrev pub invariant-loop-other : goal.invariant-loop-other
invariant-loop-other l = record {
  rest : l.row.items ++ row_from l.next l.slot (drop l.other (columns_at (map (λ row. row.items) l.grid) l.blocks l.at))
      ≡ row_from 0 l.slot (columns_at (map (λ row. row.items) l.grid) l.blocks l.at);
  bound : l.next ≤ 8 * l.other;
}
