use Rattle.std.proofs.Common.{◌≡◌, map, take}
use Rattle.std.specs.Prelude.{flat_map}
use Rattle.rd_points.specs.Blocks.{block_classes, conflict_row}
use Rattle.rd_points.proofs.rows.rows_of.Given as goal

abbrev pub invariant-loop-at : goal.invariant-loop-at
invariant-loop-at l = map (λ row. row.items) l.rows.items ≡ map (conflict_row l.kind) (flat_map block_classes (take l.at l.blocks))
