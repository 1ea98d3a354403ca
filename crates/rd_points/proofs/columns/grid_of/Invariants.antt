use Rattle.std.proofs.Common.{◌≡◌, map, take}
use Rattle.rd_points.specs.Blocks.{one_way}
use Rattle.rd_points.proofs.columns.grid_of.Given as goal

abbrev pub invariant-loop-x : goal.invariant-loop-x
invariant-loop-x l = map (λ row. row.items) l.grid.items ≡ map (λ x. map (one_way l.kind x) l.blocks) (take l.x-index l.blocks)
