use Rattle.std.proofs.Common.{◌≡◌, map, take}
use Rattle.rd_points.specs.Blocks.{one_way}
use Rattle.rd_points.proofs.columns.formulas_of.Given as goal

abbrev pub invariant-loop-y : goal.invariant-loop-y
invariant-loop-y l = l.formulas.items ≡ map (one_way l.kind l.x) (take l.y-index l.blocks)
