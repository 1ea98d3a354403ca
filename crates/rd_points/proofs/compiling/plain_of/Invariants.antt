use Rattle.std.proofs.Common.{◌≡◌, map, take}
use Rattle.std.specs.Prelude.{flat_map, is_none}
use Rattle.rd_points.specs.Blocks.{block_classes}
use Rattle.rd_points.proofs.compiling.plain_of.Given as goal

abbrev pub invariant-loop-block : goal.invariant-loop-block
invariant-loop-block l = l.plain.items ≡ map (λ class. is_none class.slot) (flat_map block_classes (take l.block-index l.blocks))
