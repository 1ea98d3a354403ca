use Rattle.std.proofs.Common.{◌≡◌}
use Rattle.rd_points.specs.Blocks.{method_blocks}
use Rattle.rd_points.specs.Classes.{joined}
use Rattle.rd_points.proofs.blocks.blocks_of.Given as goal

abbrev pub invariant-loop-method : goal.invariant-loop-method
invariant-loop-method l = l.blocks.items ≡ joined (method_blocks l.kind) l.method
