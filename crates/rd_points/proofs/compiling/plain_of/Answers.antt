use Rattle.std.specs.Prelude.{is_none}
use Rattle.rd_points.proofs.BlockLemmas.{flat_more}
use Rattle.rd_points.proofs.compiling.plain_of.Goals as goal

pub loop-block-preserved : goal.loop-block-preserved
loop-block-preserved c =
    flat_more (λ class. is_none class.slot) c.args.blocks.now c.loop-block.block-index _ _ _ c.loop-block-test.true c.loop-block.invariant c.in_ok-add_plain.ensures
