use Rattle.std.proofs.Common.{ℕ}
use Rattle.rd_points.specs.declared.blocks.Block.{Block}
use Rattle.rd_points.proofs.BlockLemmas.{pushed}
use Rattle.rd_points.proofs.blocks.add_blocks.Goals as goal

pub loop-bits-preserved : goal.loop-bits-preserved
loop-bits-preserved c =
    let block : ℕ → Block = λ bits. record { method = c.args.method; bits = bits; slots = c.args.slots } in
    pushed block _ _ _ c.loop-bits.bits c.in_ok-push.ensures.items c.loop-bits.invariant
