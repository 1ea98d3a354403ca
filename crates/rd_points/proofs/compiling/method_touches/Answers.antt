use Rattle.std.proofs.Common.{◌+◌, ◌*◌, [], arith, ap, ◌∙◌}
use Rattle.rd_points.specs.Blocks.{touches_from}
use Rattle.rd_points.proofs.BlockLemmas.{row_pushed}
use Rattle.rd_points.proofs.compiling.method_touches.Goals as goal

pub loop-bits-preserved : goal.loop-bits-preserved
loop-bits-preserved c =
    let bits = c.loop-bits.bits in
    let slots = c.args.slots in
    let made = c.block_touches.ensures ∙ ap (λ k. touches_from k slots) c.loop-bits.invariant.next in
    record {
      rows = row_pushed (λ row. row.items) (λ bits. touches_from (c.args.first + bits * (slots + 1)) slots) [] _ _ _ bits c.in_ok-push.ensures.items made c.loop-bits.invariant.rows;
      next = omega arith;
      bound = omega arith;
    }
