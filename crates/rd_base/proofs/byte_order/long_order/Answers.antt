use Rattle.std.proofs.Common.{◌+◌, arith, ◌∙◌}
use Rattle.rd_base.proofs.ByteOrderLemmas.{front_tells, then_tells, by_lengths, fewer, behind}
use Rattle.rd_base.proofs.byte_order.long_order.Goals as goal

pub returns-then-x-y : goal.returns-then-x-y
returns-then-x-y c =
    let told = front_tells c.args.first.now c.args.second.now (λ k. (c.type_inv.first k).fits) (λ k. (c.type_inv.second k).fits) 8 0 _ _ 0 0
    (omega arith) (omega arith) c.eight_at-x.ensures c.eight_at-y.ensures in
    c.cmp.ensures ∙ told.apart c.if-x-y.true

pub returns-then-x-y-2 : goal.returns-then-x-y-2
returns-then-x-y-2 c =
    let told = then_tells c.args.first.now c.args.second.now (λ k. (c.type_inv.first k).fits) (λ k. (c.type_inv.second k).fits) 8 c.min-next.result _ _ _ _
    (omega arith) (omega arith) (omega arith) c.if-x-y.false c.eight_at-x.ensures c.eight_at-y.ensures c.eight_at-x-2.ensures c.eight_at-y-2.ensures in
    c.cmp-then-x-y-2.ensures ∙ told.apart c.if-x-y-2.true

pub returns-then-both-le16 : goal.returns-then-both-le16
returns-then-both-le16 c =
    let told = then_tells c.args.first.now c.args.second.now (λ k. (c.type_inv.first k).fits) (λ k. (c.type_inv.second k).fits) 8 c.min-next.result _ _ _ _
    (omega arith) (omega arith) (omega arith) c.if-x-y.false c.eight_at-x.ensures c.eight_at-y.ensures c.eight_at-x-2.ensures c.eight_at-y-2.ensures in
    c.cmp-then-both-le16.ensures ∙ by_lengths (c.min-next.result + 8) _ _ (omega arith) (told.alike c.if-x-y-2.false)

pub returns : goal.returns
returns c =
    let told = then_tells c.args.first.now c.args.second.now (λ k. (c.type_inv.first k).fits) (λ k. (c.type_inv.second k).fits) 8 c.min-next.result _ _ _ _
    (omega arith) (omega arith) (omega arith) c.if-x-y.false c.eight_at-x.ensures c.eight_at-y.ensures c.eight_at-x-2.ensures c.eight_at-y-2.ensures in
    c.slow_order.ensures ∙ behind 16 _ _ (fewer 16 (c.min-next.result + 8) _ _ (omega arith) (told.alike c.if-x-y-2.false))
