use Rattle.std.proofs.Common.{◌≡◌, ◌<◌, ◌≤◌, ◌^◌, length, drop, sym, ap, subst, ◌∙◌, arith}
use Rattle.rd_points.specs.Classes.{bits_of}
use Rattle.rd_points.proofs.ValuationLemmas.{bit_small, bits_below, bits_small}
use Rattle.rd_points.proofs.tables.valuation.Goals as goal

pub overflow_mul-bits : goal.overflow_mul-bits
overflow_mul-bits c =
    let small : c.loop-place.bits < 32 = subst (λ k. k < 32) (sym c.loop-place.invariant.1) (bits_small c.args.predicates.now c.args.slots.now c.loop-place.place c.requires) in
    omega arith

pub overflow_add-bits : goal.overflow_add-bits
overflow_add-bits c =
    let small : c.loop-place.bits < 32 = subst (λ k. k < 32) (sym c.loop-place.invariant.1) (bits_small c.args.predicates.now c.args.slots.now c.loop-place.place c.requires) in
    let one : c.bit.result ≤ 1 = subst (λ k. k ≤ 1) (sym c.bit.ensures) (bit_small c.holds.result) in
    omega arith

pub returns-clause-bound : goal.returns-clause-bound
returns-clause-bound c =
    let ps = c.args.predicates.now in
    let all : c.loop-place.place ≡ 0 = omega arith in
    let is : c.loop-place.bits ≡ bits_of ps c.args.slots.now = c.loop-place.invariant.1 ∙ ap (λ i. bits_of (drop i ps) c.args.slots.now) all in
    subst (λ k. k < 2 ^ length ps) (sym is) (bits_below ps c.args.slots.now)
