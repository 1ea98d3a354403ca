use Rattle.std.proofs.Common.{◌≡◌, ◌≤◌, ◌<◌, ◌+◌, ◌*◌, ◌^◌, length, map, [], arith, refl, sym, subst, ap, ◌∙◌}
use Rattle.rd_ecl.specs.Specified.{method_predicates}
use Rattle.std.specs.List.{range_with_len}
use Rattle.rd_points.specs.Classes.{valuations}
use Rattle.rd_points.specs.Compiled.{touches_of}
use Rattle.rd_points.proofs.BlockLemmas.{count_more, method_touches_are, row_pushed}
use Rattle.rd_points.proofs.ClassLemmas.{valuations_few}
use Rattle.rd_points.proofs.ColumnLemmas.{predicates_long, predicates_read}
use Rattle.rd_points.proofs.compiling.touches_of.Goals as goal

pub bounds-predicates-method : goal.bounds-predicates-method
bounds-predicates-method c = omega (arith, predicates_long c.args.kind.now c.args.predicates.now c.requires, ap length c.methods-count.ensures.value)

pub valuation_count-valuations-requires : goal.valuation_count-valuations-requires
valuation_count-valuations-requires c =
    let kind = c.args.kind.now in
    let m = c.loop-method.method in
    let here = predicates_read kind c.args.predicates.now c.requires m m _ (omega (arith, ap length c.methods-count.ensures.value)) refl c.index-predicates-method.is in
    let few : length (method_predicates kind m) ≤ 5 = c.methods-count.ensures.valid.draft.pairs.few m in
    subst (λ l. length l ≤ 5) (sym here) few

pub method_touches-requires-clause-bound : goal.method_touches-requires-clause-bound
method_touches-requires-clause-bound c =
    let kind = c.args.kind.now in
    let m = c.loop-method.method in
    let known : m < length kind.methods = omega (arith, ap length c.methods-count.ensures.value) in
    let here = predicates_read kind c.args.predicates.now c.requires m m _ known refl c.index-predicates-method.is in
    let many : c.valuation_count-valuations.result ≡ valuations kind m = c.valuation_count-valuations.ensures ∙ ap (λ l. 2 ^ length l) here in
    let few : length kind.methods ≤ 16 = c.methods-count.ensures.valid.draft.methods.few in
    let most : valuations kind m ≤ 32 = valuations_few kind c.methods-count.ensures.valid m in
    omega arith

pub loop-method-preserved : goal.loop-method-preserved
loop-method-preserved c =
    let kind = c.args.kind.now in
    let m = c.loop-method.method in
    let known : m < length kind.methods = omega (arith, ap length c.methods-count.ensures.value) in
    let here = predicates_read kind c.args.predicates.now c.requires m m _ known refl c.index-predicates-method.is in
    let many : c.valuation_count-valuations.result ≡ valuations kind m = c.valuation_count-valuations.ensures ∙ ap (λ l. 2 ^ length l) here in
    let slots = c.slot_count-slots.ensures.value in
    let made = c.in_ok-method_touches.ensures ∙ method_touches_are kind m c.loop-method.next c.slot_count-slots.result c.valuation_count-valuations.result c.loop-method.invariant.next slots many in
    let count = count_more kind c.methods-count.ensures.valid m c.loop-method.next c.slot_count-slots.result c.valuation_count-valuations.result c.loop-method.invariant.next slots many in
    let product : c.from.result * (c.from-in-loop-method.result + 1) ≡ c.valuation_count-valuations.result * (c.slot_count-slots.result + 1) =
    ap (λ k. k * (c.from-in-loop-method.result + 1)) c.from.ensures ∙ ap (λ k. c.valuation_count-valuations.result * (k + 1)) c.from-in-loop-method.ensures in
    record {
      rows = row_pushed (λ rows. map (λ row. row.items) rows.items) (λ k. map (touches_of kind k) (range_with_len 0 (valuations kind k))) [] _ _ _ m c.in_ok-push.ensures.items made c.loop-method.invariant.rows;
      next = ap (λ k. c.loop-method.next + k) product ∙ count.0;
      bound = omega (arith, product, count.1);
    }
