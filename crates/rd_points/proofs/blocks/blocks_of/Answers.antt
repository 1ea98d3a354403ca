use Rattle.std.proofs.Common.{◌≡◌, ◌≤◌, ◌<◌, ◌^◌, length, arith, refl, sym, subst, ap, ◌∙◌}
use Rattle.rd_ecl.specs.Specified.{method_predicates}
use Rattle.rd_points.specs.Classes.{valuations}
use Rattle.rd_points.proofs.BlockLemmas.{blocks_more}
use Rattle.rd_points.proofs.ColumnLemmas.{predicates_long, predicates_read}
use Rattle.rd_points.proofs.blocks.blocks_of.Goals as goal

pub bounds-predicates-method : goal.bounds-predicates-method
bounds-predicates-method c = omega (arith, predicates_long c.args.kind.now c.args.predicates.now c.requires, ap length c.methods-count.ensures.value)

pub valuation_count-valuations-requires : goal.valuation_count-valuations-requires
valuation_count-valuations-requires c =
    let kind = c.args.kind.now in
    let m = c.loop-method.method in
    let here = predicates_read kind c.args.predicates.now c.requires m m _ (omega (arith, ap length c.methods-count.ensures.value)) refl c.index-predicates-method.is in
    let few : length (method_predicates kind m) ≤ 5 = c.methods-count.ensures.valid.draft.pairs.few m in
    subst (λ l. length l ≤ 5) (sym here) few

pub loop-method-preserved : goal.loop-method-preserved
loop-method-preserved c =
    let kind = c.args.kind.now in
    let m = c.loop-method.method in
    let known : m < length kind.methods = omega (arith, ap length c.methods-count.ensures.value) in
    let here = predicates_read kind c.args.predicates.now c.requires m m _ known refl c.index-predicates-method.is in
    let many : c.valuation_count-valuations.result ≡ valuations kind m = c.valuation_count-valuations.ensures ∙ ap (λ l. 2 ^ length l) here in
    let few : length kind.methods ≤ 16 = c.methods-count.ensures.valid.draft.methods.few in
    blocks_more kind m _ _ _ _ _ refl c.slot_count-slots.ensures.value many c.loop-method.invariant c.in_ok-add_blocks.ensures
