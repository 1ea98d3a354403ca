use Rattle.std.proofs.Common.{length, arith, sym, subst, ap, ◌≤◌, [], ◌∷◌, length-append}
use Rattle.rd_points.proofs.ColumnLemmas.{listed_here, predicates_long, predicates_read}
use Rattle.rd_points.proofs.PartLemmas.{parts_more, stands_pair}
use Rattle.rd_points.proofs.parts.part_row.Goals as goal

pub bounds-predicates-from : goal.bounds-predicates-from
bounds-predicates-from c = omega (arith, predicates_long c.args.kind.now c.args.predicates.now c.requires.predicates, c.from.ensures)

pub bounds-predicates-from-in-loop-first : goal.bounds-predicates-from-in-loop-first
bounds-predicates-from-in-loop-first c = omega (arith, predicates_long c.args.kind.now c.args.predicates.now c.requires.predicates, c.from-in-loop-first.ensures)

pub part_of-requires-clause-few : goal.part_of-requires-clause-few
part_of-requires-clause-few c =
    let kind = c.args.kind.now in
    let first = predicates_read kind c.args.predicates.now c.requires.predicates c.loop-first.first c.from.result c.index-predicates-from.result (omega arith) c.from.ensures c.index-predicates-from.is in
    let second = predicates_read kind c.args.predicates.now c.requires.predicates c.args.second c.from-in-loop-first.result c.index-predicates-from-in-loop-first.result c.requires.known c.from-in-loop-first.ensures c.index-predicates-from-in-loop-first.is in
    (subst (λ l. length l ≤ 5) (sym first) (c.requires.valid.draft.pairs.few c.loop-first.first), subst (λ l. length l ≤ 5) (sym second) (c.requires.valid.draft.pairs.few c.args.second))

pub part_of-requires-clause-listed : goal.part_of-requires-clause-listed
part_of-requires-clause-listed c =
    let kind = c.args.kind.now in
    let first = predicates_read kind c.args.predicates.now c.requires.predicates c.loop-first.first c.from.result c.index-predicates-from.result (omega arith) c.from.ensures c.index-predicates-from.is in
    let second = predicates_read kind c.args.predicates.now c.requires.predicates c.args.second c.from-in-loop-first.result c.index-predicates-from-in-loop-first.result c.requires.known c.from-in-loop-first.ensures c.index-predicates-from-in-loop-first.is in
    listed_here kind c.loop-first.first c.args.second _ _ first second c.requires.valid (omega arith) c.requires.known _ c.formula-formula.ensures.value

pub loop-first-preserved : goal.loop-first-preserved
loop-first-preserved c =
    let kind = c.args.kind.now in
    let first = predicates_read kind c.args.predicates.now c.requires.predicates c.loop-first.first c.from.result c.index-predicates-from.result (omega arith) c.from.ensures c.index-predicates-from.is in
    let second = predicates_read kind c.args.predicates.now c.requires.predicates c.args.second c.from-in-loop-first.result c.index-predicates-from-in-loop-first.result c.requires.known c.from-in-loop-first.ensures c.index-predicates-from-in-loop-first.is in
    let m = c.loop-first.first in
    let old = c.loop-first.parts.items in
    let part = c.in_ok-part_of.field-0 in
    let one = stands_pair kind c.args.second m part _ _ _ first second c.formula-formula.ensures.value c.in_ok-part_of.ensures in (
      parts_more kind c.args.second m old c.push.new.self.items part c.loop-first.invariant.1 c.in_ok-push.ensures.items c.loop-first.invariant.0 one,
      omega (arith, ap length c.in_ok-push.ensures.items, length-append old (part ∷ []), c.loop-first.invariant.1),
    )
