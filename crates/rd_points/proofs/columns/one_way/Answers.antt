use Rattle.std.proofs.Common.{ap, ◌∙◌, length, arith, sym, subst, ◌≤◌, rules, tests}
use Rattle.std.specs.Prelude.{option_map}
use Rattle.rd_ecl.specs.Specified.{method_predicates}
use Rattle.rd_points.proofs.ColumnLemmas.{listed_here, one_way_is, predicates_long, predicates_read}
use Rattle.rd_points.proofs.PartLemmas.{one_way_found}
use Rattle.rd_points.proofs.columns.one_way.Goals as goal

pub bounds-predicates-from : goal.bounds-predicates-from
bounds-predicates-from c = omega (arith, predicates_long c.args.kind.now c.args.predicates.now c.requires.predicates, c.from.ensures)

pub bounds-predicates-from-2 : goal.bounds-predicates-from-2
bounds-predicates-from-2 c = omega (arith, predicates_long c.args.kind.now c.args.predicates.now c.requires.predicates, c.from-2.ensures)

pub reduce-requires-clause-few : goal.reduce-requires-clause-few
reduce-requires-clause-few c =
    let kind = c.args.kind.now in
    let first = predicates_read kind c.args.predicates.now c.requires.predicates c.args.x.method c.from.result c.index-predicates-from.result c.requires.known.0 c.from.ensures c.index-predicates-from.is in
    let second = predicates_read kind c.args.predicates.now c.requires.predicates c.args.y.method c.from-2.result c.index-predicates-from-2.result c.requires.known.1 c.from-2.ensures c.index-predicates-from-2.is in
    let p : length (method_predicates kind c.args.x.method) ≤ 5 = c.requires.valid.draft.pairs.few c.args.x.method in
    let q : length (method_predicates kind c.args.y.method) ≤ 5 = c.requires.valid.draft.pairs.few c.args.y.method in
    let a : length (method_predicates kind c.args.x.method) ≤ 8 = omega arith in
    let b : length (method_predicates kind c.args.y.method) ≤ 8 = omega arith in
    (subst (λ l. length l ≤ 8) (sym first) a, subst (λ l. length l ≤ 8) (sym second) b)

pub reduce-requires-clause-listed : goal.reduce-requires-clause-listed
reduce-requires-clause-listed c =
    let kind = c.args.kind.now in
    let first = predicates_read kind c.args.predicates.now c.requires.predicates c.args.x.method c.from.result c.index-predicates-from.result c.requires.known.0 c.from.ensures c.index-predicates-from.is in
    let second = predicates_read kind c.args.predicates.now c.requires.predicates c.args.y.method c.from-2.result c.index-predicates-from-2.result c.requires.known.1 c.from-2.ensures c.index-predicates-from-2.is in
    listed_here kind c.args.x.method c.args.y.method _ _ first second c.requires.valid c.if-y-x.false c.requires.known.1 _ c.formula-formula.ensures.value

pub returns : goal.returns
returns c =
    let kind = c.args.kind.now in
    let first = predicates_read kind c.args.predicates.now c.requires.predicates c.args.x.method c.from.result c.index-predicates-from.result c.requires.known.0 c.from.ensures c.index-predicates-from.is in
    let second = predicates_read kind c.args.predicates.now c.requires.predicates c.args.y.method c.from-2.result c.index-predicates-from-2.result c.requires.known.1 c.from-2.ensures c.index-predicates-from-2.is in
    one_way_is kind c.args.x.method c.args.y.method _ _ first second c.reduce.result c.args.x.bits c.args.y.bits _ c.if-y-x.false c.formula-formula.ensures.value c.reduce.ensures.value

pub returns-then-y-x : goal.returns-then-y-x
returns-then-y-x c = search (tests, rules)

pub returns-in-Some : goal.returns-in-Some
returns-in-Some c =
    one_way_found c.copied.result c.args.kind.now c.args.x.method c.args.y.method c.args.x.bits c.args.y.bits c.in-Some.reduced.now _ c.if-y-x.false (sym (ap (option_map (λ r. r.now)) c.in-Some.is) ∙ c.found.ensures)
    (c.requires.rows c.args.y.method c.args.x.method c.args.x.bits c.args.y.bits) c.copied.ensures
