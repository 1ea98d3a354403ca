use Rattle.std.proofs.Common.{◌≡◌, length, add-one, inl, sym, ap, ◌∙◌, arith}
use Rattle.rd_store.specs.Stores.{cell_count, point_at}
use Rattle.rd_store.specs.StoreParts.{swept_at, swept_below}
use Rattle.rd_store.proofs.EntryLemmas.{length-swept_below, point_at-swept_below, swept_all, swept_more, swept_none, swept_same}
use Rattle.rd_store.proofs.store.Store.sweep.Goals as goal

pub loop-place-init : goal.loop-place-init
loop-place-init c = sym (swept_none c.args.floor.now c.args.self.now)

pub sweep_at-requires : goal.sweep_at-requires
sweep_at-requires c =
    omega (arith, c.entered-place-end.ensures.len, ap length c.loop-place.invariant, length-swept_below c.args.floor.now c.args.self.now c.loop-place.place)

pub loop-place-preserved : goal.loop-place-preserved
loop-place-preserved c =
    c.sweep_at.ensures ∙ ap (λ store. swept_at c.args.floor.now store c.loop-place.place) c.loop-place.invariant
    ∙ rw add-one (swept_more c.args.floor.now c.args.self.now c.loop-place.place (omega (arith, c.entered-place-end.ensures.len)))

pub returns-then-many-clause-swept : goal.returns-then-many-clause-swept
returns-then-many-clause-swept c =
    let all : c.loop-place.place ≡ length c.args.self.now = omega (arith, c.entered-place-end.ensures.len) in
    let is = c.loop-place.invariant ∙ ap (swept_below c.args.floor.now c.args.self.now) all in
    swept_same c.args.floor.now c.args.self.now c.loop-place.self c.drop_bare_points.new.self
    (swept_all c.args.floor.now c.args.self.now c.loop-place.self c.entered-place-end.ensures.one_each.each is) c.drop_bare_points.ensures.cells

pub returns-else-many-clause-swept : goal.returns-else-many-clause-swept
returns-else-many-clause-swept c =
    let all : c.loop-place.place ≡ length c.args.self.now = omega (arith, c.entered-place-end.ensures.len) in
    let is = c.loop-place.invariant ∙ ap (swept_below c.args.floor.now c.args.self.now) all in
    swept_all c.args.floor.now c.args.self.now c.loop-place.self c.entered-place-end.ensures.one_each.each is

pub returns-else-many-clause-few : goal.returns-else-many-clause-few
returns-else-many-clause-few c =
    let counted : c.self.inside.count ≡ cell_count c.args.self.now = c.self.invariant.counted ∙ ap cell_count c.self.view_is in
    let long : length c.loop-place.self ≡ length c.args.self.now = ap length c.loop-place.invariant ∙ length-swept_below c.args.floor.now c.args.self.now c.loop-place.place in
    inl (omega (arith, c.if-many.false, c.entered.ensures.len, counted, long))

pub returns-then-many-clause-stay : goal.returns-then-many-clause-stay
returns-then-many-clause-stay c = λ few index.
    let counted : c.self.inside.count ≡ cell_count c.args.self.now = c.self.invariant.counted ∙ ap cell_count c.self.view_is in
    absurd (omega (arith, c.if-many.true, c.entered.ensures.len, counted, few))

pub returns-else-many-clause-stay : goal.returns-else-many-clause-stay
returns-else-many-clause-stay c = λ few index.
    ap (λ store. point_at store index) c.loop-place.invariant ∙ point_at-swept_below c.args.floor.now c.args.self.now c.loop-place.place index
