use Rattle.std.proofs.Common.{◌≡◌, Some, length, map, option_map, sym, ap, ◌∙◌, subst, arith}
use Rattle.std.specs.Prelude.{slice_get}
use Rattle.std.specs.Map.{lookup}
use Rattle.std.specs.Map.Iter.{deref_pair}
use Rattle.std.proofs.lemmas.List.{length-map}
use Rattle.rd_points.specs.PointLists.{same_point}
use Rattle.rd_store.specs.Stores.{HasOneEach, cells_at}
use Rattle.rd_store.specs.StoreParts.{cell, cells_of, latest_in_cells}
use Rattle.rd_store.proofs.CellLemmas.{latest_is}
use Rattle.rd_store.proofs.EntryLemmas.{found_cells, one_each_at, one_each_found}
use Rattle.rd_store.proofs.IndexLemmas.{entry_found}
use Rattle.rd_store.proofs.store.Store.latest_at.Goals as goal

pub returns-clause-latest : goal.returns-clause-latest
unfolding same_point
returns-clause-latest g c = λ point at.
    let u = c.unwrap.result in
    let entry : slice_get c.self.inside.points.entries c.args.index ≡ Some (u.0.now, u.1.now) = sym c.get_index.ensures.entry ∙ ap (option_map deref_pair) c.unwrap.ensures in
    let found : lookup (same_point point) c.self.inside.points.entries ≡ Some u.1.now =
    entry_found c.self.inside.points.entries c.args.self.now c.args.index point u.0.now u.1.now c.self.view_is at entry (rw c.unwrap.ensures at c.get_index.ensures.value) in
    let is : cells_at c.args.self.now point ≡ cells_of u.1.now =
    ap (λ store. cells_at store point) (sym c.self.view_is) ∙ found_cells c.self.inside.points.entries point u.1.now found in
    latest_is c.args.clock.now c.args.self.now point (cells_of u.1.now) _ is (one_each_found c.self.inside.points.entries (same_point point) u.1.now c.self.invariant.one_each found)
    (c.latest_of.ensures.value ∙ ap (λ items. latest_in_cells c.args.clock.now (map cell items)) c.as_slice.ensures.value)

pub returns-clause-one_each : goal.returns-clause-one_each
returns-clause-one_each g c = λ point at.
    subst (λ store. HasOneEach (cells_at store point)) c.self.view_is (one_each_at c.self.inside.points.entries point c.self.invariant.one_each)

pub returns-clause-cost : goal.returns-clause-cost
unfolding same_point
returns-clause-cost g c = λ point at.
    let u = c.unwrap.result in
    let entry : slice_get c.self.inside.points.entries c.args.index ≡ Some (u.0.now, u.1.now) = sym c.get_index.ensures.entry ∙ ap (option_map deref_pair) c.unwrap.ensures in
    let found : lookup (same_point point) c.self.inside.points.entries ≡ Some u.1.now =
    entry_found c.self.inside.points.entries c.args.self.now c.args.index point u.0.now u.1.now c.self.view_is at entry (rw c.unwrap.ensures at c.get_index.ensures.value) in
    let is : cells_at c.args.self.now point ≡ cells_of u.1.now =
    ap (λ store. cells_at store point) (sym c.self.view_is) ∙ found_cells c.self.inside.points.entries point u.1.now found in
    let count : length (cells_at c.args.self.now point) ≡ length c.as_slice.result.now =
    ap length is ∙ length-map u.1.now.items cell ∙ sym (ap length c.as_slice.ensures.value) in
    rw count (omega (arith, c.latest_of.ensures.cost))
