use Rattle.std.proofs.Common.{◌≡◌, Some, map, refl, option_map, sym, ap, ◌∙◌}
use Rattle.std.specs.Prelude.{slice_get}
use Rattle.std.specs.Map.{lookup}
use Rattle.std.specs.Map.Iter.{deref_pair}
use Rattle.rd_points.specs.PointLists.{same_point}
use Rattle.rd_store.specs.Stores.{cells_at, place_of}
use Rattle.rd_store.specs.StoreParts.{cell, cells_of}
use Rattle.rd_store.proofs.EntryLemmas.{found_cells}
use Rattle.rd_store.proofs.IndexLemmas.{entry_found}
use Rattle.rd_store.proofs.store.Store.seat_at.Goals as goal

pub returns : goal.returns
unfolding same_point
returns c = λ point at.
    let u = c.unwrap.result in
    let entry : slice_get c.self.inside.points.entries c.args.index ≡ Some (u.0.now, u.1.now) = sym c.get_index.ensures.entry ∙ ap (option_map deref_pair) c.unwrap.ensures in
    let found : lookup (same_point point) c.self.inside.points.entries ≡ Some u.1.now =
    entry_found c.self.inside.points.entries c.args.self.now c.args.index point u.0.now u.1.now c.self.view_is at entry (rw c.unwrap.ensures at c.get_index.ensures.value) in
    let is : cells_at c.args.self.now point ≡ cells_of u.1.now =
    ap (λ store. cells_at store point) (sym c.self.view_is) ∙ found_cells c.self.inside.points.entries point u.1.now found in
    (refl, c.place_of.ensures ∙ ap (λ items. place_of (map cell items) c.args.thread) c.as_slice.ensures.value ∙ ap (λ l. place_of l c.args.thread) (sym is))
