use Rattle.std.proofs.Common.{◌≡◌, Some, sym, ap, ◌∙◌, subst}
use Rattle.std.specs.Prelude.{slice_get}
use Rattle.std.specs.Map.{values_of}
use Rattle.std.specs.Option.{option_copied_mut}
use Rattle.std.proofs.lemmas.Result.{IfOk-weaker}
use Rattle.indexmap.specs.Layout.{set_value_at}
use Rattle.rd_points.specs.PointLists.{same_point}
use Rattle.rd_store.specs.Stores.{IsSameStore, cells_at, place_of, point_at}
use Rattle.rd_store.specs.StoreParts.{held_entries}
use Rattle.rd_store.proofs.EntryLemmas.{found_cells, kept_set, room_set, same_set}
use Rattle.rd_store.proofs.IndexLemmas.{found_at, point_set}
use Rattle.rd_store.proofs.store.Store.reserve_at.Goals as goal

pub invariant_of-self : goal.invariant_of-self
invariant_of-self c =
    let es = c.self.inside.points.entries in
    let at : slice_get (values_of es) c.args.index ≡ Some c.unwrap.result.now = sym c.get_index_mut.ensures.value ∙ ap option_copied_mut c.unwrap.ensures in
    kept_set c.unwrap.result.now c.reserve_cell.new.cells c.reserve_cell.ensures.same c.reserve_cell.ensures.more es c.args.index c.self.inside.count at c.self.invariant

pub returns-clause-place : goal.returns-clause-place
unfolding same_point
returns-clause-place c =
    let es = c.self.inside.points.entries in
    let at : slice_get (values_of es) c.args.index ≡ Some c.unwrap.result.now = sym c.get_index_mut.ensures.value ∙ ap option_copied_mut c.unwrap.ensures in
    IfOk-weaker c.reserve_cell.result _ _
    (λ place is point there.
    let f = found_at c.law_of_equal_points.ensures es c.args.self.now c.args.index point c.unwrap.result.now c.get_index_mut.ensures.unique c.self.view_is there at in
    is ∙ ap (λ l. place_of l c.args.thread) (sym (found_cells es point c.unwrap.result.now f.found) ∙ ap (λ store. cells_at store point) c.self.view_is)) c.reserve_cell.ensures.place

pub returns-clause-room : goal.returns-clause-room
unfolding same_point
returns-clause-room c =
    let es = c.self.inside.points.entries in
    let at : slice_get (values_of es) c.args.index ≡ Some c.unwrap.result.now = sym c.get_index_mut.ensures.value ∙ ap option_copied_mut c.unwrap.ensures in
    IfOk-weaker c.reserve_cell.result _ _
    (λ _ room point is.
    room_set es point c.args.index c.args.thread c.unwrap.result.now c.reserve_cell.new.cells
    (found_at c.law_of_equal_points.ensures es c.args.self.now c.args.index point c.unwrap.result.now c.get_index_mut.ensures.unique c.self.view_is is at) room)
    c.reserve_cell.ensures.room

pub returns-clause-stay : goal.returns-clause-stay
returns-clause-stay c = λ other.
    point_set c.self.inside.points.entries c.args.index c.reserve_cell.new.cells other ∙ ap (λ store. point_at store other) c.self.view_is

pub returns-clause-same : goal.returns-clause-same
returns-clause-same c =
    let es = c.self.inside.points.entries in
    let at : slice_get (values_of es) c.args.index ≡ Some c.unwrap.result.now = sym c.get_index_mut.ensures.value ∙ ap option_copied_mut c.unwrap.ensures in
    subst (λ store. IsSameStore store (held_entries (set_value_at es c.args.index c.reserve_cell.new.cells))) c.self.view_is
    (same_set c.unwrap.result.now c.reserve_cell.new.cells c.reserve_cell.ensures.same c.reserve_cell.ensures.more es c.args.index at)
