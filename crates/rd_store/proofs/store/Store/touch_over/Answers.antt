use Rattle.std.proofs.Common.{◌≡◌, Some, sym, ap, ◌∙◌, subst}
use Rattle.std.specs.Prelude.{slice_get}
use Rattle.std.specs.Map.{values_of}
use Rattle.std.specs.Option.{option_copied_mut}
use Rattle.std.proofs.lemmas.Result.{IfOk-weaker, on_err_weaker}
use Rattle.indexmap.specs.Layout.{set_value_at}
use Rattle.rd_points.specs.PointLists.{same_point}
use Rattle.rd_store.specs.Lent.{lent_witness}
use Rattle.rd_store.specs.Stores.{IsTouched, cell_count, cells_at, place_of, point_at}
use Rattle.rd_store.specs.StoreParts.{held_entries}
use Rattle.rd_store.proofs.EntryLemmas.{both_ok, count_renewed, found_cells, kept_renewed, renewed_or_not, same_entries, touched_renewed}
use Rattle.rd_store.proofs.IndexLemmas.{found_at, point_set}
use Rattle.rd_store.proofs.store.Store.touch_over.Goals as goal

pub renew_cell-requires : goal.renew_cell-requires
unfolding same_point
renew_cell-requires g c =
    let es = c.self.inside.points.entries in
    let v = c.unwrap-cells.result.now in
    let at : slice_get (values_of es) c.args.seat.index ≡ Some v = sym c.get_index_mut.ensures.value ∙ ap option_copied_mut c.unwrap-cells.ensures in
    let f = found_at c.law_of_equal_points.ensures es c.args.self.now c.args.seat.index c.requires.0 v c.get_index_mut.ensures.unique c.self.view_is c.requires.1.at at in
    c.requires.1.place ∙ ap (λ l. place_of l c.args.seen.call.now.thread) (ap (λ store. cells_at store c.requires.0) (sym c.self.view_is) ∙ found_cells es c.requires.0 v f.found)

pub invariant_of-self : goal.invariant_of-self
invariant_of-self g c =
    let es = c.self.inside.points.entries in
    let v = c.unwrap-cells.result.now in
    let new = c.renew_cell.new.cells in
    let at : slice_get (values_of es) c.args.seat.index ≡ Some v = sym c.get_index_mut.ensures.value ∙ ap option_copied_mut c.unwrap-cells.ensures in
    kept_renewed es c.args.seat.index v new c.self.inside.count c.args.seen.call.now.thread (lent_witness c.args.seen) at c.self.invariant
    (renewed_or_not c.renew_cell.result c.renew_cell.ensures.there c.renew_cell.ensures.renewed c.renew_cell.ensures.kept c.renew_cell.ensures.err)

pub returns-clause-touched : goal.returns-clause-touched
unfolding same_point
returns-clause-touched g c =
    let es = c.self.inside.points.entries in
    let v = c.unwrap-cells.result.now in
    let new = c.renew_cell.new.cells in
    let at : slice_get (values_of es) c.args.seat.index ≡ Some v = sym c.get_index_mut.ensures.value ∙ ap option_copied_mut c.unwrap-cells.ensures in
    IfOk-weaker c.renew_cell.result _ _
    (λ _ both done point seat.
    let f = found_at c.law_of_equal_points.ensures es c.args.self.now c.args.seat.index point v c.get_index_mut.ensures.unique c.self.view_is seat.at at in
    subst (λ store. IsTouched store (held_entries (set_value_at es c.args.seat.index new)) point c.args.seen.call.now.thread (lent_witness c.args.seen)) c.self.view_is
    (touched_renewed c.law_of_equal_points.ensures es c.args.seat.index point v new f c.args.seen.call.now.thread (lent_witness c.args.seen) (both done).0 (both done).1 c.renew_cell.ensures.room))
    (both_ok _ _ c.renew_cell.result c.renew_cell.ensures.there c.renew_cell.ensures.renewed)

pub returns-clause-kept : goal.returns-clause-kept
returns-clause-kept g c =
    let es = c.self.inside.points.entries in
    let v = c.unwrap-cells.result.now in
    let new = c.renew_cell.new.cells in
    let at : slice_get (values_of es) c.args.seat.index ≡ Some v = sym c.get_index_mut.ensures.value ∙ ap option_copied_mut c.unwrap-cells.ensures in
    IfOk-weaker c.renew_cell.result _ _ (λ _ is no. same_entries v new (is no) c.renew_cell.ensures.room es c.args.seat.index at ∙ c.self.view_is) c.renew_cell.ensures.kept

pub returns-clause-err : goal.returns-clause-err
returns-clause-err g c =
    let es = c.self.inside.points.entries in
    let v = c.unwrap-cells.result.now in
    let new = c.renew_cell.new.cells in
    let at : slice_get (values_of es) c.args.seat.index ≡ Some v = sym c.get_index_mut.ensures.value ∙ ap option_copied_mut c.unwrap-cells.ensures in
    on_err_weaker c.renew_cell.result (λ is. same_entries v new is c.renew_cell.ensures.room es c.args.seat.index at ∙ c.self.view_is) c.renew_cell.ensures.err

pub returns-clause-count : goal.returns-clause-count
returns-clause-count g c =
    let es = c.self.inside.points.entries in
    let v = c.unwrap-cells.result.now in
    let new = c.renew_cell.new.cells in
    let at : slice_get (values_of es) c.args.seat.index ≡ Some v = sym c.get_index_mut.ensures.value ∙ ap option_copied_mut c.unwrap-cells.ensures in
    count_renewed es c.args.seat.index v new c.args.seen.call.now.thread (lent_witness c.args.seen) at
    (renewed_or_not c.renew_cell.result c.renew_cell.ensures.there c.renew_cell.ensures.renewed c.renew_cell.ensures.kept c.renew_cell.ensures.err)
    ∙ ap cell_count c.self.view_is

pub returns-clause-points : goal.returns-clause-points
returns-clause-points g c = λ index.
    point_set c.self.inside.points.entries c.args.seat.index c.renew_cell.new.cells index ∙ ap (λ store. point_at store index) c.self.view_is
