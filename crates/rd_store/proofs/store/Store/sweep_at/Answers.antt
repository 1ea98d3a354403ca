use Rattle.std.proofs.Common.{◌≡◌, Some, sym, ap, ◌∙◌}
use Rattle.std.specs.Prelude.{slice_get}
use Rattle.std.specs.Map.{values_of}
use Rattle.std.specs.Option.{option_copied_mut}
use Rattle.rd_store.specs.StoreParts.{swept_at}
use Rattle.rd_store.proofs.EntryLemmas.{swept-kept, swept_set}
use Rattle.rd_store.proofs.store.Store.sweep_at.Goals as goal

pub overflow_sub-self : goal.overflow_sub-self
overflow_sub-self c =
    let at : slice_get (values_of c.self.inside.points.entries) c.args.place ≡ Some c.unwrap.result.now = sym c.get_index_mut.ensures.value ∙ ap option_copied_mut c.unwrap.ensures in
    (swept-kept c.args.floor.now c.self.inside.points.entries c.args.place c.self.inside.count c.sweep_cells-gone.result c.unwrap.result.now c.sweep_cells-gone.new.cells c.sweep_cells-gone.ensures.cells
    c.sweep_cells-gone.ensures.gone at c.self.invariant).0

pub invariant_of-self : goal.invariant_of-self
invariant_of-self c =
    let at : slice_get (values_of c.self.inside.points.entries) c.args.place ≡ Some c.unwrap.result.now = sym c.get_index_mut.ensures.value ∙ ap option_copied_mut c.unwrap.ensures in
    (swept-kept c.args.floor.now c.self.inside.points.entries c.args.place c.self.inside.count c.sweep_cells-gone.result c.unwrap.result.now c.sweep_cells-gone.new.cells c.sweep_cells-gone.ensures.cells
    c.sweep_cells-gone.ensures.gone at c.self.invariant).1

pub returns : goal.returns
returns c =
    let at : slice_get (values_of c.self.inside.points.entries) c.args.place ≡ Some c.unwrap.result.now = sym c.get_index_mut.ensures.value ∙ ap option_copied_mut c.unwrap.ensures in
    swept_set c.args.floor.now c.unwrap.result.now c.sweep_cells-gone.new.cells c.sweep_cells-gone.ensures.cells c.sweep_cells-gone.result c.sweep_cells-gone.ensures.gone c.sweep_cells-gone.ensures.room
    c.self.inside.points.entries c.args.place at
    ∙ ap (λ store. swept_at c.args.floor.now store c.args.place) c.self.view_is
