use Rattle.std.proofs.Common.{◌≡◌, ◌+◌, Bool, true, false, not, cond, Some, refl, sym, ap, ◌∙◌, subst, arith}
use Rattle.std.specs.Int.{from_bool}
use Rattle.std.specs.Prelude.{slice_get}
use Rattle.std.specs.Map.{values_of}
use Rattle.std.specs.Option.{option_copied_mut}
use Rattle.indexmap.specs.Layout.{set_value_at}
use Rattle.rd_points.specs.PointLists.{same_point}
use Rattle.rd_store.specs.Stores.{HasOneEach, IsSeat, IsTouched, cells_at, place_of, point_at}
use Rattle.rd_store.specs.StoreParts.{held_entries, room_of}
use Rattle.rd_store.proofs.EntryLemmas.{IsFound, fits_one_more, found_cells, kept_touched, one_each_at, room_found, seat_stays, touched}
use Rattle.rd_store.proofs.IndexLemmas.{found_at, point_set}
use Rattle.rd_store.proofs.store.Store.touch_at.Goals as goal

-- one more where none stood there
more_is : (before found none : Bool) → before ≡ found → before ≡ not none → from_bool none ≡ cond found 0 1
more_is true found true same there = absurd (cc)
more_is true found false same there = rw (← same) refl
more_is false found true same there = rw (← same) refl
more_is false found false same there = absurd (cc)

pub put-before-requires-clause-place : goal.put-before-requires-clause-place
unfolding same_point
put-before-requires-clause-place g c =
    let es = c.self.inside.points.entries in
    let at : slice_get (values_of es) c.args.seat.index ≡ Some c.unwrap.result.now = sym c.get_index_mut.ensures.value ∙ ap option_copied_mut c.unwrap.ensures in
    let f = found_at c.law_of_equal_points.ensures es c.args.self.now c.args.seat.index c.requires.0 c.unwrap.result.now c.get_index_mut.ensures.unique c.self.view_is c.requires.1.at at in
    c.requires.1.place ∙ ap (λ l. place_of l c.args.thread) (ap (λ store. cells_at store c.requires.0) (sym c.self.view_is) ∙ found_cells es c.requires.0 c.unwrap.result.now f.found)

pub put-before-requires-clause-room : goal.put-before-requires-clause-room
unfolding same_point
put-before-requires-clause-room g c =
    let es = c.self.inside.points.entries in
    let at : slice_get (values_of es) c.args.seat.index ≡ Some c.unwrap.result.now = sym c.get_index_mut.ensures.value ∙ ap option_copied_mut c.unwrap.ensures in
    let f = found_at c.law_of_equal_points.ensures es c.args.self.now c.args.seat.index c.requires.0 c.unwrap.result.now c.get_index_mut.ensures.unique c.self.view_is c.requires.1.at at in
    room_found es c.args.self.now c.requires.0 c.args.thread c.unwrap.result.now c.self.view_is f.found c.requires.1.room

pub overflow_add-self : goal.overflow_add-self
overflow_add-self g c =
    omega (
      arith,
      fits_one_more c.self.inside.points.entries c.self.inside.count c.len-entered.result (from_bool c.is_none.result) _ c.self.invariant c.len-entered.ensures.len c.len-entered.ensures.small
          (more_is _ _ c.is_none.result c.put-before.ensures.before c.is_none.ensures),
    )

pub invariant_of-self : goal.invariant_of-self
invariant_of-self g c =
    let es = c.self.inside.points.entries in
    let at : slice_get (values_of es) c.args.seat.index ≡ Some c.unwrap.result.now = sym c.get_index_mut.ensures.value ∙ ap option_copied_mut c.unwrap.ensures in
    kept_touched es c.args.seat.index c.unwrap.result.now c.put-before.new.cells c.self.inside.count c.args.thread c.args.witness.value (from_bool c.is_none.result) at c.self.invariant c.put-before.ensures.cells
    (more_is _ _ c.is_none.result c.put-before.ensures.before c.is_none.ensures)

pub returns-clause-touched : goal.returns-clause-touched
unfolding same_point
returns-clause-touched g c = λ point seat.
    let es = c.self.inside.points.entries in
    let at : slice_get (values_of es) c.args.seat.index ≡ Some c.unwrap.result.now = sym c.get_index_mut.ensures.value ∙ ap option_copied_mut c.unwrap.ensures in
    let f = found_at c.law_of_equal_points.ensures es c.args.self.now c.args.seat.index point c.unwrap.result.now c.get_index_mut.ensures.unique c.self.view_is seat.at at in
    let done = touched c.law_of_equal_points.ensures es c.args.seat.index point c.unwrap.result.now c.put-before.new.cells f c.args.thread c.args.witness.value c.put-before.ensures.cells
    (subst (λ some. room_of c.put-before.new.cells + cond some 0 1 ≡ room_of c.unwrap.result.now) c.put-before.ensures.before c.put-before.ensures.room) in
    subst (λ store. IsTouched store (held_entries (set_value_at es c.args.seat.index c.put-before.new.cells)) point c.args.thread c.args.witness.value) c.self.view_is done

pub returns-clause-one_each : goal.returns-clause-one_each
returns-clause-one_each g c = λ point.
    subst (λ store. HasOneEach (cells_at store point)) c.self.view_is (one_each_at c.self.inside.points.entries point c.self.invariant.one_each)

pub returns-clause-seats : goal.returns-clause-seats
unfolding same_point
returns-clause-seats g c = λ point other seat.
    let es = c.self.inside.points.entries in
    let at : slice_get (values_of es) c.args.seat.index ≡ Some c.unwrap.result.now = sym c.get_index_mut.ensures.value ∙ ap option_copied_mut c.unwrap.ensures in
    let f : IsFound es c.requires.0 c.args.seat.index c.unwrap.result.now =
    found_at c.law_of_equal_points.ensures es c.args.self.now c.args.seat.index c.requires.0 c.unwrap.result.now c.get_index_mut.ensures.unique c.self.view_is c.requires.1.at at in
    let done = touched c.law_of_equal_points.ensures es c.args.seat.index c.requires.0 c.unwrap.result.now c.put-before.new.cells f c.args.thread c.args.witness.value c.put-before.ensures.cells
    (subst (λ some. room_of c.put-before.new.cells + cond some 0 1 ≡ room_of c.unwrap.result.now) c.put-before.ensures.before c.put-before.ensures.room) in
    seat_stays c.law_of_equal_points.ensures es c.args.seat.index c.requires.0 c.unwrap.result.now c.put-before.new.cells f c.args.thread c.args.witness.value c.put-before.ensures.cells done point other
    (point_set es c.args.seat.index c.put-before.new.cells other.index)
    (subst (λ store. IsSeat store c.args.thread point other) (sym c.self.view_is) seat)

pub returns-clause-points : goal.returns-clause-points
returns-clause-points g c = λ index.
    point_set c.self.inside.points.entries c.args.seat.index c.put-before.new.cells index ∙ ap (λ store. point_at store index) c.self.view_is
