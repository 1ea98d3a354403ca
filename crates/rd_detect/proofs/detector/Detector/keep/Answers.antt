use Rattle.std.proofs.Common.{◌≡◌, ℕ, ◌+◌, ◌≤◌, false, length, sym, subst, arith}
use Rattle.std.specs.Prelude.{MatchOption}
use Rattle.rd_hb.specs.Tracker.{IsFloor}
use Rattle.rd_store.specs.Stores.{cell_count}
use Rattle.rd_store.specs.declared.Witness.{Witness}
use Rattle.rd_detect.specs.Detect.{AreTouched, Detecting, is_due, touched_points}
use Rattle.rd_detect.specs.Seats.{AreSeats}
use Rattle.rd_detect.proofs.CallLemmas.{none_due}
use Rattle.rd_detect.proofs.NewCellLemmas.{new_at_most}
use Rattle.rd_detect.proofs.detector.Detector.keep.Goals as goal

pub sweep-requires : goal.sweep-requires
sweep-requires g c =
    let seen = c.args.witness.now.value in
    let points = touched_points c.args.self.now.tables seen.call in
    let thread = c.deref.result.now.call.thread in
    let were = subst (λ (d : Detecting). AreSeats d.store seen.call.thread points c.args.seats.now) (sym c.self.view_is) c.requires in
    let are = subst (λ (w : Witness). AreSeats c.self.inside.store w.call.thread points c.args.seats.now) (sym c.deref.ensures) were in
    let touched : AreTouched c.self.inside.store c.touch_all.new.store points thread seen = c.in_ok-before.ensures.touched points are in
    let few : cell_count c.touch_all.new.store ≤ cell_count c.self.inside.store + length c.args.seats.now =
    omega (arith, touched.count, new_at_most c.self.inside.store points thread, c.requires.long) in
    none_due c.in_ok-floor.floor c.args.tracker.now.threads (cell_count c.self.inside.store) (length c.args.seats.now) (cell_count c.touch_all.new.store)
    c.self.inside.kept
    (subst (λ (d : Detecting). MatchOption c.in_ok-floor.floor ((count : ℕ) → count ≤ cell_count d.store + length c.args.seats.now → is_due count d.kept ≡ false)
    (IsFloor c.args.tracker.now.threads)) (sym c.self.view_is) c.in_ok-floor.ensures)
    few
