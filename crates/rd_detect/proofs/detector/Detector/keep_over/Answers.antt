use Rattle.std.proofs.Common.{ap, sym, subst, ◌∙◌, arith}
use Rattle.std.proofs.lemmas.Result.{IfOk-weaker}
use Rattle.rd_store.specs.Lent.{lent_witness}
use Rattle.rd_detect.specs.Detect.{Detecting, IsCallKept, is_due, touched_points}
use Rattle.rd_detect.specs.Seats.{AreSeats}
use Rattle.rd_detect.proofs.LookLemmas.{seat_of}
use Rattle.rd_detect.proofs.OverLemmas.{only_one, taken_over}
use Rattle.rd_detect.proofs.detector.Detector.keep_over.Goals as goal

pub touch_over-requires : goal.touch_over-requires
touch_over-requires g c =
    let are = subst (λ (d : Detecting). AreSeats d.store c.args.seen.now.call.now.thread (touched_points c.args.self.now.tables c.args.seen.now.call.now) c.args.seats.now) (sym c.self.view_is) c.requires in
    let seat = seat_of c.self.inside.store c.args.seen.now.call.now.thread (touched_points c.args.self.now.tables c.args.seen.now.call.now) c.args.seats.now 0 _ are (omega (arith, c.in-len1.len_at_least)) in
    (seat.0, seat.2)

pub returns-clause-taken : goal.returns-clause-taken
returns-clause-taken g c =
    let points = touched_points c.args.self.now.tables c.args.seen.now.call.now in
    let are = subst (λ (d : Detecting). AreSeats d.store c.args.seen.now.call.now.thread points c.args.seats.now) (sym c.self.view_is) c.requires in
    let seat = seat_of c.self.inside.store c.args.seen.now.call.now.thread points c.args.seats.now 0 _ are (omega (arith, c.in-len1.len_at_least)) in
    let only = only_one points seat.0 (omega (arith, c.requires.long, c.in-len1.len_at_least, c.in-len1.len_below)) seat.1 in
    IfOk-weaker c.touch_over.result _ _
    (λ done touched is threads.
    subst (λ (d : Detecting). IsCallKept threads d (record { tables = c.self.inside.tables.items; store = c.touch_over.new.self; kept = c.self.inside.kept }) c.args.seen.now.call.now (lent_witness c.args.seen.now)) c.self.view_is
    (taken_over c.law_of_equal_points.ensures threads (record { tables = c.self.inside.tables.items; store = c.self.inside.store; kept = c.self.inside.kept }) c.touch_over.new.self
    c.args.seen.now.call.now (lent_witness c.args.seen.now) seat.0 (ap (λ (d : Detecting). touched_points d.tables c.args.seen.now.call.now) c.self.view_is ∙ only)
    (touched is seat.0 seat.2) c.touch_over.ensures.count (sym (c.is_due.ensures ∙ ap (λ n. is_due n c.self.inside.kept) c.cells.ensures.count) ∙ c.if-is_due.false)))
    c.touch_over.ensures.touched
