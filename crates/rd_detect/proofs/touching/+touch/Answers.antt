use Rattle.std.proofs.Common.{◌-◌, take, ap, subst, ◌∙◌, arith}
use Rattle.rd_store.specs.Stores.{IsTouched}
use Rattle.rd_detect.specs.Detect.{AreTouched}
use Rattle.rd_detect.proofs.LookLemmas.{done_more, seat_of}
use Rattle.rd_detect.proofs.TouchingLemmas.{before_last, touched_more}
use Rattle.rd_detect.proofs.touching.+touch.Goals as goal

pub touch_at-own-requires : goal.touch_at-own-requires
touch_at-own-requires g t c =
    let are = c.in_ok-before.ensures.stay c.requires.seats.0 c.requires.seats.1 in
    let seat = seat_of c.touch.new.store c.args.thread c.requires.seats.0 c.args.seats.now (c.args.count - 1) _ are (omega (arith, c.if-count-eq0.false, c.requires.count)) in
    (seat.0, seat.2)

pub returns-clause-touched : goal.returns-clause-touched
returns-clause-touched g t c = λ points were.
    let are = c.in_ok-before.ensures.stay points were in
    let seat = seat_of c.touch.new.store c.args.thread points c.args.seats.now (c.args.count - 1) _ are (omega (arith, c.if-count-eq0.false, c.requires.count)) in
    subst (λ done. AreTouched c.args.store.now c.touch_at-own.new.self done c.args.thread c.args.witness.now.value)
    (done_more points (c.args.count - 1) seat.0 seat.1 ∙ ap (λ n. take n points) (before_last c.args.count c.if-count-eq0.false))
    (touched_more c.law_of_equal_points.ensures c.args.store.now c.touch.new.store c.touch_at-own.new.self seat.0 c.args.thread c.args.witness.now.value
    (subst (IsTouched c.touch.new.store c.touch_at-own.new.self seat.0 c.args.thread) c.in_ok-held.ensures.cases (c.touch_at-own.ensures.touched seat.0 seat.2))
    (take (c.args.count - 1) points) (c.in_ok-before.ensures.touched points were))

pub returns-clause-stay : goal.returns-clause-stay
returns-clause-stay g t c = λ points were.
    let are = c.in_ok-before.ensures.stay points were in
    record { long = are.long; each = λ i point at. let one = are.each i point at in (one.0, one.1, c.touch_at-own.ensures.seats point one.0 one.2) }
