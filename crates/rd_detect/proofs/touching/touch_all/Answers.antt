use Rattle.std.proofs.Common.{[], sym, subst, arith}
use Rattle.std.proofs.lemmas.Grind.{common_steps}
use Rattle.rd_store.specs.Stores.{IsTouched}
use Rattle.rd_detect.specs.Detect.{AreTouched}
use Rattle.rd_detect.proofs.LookLemmas.{seat_of}
use Rattle.rd_detect.proofs.OverLemmas.{only_one, untouched}
use Rattle.rd_detect.proofs.TouchingLemmas.{touched_more}
use Rattle.rd_detect.proofs.touching.touch_all.Goals as goal

pub touch_at-requires : goal.touch_at-requires
touch_at-requires g c =
    let seat = seat_of c.args.store.now c.args.thread c.requires.0 c.args.seats.now 0 _ c.requires.1 (omega (arith, c.in-len1.len_at_least)) in
    (seat.0, seat.2)

pub returns-in-len1-clause-touched : goal.returns-in-len1-clause-touched
returns-in-len1-clause-touched g c = λ points are.
    let seat = seat_of c.args.store.now c.args.thread points c.args.seats.now 0 _ are (omega (arith, c.in-len1.len_at_least)) in
    let only = only_one points seat.0 (omega (arith, are.long, c.in-len1.len_at_least, c.in-len1.len_below)) seat.1 in
    subst (λ list. AreTouched c.args.store.now c.touch_at.new.self list c.args.thread c.args.witness.now.value) (sym only)
    (touched_more c.law_of_equal_points.ensures c.args.store.now c.args.store.now c.touch_at.new.self seat.0 c.args.thread c.args.witness.now.value
    (subst (IsTouched c.args.store.now c.touch_at.new.self seat.0 c.args.thread) c.in_ok-held.ensures.cases (c.touch_at.ensures.touched seat.0 seat.2))
    [] (untouched c.args.store.now c.args.thread c.args.witness.now.value))

pub returns-clause-touched : goal.returns-clause-touched
returns-clause-touched g c = grind (arith, common_steps)
