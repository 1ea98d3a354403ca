use Rattle.std.proofs.Common.{[], ◌+◌, get_or, refl, subst, sym, take}
use Rattle.std.proofs.lemmas.Option.{slice_get-get_or}
use Rattle.rd_linear.specs.declared.lanes.Lane.{Lane}
use Rattle.rd_linear.specs.Lanes.{AreLanesBelow}
use Rattle.rd_linear.proofs.ThreadLemmas.{lane_pushed}
use Rattle.rd_linear.proofs.lanes.empty_lanes.Goals as goal

pub loop-at-preserved : goal.loop-at-preserved
loop-at-preserved c =
    let threads = c.args.threads.now in let at = c.loop-at.at in
    let last : Lane = record { thread = get_or threads at 0; places = c.new.result; given = 0 } in
    subst (AreLanesBelow [] 0 (take (at + 1) threads)) (sym c.in_ok-push.ensures.items)
    (lane_pushed [] threads at c.loop-at.lanes.items last c.loop-at.invariant (slice_get-get_or threads at 0 c.loop-at-test.true) c.new.ensures.items refl)
