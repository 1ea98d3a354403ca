use Rattle.rd_hb.proofs.FloorLemmas.{floor_first, floor_joined, floor_met}
use Rattle.rd_hb.proofs.tracker.floor.lowered.Goals as goal
use Rattle.rd_hb.specs.TrackerParts.{IsFloorSoFar}
use Rattle.std.proofs.Common.{subst}

pub returns-then-tracked : goal.returns-then-tracked
returns-then-tracked c = λ threads so. floor_joined threads c.args.tracked.now c.args.floor c.if-tracked.true so

pub returns-in_ok-copy-in-None : goal.returns-in_ok-copy-in-None
returns-in_ok-copy-in-None c = λ threads so.
    floor_first threads c.args.tracked.now c.in_ok-copy-in-None.field-0 c.if-tracked.false c.in_ok-copy-in-None.ensures.value
    (subst (IsFloorSoFar threads) c.in-None.is so)

pub returns-in-Some : goal.returns-in-Some
returns-in-Some c = λ threads so.
    floor_met threads c.args.tracked.now c.in-Some.floor c.meet.new.self c.if-tracked.false c.meet.ensures (subst (IsFloorSoFar threads) c.in-Some.is so)
