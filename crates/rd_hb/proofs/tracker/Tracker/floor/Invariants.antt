use Rattle.std.proofs.Common.{take}
use Rattle.rd_hb.specs.TrackerParts.{IsFloorSoFar}
use Rattle.rd_hb.proofs.tracker.Tracker.floor.Given as goal

abbrev pub invariant-loop-at : goal.invariant-loop-at
invariant-loop-at l = IsFloorSoFar (take l.at l.threads) l.floor
