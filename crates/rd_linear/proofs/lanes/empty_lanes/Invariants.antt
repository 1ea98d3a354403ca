use Rattle.std.proofs.Common.{[], take}
use Rattle.rd_linear.specs.Lanes.{AreLanesBelow}
use Rattle.rd_linear.proofs.lanes.empty_lanes.Given as goal

abbrev pub invariant-loop-at : goal.invariant-loop-at
invariant-loop-at l = AreLanesBelow [] 0 (take l.at l.threads) l.lanes.items
