use Rattle.rd_linear.specs.Lanes.{AreLanesBelow}
use Rattle.rd_linear.proofs.lanes.lanes_of.Given as goal

abbrev pub invariant-loop-place : goal.invariant-loop-place
invariant-loop-place l = AreLanesBelow l.events l.place l.threads l.lanes.items
