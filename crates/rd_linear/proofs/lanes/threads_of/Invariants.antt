use Rattle.std.proofs.Common.{◌≤◌, length}
use Rattle.rd_linear.specs.Lanes.{AreThreadsBelow}
use Rattle.rd_linear.proofs.lanes.threads_of.Given as goal

abbrev pub invariant-loop-place : goal.invariant-loop-place
invariant-loop-place l = AreThreadsBelow l.events l.place l.threads.items × (length l.threads.items ≤ l.place)
