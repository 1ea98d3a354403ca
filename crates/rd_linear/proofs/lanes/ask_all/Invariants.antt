use Rattle.rd_linear.proofs.AskingLemmas.{AreAskedBelow}
use Rattle.rd_linear.proofs.lanes.ask_all.Given as goal

abbrev pub invariant-loop-at : goal.invariant-loop-at
invariant-loop-at l = AreAskedBelow l.waits l.seen l.lanes l.ranks l.at
