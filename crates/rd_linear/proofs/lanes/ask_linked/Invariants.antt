use Rattle.rd_linear.specs.Links.{AreAskedBut}
use Rattle.rd_linear.proofs.AskingLemmas.{HasNumber}
use Rattle.rd_linear.proofs.lanes.ask_linked.Given as goal

abbrev pub invariant-loop-number : goal.invariant-loop-number
invariant-loop-number l = HasNumber l.links.items.items l.place l.number × AreAskedBut l.waits l.seen l.lanes l.ranks l.links.items.items l.place l.number

abbrev pub decreases-loop-number : goal.decreases-loop-number
decreases-loop-number l = l.number
