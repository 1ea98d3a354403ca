use Rattle.rd_linear.proofs.LinkLemmas.{IsLinking}
use Rattle.rd_linear.proofs.links.link_event.Given as goal

abbrev pub invariant-loop-at : goal.invariant-loop-at
invariant-loop-at l = IsLinking l.events l.threads l.waits l.thread l.initial.at l.at l.initial.links l.links
