use Rattle.rd_linear.specs.Links.{HaveLinksBelow}
use Rattle.rd_linear.proofs.links.links_of.Given as goal

abbrev pub invariant-loop-place : goal.invariant-loop-place
invariant-loop-place l = HaveLinksBelow l.events l.threads l.waits l.place l.links
