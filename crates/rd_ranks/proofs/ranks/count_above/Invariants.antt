use Rattle.rd_ranks.proofs.RankLemmas.{IsAbove}
use Rattle.rd_ranks.proofs.ranks.count_above.Given as goal

abbrev pub invariant-loop-node : goal.invariant-loop-node
invariant-loop-node l = IsAbove l.given l.counts l.node

abbrev pub decreases-loop-node : goal.decreases-loop-node
decreases-loop-node l = l.node
