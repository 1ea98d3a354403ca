use Rattle.std.proofs.Common.{◌-◌}
use Rattle.rd_ranks.proofs.RankLemmas.{IsDown}
use Rattle.rd_ranks.proofs.ranks.find.Given as goal

abbrev pub invariant-loop-node : goal.invariant-loop-node
invariant-loop-node l = IsDown l.given l.counts l.position l.node l.left

abbrev pub decreases-loop-node : goal.decreases-loop-node
decreases-loop-node l = l.leaves - l.node
