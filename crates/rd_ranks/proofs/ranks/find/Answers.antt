use Rattle.std.proofs.Common.{arith}
use Rattle.rd_ranks.proofs.RankLemmas.{root, down_first, down_left, down_right, found, found_inside, found_some}
use Rattle.rd_ranks.proofs.ranks.find.Goals as goal

pub returns-then-counts-position-clause-none : goal.returns-then-counts-position-clause-none
returns-then-counts-position-clause-none c = omega (arith, root _ _ c.requires)

pub loop-node-init : goal.loop-node-init
loop-node-init c = down_first _ _ _ c.requires (omega arith)

pub loop-node-preserved-then-first-left : goal.loop-node-preserved-then-first-left
loop-node-preserved-then-first-left c = down_right _ _ _ _ _ c.loop-node.invariant c.loop-node-test.true (omega arith)

pub loop-node-preserved : goal.loop-node-preserved
loop-node-preserved c = down_left _ _ _ _ _ c.loop-node.invariant c.loop-node-test.true (omega arith)

pub bounds : goal.bounds
bounds c = found_inside _ _ _ (found _ _ _ _ _ c.loop-node.invariant c.loop-node-test.false)

pub returns-in-Some-clause-some : goal.returns-in-Some-clause-some
returns-in-Some-clause-some c = found_some _ _ _ _ (found _ _ _ _ _ c.loop-node.invariant c.loop-node-test.false) c.in-Some.is
