use Rattle.std.proofs.Common.{◌+◌, ◌*◌, ◌/◌, ◌<◌, length, arith, rules}
use Rattle.rd_ranks.proofs.RankLemmas.{above_first, above_next, above_fits, above_inside, above_pair_inside, leaf_count}
use Rattle.rd_ranks.proofs.ranks.count_above.Goals as goal

pub loop-node-init : goal.loop-node-init
loop-node-init c =
    above_first c.args.given.now c.args.counts.now c.args.at c.from.result c.requires.tree c.requires.inside
    (leaf_count _ c.is_some.result c.from.result c.is_some.ensures c.from.ensures)

pub bounds-counts-node-in-loop-node : goal.bounds-counts-node-in-loop-node
bounds-counts-node-in-loop-node c = omega (arith, above_inside _ _ _ c.loop-node.invariant)

pub bounds-counts-node-in-loop-node-2 : goal.bounds-counts-node-in-loop-node-2
bounds-counts-node-in-loop-node-2 c = above_pair_inside _ _ _ c.loop-node.invariant (omega arith)

pub bounds-counts-node-in-loop-node-3 : goal.bounds-counts-node-in-loop-node-3
bounds-counts-node-in-loop-node-3 c = omega (arith, above_inside _ _ _ c.loop-node.invariant)

pub offset_bounds-counts-node-in-loop-node : goal.offset_bounds-counts-node-in-loop-node
offset_bounds-counts-node-in-loop-node c =
    let inside : 2 * (c.loop-node.node / 2) < length c.loop-node.counts = omega (arith, above_inside _ _ _ c.loop-node.invariant) in
    search rules

pub offset_bounds-counts-node-in-loop-node-2 : goal.offset_bounds-counts-node-in-loop-node-2
offset_bounds-counts-node-in-loop-node-2 c =
    let inside : 2 * (c.loop-node.node / 2) + 1 < length c.loop-node.counts = above_pair_inside _ _ _ c.loop-node.invariant (omega arith) in
    search rules

pub offset_bounds-counts-node-in-loop-node-3 : goal.offset_bounds-counts-node-in-loop-node-3
offset_bounds-counts-node-in-loop-node-3 c =
    let inside : c.loop-node.node / 2 < length c.loop-node.counts = omega (arith, above_inside _ _ _ c.loop-node.invariant) in
    search rules

pub overflow_add-counts-in-loop-node : goal.overflow_add-counts-in-loop-node
overflow_add-counts-in-loop-node c = let fits = above_fits _ _ _ c.loop-node.invariant (omega arith) in omega arith

pub loop-node-preserved : goal.loop-node-preserved
loop-node-preserved c = above_next _ _ _ c.loop-node.invariant (omega arith)
