use Rattle.std.proofs.Common.{◌≤◌, ◌<◌, length, map, arith, sym, subst, ap, ◌∙◌, All}
use Rattle.std.specs.Prelude.{flat_map}
use Rattle.std.proofs.lemmas.List.{take_all}
use Rattle.rd_points.specs.Blocks.{IsSquare, block_classes, columns_at, conflict_row}
use Rattle.rd_points.proofs.BlockLemmas.{blocks_few, blocks_known, blocks_small, flat_blocks, rows_more}
use Rattle.rd_points.proofs.GridLemmas.{columns_are, square}
use Rattle.rd_points.proofs.rows.rows_of.Goals as goal

pub grid_of-requires-clause-all_known : goal.grid_of-requires-clause-all_known
grid_of-requires-clause-all_known c =
    let kind = c.args.kind.now in
    subst (All (λ block. block.method < length kind.methods)) (sym c.requires.blocks) (blocks_known kind)

pub add_rows-requires-clause-small : goal.add_rows-requires-clause-small
add_rows-requires-clause-small c = subst (All (λ block. block.slots ≤ 7)) (sym c.requires.blocks) (blocks_small c.args.kind.now c.methods-methods.ensures.valid)

pub add_rows-requires-clause-few : goal.add_rows-requires-clause-few
add_rows-requires-clause-few c = omega (arith, blocks_few c.args.kind.now c.methods-methods.ensures.valid, ap length c.requires.blocks)

pub add_rows-requires-clause-square : goal.add_rows-requires-clause-square
add_rows-requires-clause-square c =
    let are = ap (map (λ row. row.items)) c.as_slice.ensures.value ∙ c.in_ok-grid.ensures in
    subst (IsSquare (length c.args.blocks.now)) (sym are) (square c.args.kind.now c.args.blocks.now)

pub loop-at-preserved : goal.loop-at-preserved
loop-at-preserved c =
    let kind = c.args.kind.now in
    let blocks = c.args.blocks.now in
    let are = ap (map (λ row. row.items)) c.as_slice.ensures.value ∙ c.in_ok-grid.ensures in
    let made = ap (λ grid. columns_at grid blocks c.loop-at.at) are ∙ columns_are kind blocks c.loop-at.at c.loop-at-test.true in
    rows_more kind blocks c.loop-at.at _ _ _ _ c.loop-at-test.true c.requires.blocks made c.loop-at.invariant c.in_ok-add_rows.ensures

pub returns : goal.returns
returns c =
    let kind = c.args.kind.now in
    let all = take_all c.loop-at.at c.args.blocks.now c.loop-at-test.false in
    c.loop-at.invariant ∙ ap (λ l. map (conflict_row kind) (flat_map block_classes l)) (all ∙ c.requires.blocks) ∙ ap (map (conflict_row kind)) (flat_blocks kind)
