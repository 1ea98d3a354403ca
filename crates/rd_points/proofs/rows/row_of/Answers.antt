use Rattle.std.proofs.Common.{◌+◌, ◌≤◌, ◌++◌, map, drop, arith, refl, ap, ◌∙◌}
use Rattle.rd_points.specs.Blocks.{columns_at, row_from, slots_in}
use Rattle.rd_points.proofs.GridLemmas.{row_more, row_whole}
use Rattle.rd_points.proofs.rows.row_of.Goals as goal

pub formula_at-forward-requires : goal.formula_at-forward-requires
formula_at-forward-requires c = c.requires.square c.args.at c.loop-other.other c.requires.at c.loop-other-test.true

pub formula_at-backward-requires : goal.formula_at-backward-requires
formula_at-backward-requires c = c.requires.square c.loop-other.other c.args.at c.loop-other-test.true c.requires.at

pub loop-other-preserved : goal.loop-other-preserved
loop-other-preserved c =
    let grid = map (λ row. row.items) c.args.grid.now in
    let blocks = c.args.blocks.now in
    let other = c.loop-other.other in
    let next = c.loop-other.next in
    let rest = drop (other + 1) (columns_at grid blocks c.args.at) in
    let small : slots_in blocks other ≤ 7 = c.requires.small other _ c.loop-other-test.true in
    let more = row_more grid blocks c.args.at c.args.slot next other c.loop-other.row.items c.add_numbers.new.row.items (row_from 0 c.args.slot (columns_at grid blocks c.args.at))
    c.formula_at-forward.result.now c.formula_at-backward.result.now (slots_in blocks other) c.loop-other-test.true c.formula_at-forward.ensures c.formula_at-backward.ensures refl c.in_ok-add_numbers.ensures
    c.loop-other.invariant.rest in
    record {
      rest = ap (λ k. c.add_numbers.new.row.items ++ row_from (next + (k + 1)) c.args.slot rest) c.from.ensures ∙ more;
      bound = omega (arith, small, c.from.ensures);
    }

pub returns : goal.returns
returns c = row_whole (map (λ row. row.items) c.args.grid.now) c.args.blocks.now c.args.at c.args.slot c.loop-other.next c.loop-other.other c.loop-other.row.items c.loop-other-test.false c.loop-other.invariant.rest
