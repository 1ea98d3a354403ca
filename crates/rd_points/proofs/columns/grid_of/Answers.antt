use Rattle.std.proofs.Common.{map, ap, sym, subst}
use Rattle.rd_points.specs.Blocks.{one_way}
use Rattle.rd_points.specs.Parts.{AreRows}
use Rattle.rd_points.proofs.GridLemmas.{seen_more}
use Rattle.rd_points.proofs.columns.grid_of.Goals as goal

pub formulas_of-requires-clause-known : goal.formulas_of-requires-clause-known
formulas_of-requires-clause-known c = c.requires.all_known c.loop-x.x-index _ c.loop-x-test.true

pub formulas_of-requires-clause-rows : goal.formulas_of-requires-clause-rows
formulas_of-requires-clause-rows c = subst (AreRows c.args.kind.now) (sym (ap (map (λ row. row.items)) c.as_slice-rows.ensures.value)) c.in_ok-parts.ensures

pub loop-x-preserved : goal.loop-x-preserved
loop-x-preserved c =
    seen_more (λ row. row.items) (λ x. map (one_way c.args.kind.now x) c.args.blocks.now) c.args.blocks.now c.loop-x.x-index _ c.loop-x.grid.items c.push.new.self.items c.in_ok-formulas_of.field-0
    c.loop-x-test.true c.in_ok-push.ensures.items c.in_ok-formulas_of.ensures c.loop-x.invariant
