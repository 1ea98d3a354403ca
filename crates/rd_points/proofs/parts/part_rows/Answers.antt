use Rattle.std.proofs.Common.{◌∷◌, [], length, arith, ap, length-append}
use Rattle.rd_points.proofs.PartLemmas.{rows_more}
use Rattle.rd_points.proofs.parts.part_rows.Goals as goal

pub loop-second-preserved : goal.loop-second-preserved
loop-second-preserved c =
    let n = c.loop-second.second in
    let old = c.loop-second.rows.items in
    let row = c.in_ok-part_row.field-0 in (
      rows_more (λ row. row.items) c.args.kind.now n old c.push.new.self.items row c.loop-second.invariant.1 c.in_ok-push.ensures.items c.loop-second.invariant.0 c.in_ok-part_row.ensures,
      omega (arith, ap length c.in_ok-push.ensures.items, length-append old (row ∷ []), c.loop-second.invariant.1),
    )
