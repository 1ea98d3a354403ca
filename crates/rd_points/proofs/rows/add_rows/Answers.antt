use Rattle.std.proofs.Common.{◌≡◌, map, ap, ◌∙◌}
use Rattle.rd_points.specs.Blocks.{columns_at, row_from}
use Rattle.rd_points.specs.Classes.{slot_at}
use Rattle.rd_points.proofs.BlockLemmas.{row_pushed}
use Rattle.rd_points.proofs.rows.add_rows.Goals as goal

pub loop-i-preserved : goal.loop-i-preserved
loop-i-preserved c =
    let columns = columns_at (map (λ row. row.items) c.args.grid.now) c.args.blocks.now c.args.at in
    let made : c.in_ok-row_of.field-0.items ≡ row_from 0 (slot_at c.loop-i.i) columns = c.in_ok-row_of.ensures ∙ ap (λ s. row_from 0 s columns) c.slot_at.ensures in
    row_pushed (λ row. row.items) (λ i. row_from 0 (slot_at i) columns) _ c.loop-i.rows.items c.push.new.self.items c.in_ok-row_of.field-0 c.loop-i.i c.in_ok-push.ensures.items made c.loop-i.invariant
