use Rattle.rd_points.proofs.GridLemmas.{in_rows}
use Rattle.rd_points.proofs.columns.formula_at.Goals as goal

pub bounds-grid-x : goal.bounds-grid-x
bounds-grid-x c = in_rows (λ row. row.items) c.args.grid.now c.args.x c.args.y c.requires
