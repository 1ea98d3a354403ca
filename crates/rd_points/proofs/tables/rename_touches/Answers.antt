use Rattle.std.proofs.Common.{arith}
use Rattle.rd_points.proofs.RowLemmas.{mapped_more}
use Rattle.rd_points.proofs.tables.rename_touches.Goals as goal

pub loop-at-preserved : goal.loop-at-preserved
loop-at-preserved c = mapped_more _ _ _ _ c.loop-at.at c.index_mut.result.now _ c.loop-at.invariant (omega arith) (cc)
