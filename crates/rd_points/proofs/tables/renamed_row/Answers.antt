use Rattle.std.proofs.Common.{arith}
use Rattle.std.proofs.lemmas.Grind.{common_steps}
use Rattle.std.proofs.lemmas.List.Elements.{filter_map-append}
use Rattle.rd_points.proofs.tables.renamed_row.Goals as goal

pub loop-touch-preserved : goal.loop-touch-preserved
loop-touch-preserved c = grind (arith, common_steps, filter_map-append)
