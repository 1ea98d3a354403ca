use Rattle.std.proofs.Common.{map, filter_map, slice_index_or, None}
use Rattle.rd_points.specs.Tables.{renamed_touch}
use Rattle.rd_points.proofs.RowLemmas.{Mapped}
use Rattle.rd_points.proofs.tables.rename_touches.Given as goal

abbrev pub invariant-loop-at : goal.invariant-loop-at
invariant-loop-at l = Mapped (λ rows. map (λ row. row.items) rows.items) (map (filter_map (renamed_touch (λ c. slice_index_or l.names c None)))) l.initial.touches.items l.touches.items l.at
