use Rattle.std.proofs.Common.{filter_map, slice_index_or, None}
use Rattle.rd_points.specs.Tables.{renamed_touch}
use Rattle.rd_points.proofs.RowLemmas.{Mapped}
use Rattle.rd_points.proofs.tables.rename_rows.Given as goal

abbrev pub invariant-loop-at : goal.invariant-loop-at
invariant-loop-at l = Mapped (λ row. row.items) (filter_map (renamed_touch (λ c. slice_index_or l.names c None))) l.initial.rows.items l.rows.items l.at
