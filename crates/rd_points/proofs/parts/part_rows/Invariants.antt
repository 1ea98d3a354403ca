use Rattle.std.proofs.Common.{◌≡◌, length, map}
use Rattle.rd_points.specs.Parts.{AreRows}
use Rattle.rd_points.proofs.parts.part_rows.Given as goal

abbrev pub invariant-loop-second : goal.invariant-loop-second
invariant-loop-second l = AreRows l.kind (map (λ row. row.items) l.rows.items) × (length l.rows.items ≡ l.second)
