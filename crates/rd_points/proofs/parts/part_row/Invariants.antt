use Rattle.std.proofs.Common.{◌≡◌, length}
use Rattle.rd_points.specs.Parts.{IsRow}
use Rattle.rd_points.proofs.parts.part_row.Given as goal

abbrev pub invariant-loop-first : goal.invariant-loop-first
invariant-loop-first l = IsRow l.kind l.second l.parts.items × (length l.parts.items ≡ l.first)
