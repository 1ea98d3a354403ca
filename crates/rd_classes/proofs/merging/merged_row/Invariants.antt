use Rattle.std.proofs.Common.{◌≡◌, ◌==◌, map, take}
use Rattle.std.specs.List.{list_any}
use Rattle.rd_points.specs.Compiled.{numbers_from}
use Rattle.rd_points.specs.Tables.{class_count, conflicts_at}
use Rattle.rd_classes.specs.Leaders.{AreClassMarks}
use Rattle.rd_classes.proofs.merging.merged_row.Given as goal

abbrev pub invariant-loop-number : goal.invariant-loop-number
invariant-loop-number l =
    (l.row.items ≡ numbers_from 0 (λ k. list_any (λ c. c == k) (conflicts_at l.table l.class)) (take l.number (map (λ l. l.class) l.least)))
    × AreClassMarks (conflicts_at l.table l.class) (class_count l.table) l.marks.items
