use Rattle.std.proofs.Common.{◌≡◌, map, take}
use Rattle.rd_classes.specs.Merged.{merged_conflicts}
use Rattle.rd_classes.proofs.merging.merged_rows.Given as goal

abbrev pub invariant-loop-leader : goal.invariant-loop-leader
invariant-loop-leader l = map (λ row. row.items) l.rows.items ≡ map (λ k. merged_conflicts l.table k.class) (take l.leader-index l.least)
