use Rattle.std.proofs.Common.{◌≡◌, map, take}
use Rattle.rd_points.specs.Tables.{is_plain_class}
use Rattle.rd_classes.proofs.merging.plain.Given as goal

abbrev pub invariant-loop-leader : goal.invariant-loop-leader
invariant-loop-leader l = l.plain.items ≡ map (λ k. is_plain_class l.table k.class) (take l.leader-index l.least)
