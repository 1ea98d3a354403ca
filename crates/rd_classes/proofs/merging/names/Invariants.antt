use Rattle.std.proofs.Common.{◌≡◌, map}
use Rattle.std.specs.List.{range_with_len}
use Rattle.rd_classes.specs.Leaders.{AreLeaders}
use Rattle.rd_classes.specs.Merged.{merged_class}
use Rattle.rd_classes.proofs.merging.names.Given as goal

abbrev pub invariant-loop-class : goal.invariant-loop-class
invariant-loop-class l =
    (l.names.items ≡ map (merged_class l.table) (range_with_len 0 l.class)) × AreLeaders l.table l.leaders.items l.class
