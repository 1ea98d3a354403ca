use Rattle.std.proofs.Common.{ℕ, ◌+◌, ◌*◌, ◌≤◌, List, ◌++◌, length, map, take}
use Rattle.std.specs.Prelude.{option_map}
use Rattle.rd_points.specs.declared.points.Point.{Point}
use Rattle.rd_store.specs.Lent.{lent_point}
use Rattle.rd_detect.specs.Covers.{CoversKept, epoch_of}
use Rattle.rd_detect.specs.Detect.{AreBelow, IsLatestOf, in_class}
use Rattle.rd_detect.specs.Seats.{other_classes}
use Rattle.rd_detect.proofs.asking.ask_others.Given as goal

abbrev pub invariant-loop-class : goal.invariant-loop-class
invariant-loop-class g l =
    ((points : List Point) → IsLatestOf l.store points l.stamp.clock.now (option_map (λ held. held.value) l.fn.found)
    → IsLatestOf l.store (points ++ map (in_class (lent_point l.sought.point)) (other_classes l.sought.point.class (take l.class-index l.classes))) l.stamp.clock.now (option_map (λ held. held.value) l.found))
    × CoversKept l.store l.stamp.clock.now (epoch_of l.stamp) l.fn.covers l.covers
    × ((threads : ℕ) → AreBelow threads l.store → l.steps ≤ l.fn.steps + length (other_classes l.sought.point.class (take l.class-index l.classes)) * (threads + 1))
