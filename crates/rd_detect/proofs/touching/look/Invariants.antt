use Rattle.std.proofs.Common.{◌≡◌, Some, ℕ, ◌+◌, ◌≤◌, map, take}
use Rattle.std.specs.List.{sum_by}
use Rattle.std.specs.Prelude.{flat_map, option_map}
use Rattle.rd_points.specs.declared.points.Point.{Point}
use Rattle.rd_detect.specs.Covers.{AreOwn, CoversKept, epoch_of}
use Rattle.rd_detect.specs.Detect.{AreBelow, IsLatestOf, asking_bound, conflicting_points, point_of}
use Rattle.rd_detect.specs.Seats.{AreSeats}
use Rattle.rd_store.specs.Stores.{IsSameStore, point_at}
use Rattle.rd_detect.proofs.touching.look.Given as goal

abbrev pub invariant-loop-touch : goal.invariant-loop-touch
invariant-loop-touch g l =
    IsLatestOf l.fn.store (flat_map (conflicting_points l.table) (map (point_of l.call) (take l.touch-index l.touches))) l.seen.stamp.clock.now (option_map (λ held. held.value) l.latest)
    × AreSeats l.store l.call.thread (map (point_of l.call) (take l.touch-index l.touches)) l.seats.items
    × IsSameStore l.fn.store l.store
    × ((threads : ℕ) → AreBelow threads l.fn.store
    → l.steps ≤ l.fn.steps + sum_by (asking_bound l.table threads) (map (point_of l.call) (take l.touch-index l.touches)))
    × ((index : ℕ) (point : Point) → point_at l.fn.store index ≡ Some point → point_at l.store index ≡ Some point)
    × CoversKept l.store l.seen.stamp.clock.now (epoch_of l.seen.stamp) l.fn.covers l.covers
    × AreOwn (epoch_of l.seen.stamp) l.covers l.seats.items
