use Rattle.std.proofs.Common.{ℕ, ◌<◌, get_or}
use Rattle.rd_points.specs.declared.points.Point.{Point}
use Rattle.rd_store.specs.Stores.{HasRoom, IsSameStore}
use Rattle.rd_store.proofs.store.Store.reserve.Given as goal

abbrev pub invariant-loop-point : goal.invariant-loop-point
invariant-loop-point l = record {
  room : (k : ℕ) (d : Point) → k < l.point-index → HasRoom l.self l.thread (get_or l.point-items k d);
  same : IsSameStore l.initial.self l.self;
}
