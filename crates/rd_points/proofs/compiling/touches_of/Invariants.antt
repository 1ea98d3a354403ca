use Rattle.std.proofs.Common.{◌≡◌, ◌≤◌, ◌*◌, length, map}
use Rattle.std.specs.List.{range_with_len}
use Rattle.rd_points.specs.Classes.{joined, method_classes, valuations}
use Rattle.rd_points.specs.Compiled.{touches_of}
use Rattle.rd_points.proofs.compiling.touches_of.Given as goal

abbrev pub invariant-loop-method : goal.invariant-loop-method
invariant-loop-method l = record {
  rows : map (λ rows. map (λ row. row.items) rows.items) l.touches.items ≡ map (λ m. map (touches_of l.kind m) (range_with_len 0 (valuations l.kind m))) (range_with_len 0 l.method);
  next : l.next ≡ length (joined (method_classes l.kind) l.method);
  bound : l.next ≤ 256 * l.method;
}
