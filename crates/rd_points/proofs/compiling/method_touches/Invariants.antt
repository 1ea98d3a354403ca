use Rattle.std.proofs.Common.{◌≡◌, ◌≤◌, ◌+◌, ◌*◌, map}
use Rattle.std.specs.List.{range_with_len}
use Rattle.rd_points.specs.Blocks.{touches_from}
use Rattle.rd_points.proofs.compiling.method_touches.Given as goal

abbrev pub invariant-loop-bits : goal.invariant-loop-bits
invariant-loop-bits l = record {
  rows : map (λ row. row.items) l.rows.items ≡ map (λ bits. touches_from (l.first + bits * (l.slots + 1)) l.slots) (range_with_len 0 l.bits);
  next : l.next ≡ l.first + l.bits * (l.slots + 1);
  bound : l.next ≤ l.first + 8 * l.bits;
}
