use Rattle.std.proofs.Common.{◌≡◌, ◌+◌, length, map}
use Rattle.std.specs.List.{range_with_len}
use Rattle.rd_points.specs.Classes.{slot_at}
use Rattle.rd_points.proofs.compiling.block_touches.Given as goal

abbrev pub invariant-loop-i : goal.invariant-loop-i
invariant-loop-i l = (l.touches.items ≡ map (λ i. record { class = l.first + i; slot = slot_at i }) (range_with_len 0 l.i)) × (length l.touches.items ≡ l.i)
