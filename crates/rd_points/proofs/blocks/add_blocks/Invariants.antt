use Rattle.std.proofs.Common.{◌≡◌, ◌++◌, map}
use Rattle.std.specs.List.{range_with_len}
use Rattle.rd_points.proofs.blocks.add_blocks.Given as goal

abbrev pub invariant-loop-bits : goal.invariant-loop-bits
invariant-loop-bits l = l.blocks.items ≡ l.initial.blocks.items ++ map (λ bits. record { method = l.method; bits = bits; slots = l.slots }) (range_with_len 0 l.bits)
