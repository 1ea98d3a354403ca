use Rattle.std.proofs.Common.{◌≡◌, ◌++◌, map}
use Rattle.std.specs.Prelude.{is_none}
use Rattle.std.specs.List.{range_with_len}
use Rattle.rd_points.specs.Classes.{slot_at}
use Rattle.rd_points.proofs.compiling.add_plain.Given as goal

abbrev pub invariant-loop-i : goal.invariant-loop-i
invariant-loop-i l = l.plain.items ≡ l.initial.plain.items ++ map (λ i. is_none (slot_at i)) (range_with_len 0 l.i)
