use Rattle.std.proofs.Common.{◌≡◌, ◌++◌}
use Rattle.std.specs.List.{range_with_len}
use Rattle.rd_points.specs.Blocks.{meets}
use Rattle.rd_points.specs.Classes.{slot_at}
use Rattle.rd_points.specs.Compiled.{numbers_from}
use Rattle.rd_points.proofs.rows.add_each.Given as goal

abbrev pub invariant-loop-i : goal.invariant-loop-i
invariant-loop-i l = l.row.items
    ≡ l.initial.row.items ++ numbers_from l.first (λ i. meets (record { forward = l.forward; backward = l.backward; slots = l.slots }) l.slot (slot_at i)) (range_with_len 0 l.i)
