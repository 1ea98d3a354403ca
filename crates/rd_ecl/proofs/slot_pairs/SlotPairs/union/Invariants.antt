use Rattle.std.proofs.Common.{◌≡◌, drop}
use Rattle.rd_ecl.specs.SlotPairs.{union_pairs}
use Rattle.rd_ecl.proofs.slot_pairs.SlotPairs.union.Given as goal

abbrev pub invariant-loop-pair : goal.invariant-loop-pair
invariant-loop-pair l = union_pairs l.initial.self-inside.held.items l.pair-items ≡ union_pairs l.self-inside.held.items (drop l.pair-index l.pair-items)
