use Rattle.std.proofs.Common.{◌≡◌, ◌+◌, drop}
use Rattle.rd_event.specs.ReadingSlots.{value_length}
use Rattle.rd_event.proofs.slots.length_from.Given as goal

abbrev pub invariant-loop-index : goal.invariant-loop-index
invariant-loop-index l = value_length l.fn.start l.bytes ≡ l.index + value_length l.place (drop l.index l.bytes)
