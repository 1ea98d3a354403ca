use Rattle.std.proofs.Common.{◌≡◌, ◌+◌, drop}
use Rattle.rd_event.specs.declared.slots.Place.TheVariants.{Outside}
use Rattle.rd_event.specs.ReadingSlots.{value_length}
use Rattle.rd_event.proofs.slots.value_length.Given as goal

abbrev pub invariant-loop-index : goal.invariant-loop-index
invariant-loop-index l = value_length Outside l.bytes ≡ l.index + value_length Outside (drop l.index l.bytes)
