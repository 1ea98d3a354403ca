use Rattle.std.proofs.Common.{◌≡◌, ◌+◌, drop}
use Rattle.rd_event.specs.declared.slots.Place.TheVariants.{Quoted}
use Rattle.rd_event.specs.ReadingSlots.{value_length}
use Rattle.rd_event.proofs.slots.plain_length.Given as goal

abbrev pub invariant-loop-index : goal.invariant-loop-index
invariant-loop-index l = value_length Quoted l.bytes ≡ l.index + value_length Quoted (drop l.index l.bytes)
