use Rattle.std.proofs.Common.{◌≡◌, ◌++◌, ◌-◌, length, option_map}
use Rattle.rd_event.specs.ReadingSlots.{slots_read}
use Rattle.rd_event.proofs.slots.push_slots.Given as goal

abbrev pub invariant-loop-rest : goal.invariant-loop-rest
invariant-loop-rest l = slots_read 7 l.bytes ≡ option_map (λ more. l.values ++ more) (slots_read (7 - length l.values) l.rest)

abbrev pub decreases-loop-rest : goal.decreases-loop-rest
decreases-loop-rest l = 7 - length l.values
