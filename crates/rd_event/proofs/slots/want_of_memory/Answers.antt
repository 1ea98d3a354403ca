use Rattle.std.proofs.Common.{◌∙◌, sym}
use Rattle.rd_event.proofs.SlotLemmas.{slots_there, nothing_there}
use Rattle.rd_event.proofs.slots.want_of_memory.Goals as goal

pub returns-then-are_slots-clause-memory : goal.returns-then-are_slots-clause-memory
returns-then-are_slots-clause-memory c = λ refused. slots_there _ (sym c.are_slots.ensures ∙ c.if-are_slots.true)

pub returns-else-are_slots-clause-none : goal.returns-else-are_slots-clause-none
returns-else-are_slots-clause-none c = λ refused. nothing_there _ (sym c.are_slots.ensures ∙ c.if-are_slots.false)
