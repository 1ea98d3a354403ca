use Rattle.rd_event.proofs.slots.+are_slots.Given as goal

abbrev pub decreases-are_slots : goal.decreases-are_slots
decreases-are_slots l = l.room
