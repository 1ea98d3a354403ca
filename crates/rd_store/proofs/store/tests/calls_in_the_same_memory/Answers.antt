use Rattle.rd_store.proofs.store.tests.calls_in_the_same_memory.Goals as goal

pub touch_over-requires : goal.touch_over-requires
touch_over-requires g c = (_, c.touch_at.ensures.seats _ c.expect-seat.result (rw c.expect-seat.ensures at c.enter.ensures.entered))
