use Rattle.rd_store.proofs.IndexLemmas.{point_within}
use Rattle.rd_store.proofs.store.tests.two_points_by_seat.Goals as goal

pub place_at-requires : goal.place_at-requires
place_at-requires g c =
    let seat = c.touch_at.ensures.seats _ c.expect-seat.result (rw c.expect-seat.ensures at c.enter-3.ensures.entered) in
    point_within c.touch_at.new.self c.expect-seat.result.index _ seat.at
