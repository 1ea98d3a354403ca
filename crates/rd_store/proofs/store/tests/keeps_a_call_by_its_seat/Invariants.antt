use Rattle.rd_store.proofs.store.tests.keeps_a_call_by_its_seat.Given as goal

abbrev pub ghosts-two_points_by_seat : goal.ghosts-two_points_by_seat
ghosts-two_points_by_seat g a = record { name = a.blank.name; parts = a.blank.parts }
