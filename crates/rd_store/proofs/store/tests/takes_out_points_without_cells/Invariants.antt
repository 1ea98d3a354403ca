use Rattle.rd_store.proofs.store.tests.takes_out_points_without_cells.Given as goal

abbrev pub ghosts-points_without_cells : goal.ghosts-points_without_cells
ghosts-points_without_cells g a = record { name = a.blank.name; parts = a.blank.parts }
