use Rattle.rd_detect_trials.proofs.cells.cells_are_swept_at_64_and_at_twice_as_many.Given as goal

abbrev pub ghosts-of_threads : goal.ghosts-of_threads
ghosts-of_threads g a = record { name = a.blank.name; parts = a.blank.parts }
