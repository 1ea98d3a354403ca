use Rattle.rd_line_trials.proofs.clocks.clocks.Given as goal

abbrev pub ghosts-clocks_of_threads : goal.ghosts-clocks_of_threads
ghosts-clocks_of_threads g a = record { name = a.blank.name; parts = a.blank.parts }
