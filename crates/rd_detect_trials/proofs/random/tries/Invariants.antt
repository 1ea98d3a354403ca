use Rattle.rd_detect_trials.proofs.random.tries.Given as goal

abbrev pub ghosts-are_agreed : goal.ghosts-are_agreed
ghosts-are_agreed g a = record { name = a.blank.name; parts = a.blank.parts }
