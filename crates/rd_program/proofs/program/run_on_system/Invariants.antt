use Rattle.rd_program.proofs.program.run_on_system.Given as goal

abbrev pub ghosts-run_words : goal.ghosts-run_words
ghosts-run_words g a = record { name = a.blank.name; parts = a.blank.parts }
