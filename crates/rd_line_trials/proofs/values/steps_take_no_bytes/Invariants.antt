use Rattle.rd_line_trials.proofs.values.steps_take_no_bytes.Given as goal

abbrev pub ghosts-ticked : goal.ghosts-ticked
ghosts-ticked g a = record { name = a.blank.name; parts = a.blank.parts }
