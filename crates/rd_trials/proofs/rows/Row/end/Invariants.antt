use Rattle.rd_trials.proofs.rows.Row.end.Given as goal

abbrev pub ghosts-run_with : goal.ghosts-run_with
ghosts-run_with a = record { name = a.blank.name; parts = a.blank.parts }
