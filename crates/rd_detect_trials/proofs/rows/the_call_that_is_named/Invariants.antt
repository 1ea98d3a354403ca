use Rattle.rd_detect_trials.proofs.rows.the_call_that_is_named.Given as goal

abbrev pub ghosts-are_answered : goal.ghosts-are_answered
ghosts-are_answered g a = record { name = a.blank.name; parts = a.blank.parts }
