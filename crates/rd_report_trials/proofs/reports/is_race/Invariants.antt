use Rattle.rd_report_trials.proofs.reports.is_race.Given as goal

abbrev pub ghosts-both_calls : goal.ghosts-both_calls
ghosts-both_calls g a = record { name = a.blank.name; parts = a.blank.parts }
