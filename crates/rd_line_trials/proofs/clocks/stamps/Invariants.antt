use Rattle.rd_line_trials.proofs.clocks.stamps.Given as goal

abbrev pub ghosts-stamps_of_events : goal.ghosts-stamps_of_events
ghosts-stamps_of_events g a = record { name = a.blank.name; parts = a.blank.parts }
