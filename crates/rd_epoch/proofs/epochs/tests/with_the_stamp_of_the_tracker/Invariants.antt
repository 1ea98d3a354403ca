use Rattle.rd_epoch.proofs.epochs.tests.with_the_stamp_of_the_tracker.Given as goal

abbrev pub ghosts-rows : goal.ghosts-rows
ghosts-rows g a = record { name = a.blank.name; parts = a.blank.parts }
