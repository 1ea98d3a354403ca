use Rattle.rd_epoch.proofs.epochs.tests.with_a_stamp.Given as goal

abbrev pub ghosts-rows : goal.ghosts-rows
ghosts-rows g a = record { name = a.blank.name; parts = a.blank.parts }
