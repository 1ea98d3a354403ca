use Rattle.rd_store.proofs.store.tests.writes_over_what_nothing_else_has.Given as goal

abbrev pub ghosts-calls_in_the_same_memory : goal.ghosts-calls_in_the_same_memory
ghosts-calls_in_the_same_memory g a = record { name = a.blank.name; parts = a.blank.parts }
