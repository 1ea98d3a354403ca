use Rattle.rd_store.proofs.store.tests.keeps_the_last_call_of_each_thread.Given as goal

abbrev pub ghosts-two_threads_at_a_point : goal.ghosts-two_threads_at_a_point
ghosts-two_threads_at_a_point g a = record { name = a.blank.name; parts = a.blank.parts }
