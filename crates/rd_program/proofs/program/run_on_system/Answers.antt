use Rattle.rd_program.proofs.program.run_on_system.Goals as goal

pub returns : goal.returns
returns g c = (c.run_words.ensures.ran.0, c.run_words.ensures.ran.2)
