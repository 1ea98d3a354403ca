use Rattle.rd_reading.proofs.MissingLemmas.{none_open}
use Rattle.rd_reading.proofs.judging.missing.missing_in.Goals as goal

pub returns-in-None-clause-none : goal.returns-in-None-clause-none
returns-in-None-clause-none c = none_open c.args.known.now.block c.in-None.is
