use Rattle.rd_io.proofs.FaultLemmas.{front_reading}
use Rattle.rd_io.proofs.SaidLemmas.{one_reading, said_reading}
use Rattle.rd_io.proofs.laws.law_of_lines.Goals as goal

pub returns-clause-some : goal.returns-clause-some
returns-clause-some c = said_reading

pub returns-clause-one : goal.returns-clause-one
returns-clause-one c = one_reading

pub returns-clause-front : goal.returns-clause-front
returns-clause-front c = front_reading
