use Rattle.rd_linear.proofs.WaitLemmas.{ready_law}
use Rattle.rd_linear.proofs.laws.law_of_waits.Goals as goal

pub returns : goal.returns
returns c es places waits p placed are = ready_law es places waits p placed are
