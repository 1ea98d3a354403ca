use Rattle.rd_check_command.proofs.FaultLemmas.{fault_front}
use Rattle.rd_check_command.proofs.laws.law_of_faults.Goals as goal

pub returns : goal.returns
returns c = fault_front
