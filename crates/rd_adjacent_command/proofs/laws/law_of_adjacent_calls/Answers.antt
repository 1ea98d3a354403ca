use Rattle.rd_adjacent_command.proofs.ReportLemmas.{adjacent_so}
use Rattle.rd_adjacent_command.proofs.laws.law_of_adjacent_calls.Goals as goal

pub returns : goal.returns
returns c = adjacent_so
