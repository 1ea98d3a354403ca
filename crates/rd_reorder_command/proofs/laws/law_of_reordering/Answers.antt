use Rattle.rd_reorder_command.proofs.ReportLemmas.{reordered_so}
use Rattle.rd_reorder_command.proofs.laws.law_of_reordering.Goals as goal

pub returns : goal.returns
returns c = reordered_so
