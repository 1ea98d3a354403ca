use Rattle.rd_epochs_command.proofs.ReportLemmas.{epochs_report}
use Rattle.rd_memory.proofs.MemoryLemmas.{found_said_line, line_found}
use Rattle.rd_epochs_command.proofs.laws.law_of_first_races.Goals as goal

pub returns : goal.returns
returns c =
    epochs_report (λ bytes said range. (line_found bytes said range, λ found. (found_said_line bytes said found).1)) (λ bytes said found. (found_said_line bytes said found).0)
