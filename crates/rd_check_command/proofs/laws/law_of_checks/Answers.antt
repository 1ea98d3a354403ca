use Rattle.rd_check_command.proofs.HeadlineLemmas.{checked}
use Rattle.rd_check_command.proofs.laws.law_of_checks.Goals as goal

pub returns : goal.returns
returns c = λ form kinds. checked kinds form
