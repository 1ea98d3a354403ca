use Rattle.rd_ecl.proofs.VariableLemmas.{among_decides, different_decides, variable_decides}
use Rattle.rd_ecl.proofs.kinds.law_of_variables.Goals as goal

pub returns : goal.returns
returns c = record { variable = variable_decides; among = among_decides; different = different_decides }
