use Rattle.rd_gen_laws.proofs.TurnLemmas.{lines_end}
use Rattle.rd_gen_laws.proofs.laws.law_of_generated_lines.Goals as goal

pub returns : goal.returns
returns c = lines_end
