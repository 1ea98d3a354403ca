use Rattle.std.proofs.Common.{arith}
use Rattle.std.proofs.lemmas.Grind.{common_steps}
use Rattle.rd_grammar.proofs.reader.ended.Goals as goal

pub returns : goal.returns
returns c = grind (arith, common_steps)
