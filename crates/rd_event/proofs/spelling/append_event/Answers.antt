use Rattle.std.proofs.Common.{arith}
use Rattle.std.proofs.lemmas.Grind.{common_steps}
use Rattle.rd_event.proofs.spelling.append_event.Goals as goal

pub returns-in_ok-append-in-Call-clause-ok : goal.returns-in_ok-append-in-Call-clause-ok
returns-in_ok-append-in-Call-clause-ok c = grind (arith, common_steps)
