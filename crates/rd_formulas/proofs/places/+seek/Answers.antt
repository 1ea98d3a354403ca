use Rattle.std.proofs.Common.{arith, rules, tests}
use Rattle.std.proofs.lemmas.Grind.{common_steps, elements}
use Rattle.rd_formulas.proofs.places.+seek.Goals as goal

pub returns-in-Not-formula-clause-past : goal.returns-in-Not-formula-clause-past
returns-in-Not-formula-clause-past t c = search (tests, rules)

pub returns-in-Ok-clause-found : goal.returns-in-Ok-clause-found
returns-in-Ok-clause-found t c = grind (arith, elements)

pub returns-in-Err-clause-found : goal.returns-in-Err-clause-found
returns-in-Err-clause-found t c = grind (arith, elements)

pub returns-in-Ok-seek-clause-found : goal.returns-in-Ok-seek-clause-found
returns-in-Ok-seek-clause-found t c = grind (arith, elements)

pub returns-in-Ok-seek-2-clause-found : goal.returns-in-Ok-seek-2-clause-found
returns-in-Ok-seek-2-clause-found t c = grind (arith, elements)

pub returns-in-Err-seek-2-clause-found : goal.returns-in-Err-seek-2-clause-found
returns-in-Err-seek-2-clause-found t c = grind (arith, elements)

pub returns-in-Ok-seek-3-clause-found : goal.returns-in-Ok-seek-3-clause-found
returns-in-Ok-seek-3-clause-found t c = grind (arith, elements)

pub returns-in-Ok-seek-4-clause-found : goal.returns-in-Ok-seek-4-clause-found
returns-in-Ok-seek-4-clause-found t c = grind (arith, elements)

pub returns-in-Err-seek-4-clause-found : goal.returns-in-Err-seek-4-clause-found
returns-in-Err-seek-4-clause-found t c = grind (arith, elements)

pub returns-in-Err-clause-past : goal.returns-in-Err-clause-past
returns-in-Err-clause-past t c = grind (arith, common_steps)

pub returns-in-Err-seek-2-clause-past : goal.returns-in-Err-seek-2-clause-past
returns-in-Err-seek-2-clause-past t c = grind (arith, common_steps)

pub returns-in-Err-seek-4-clause-past : goal.returns-in-Err-seek-4-clause-past
returns-in-Err-seek-4-clause-past t c = grind (arith, common_steps)
