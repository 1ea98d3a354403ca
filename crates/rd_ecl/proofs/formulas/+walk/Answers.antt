use Rattle.std.proofs.Common.{arith}
use Rattle.std.proofs.lemmas.Grind.{common_steps}
use Rattle.rd_ecl.proofs.FragmentLemmas.{first_of_two, first_or}
use Rattle.rd_ecl.proofs.formulas.+walk.Goals as goal

pub overflow_add-result : goal.overflow_add-result
overflow_add-result t c = grind (arith, common_steps)

pub offender-requires : goal.offender-requires
offender-requires t c = grind (arith, common_steps)

pub overflow_add-result-in-And : goal.overflow_add-result-in-And
overflow_add-result-in-And t c = grind (arith, common_steps)

pub offender-requires-in-Or : goal.offender-requires-in-Or
offender-requires-in-Or t c = grind (arith, common_steps)

pub overflow_add-result-in-Or : goal.overflow_add-result-in-Or
overflow_add-result-in-Or t c = grind (arith, common_steps)

pub returns-in-Not-clause-next : goal.returns-in-Not-clause-next
returns-in-Not-clause-next t c = grind (arith, common_steps)

pub returns-in-Not-clause-first : goal.returns-in-Not-clause-first
returns-in-Not-clause-first t c = grind (arith, first_of_two, first_or)

pub returns-after-left-clause-next : goal.returns-after-left-clause-next
returns-after-left-clause-next t c = grind (arith, common_steps)

pub returns-after-left-clause-first : goal.returns-after-left-clause-first
returns-after-left-clause-first t c = grind (arith, first_of_two, first_or)

pub returns-then-left-2-clause-next : goal.returns-then-left-2-clause-next
returns-then-left-2-clause-next t c = grind (arith, common_steps)

pub returns-then-left-2-clause-first : goal.returns-then-left-2-clause-first
returns-then-left-2-clause-first t c = grind (arith, first_of_two, first_or)

pub returns-else-left-2-clause-next : goal.returns-else-left-2-clause-next
returns-else-left-2-clause-next t c = grind (arith, common_steps)

pub returns-else-left-2-clause-first : goal.returns-else-left-2-clause-first
returns-else-left-2-clause-first t c = grind (arith, first_of_two, first_or)
