use Rattle.std.proofs.Common.{arith}
use Rattle.rd_ecl.proofs.FragmentLemmas.{few_both, few_either, few_not}
use Rattle.rd_ecl.proofs.formulas.Formula.+levels.Goals as goal

pub overflow_add-result : goal.overflow_add-result
overflow_add-result t c = grind (arith, few_not, few_both, few_either)

pub overflow_add-result-in-And : goal.overflow_add-result-in-And
overflow_add-result-in-And t c = grind (arith, few_not, few_both, few_either)

pub overflow_add-result-in-Or : goal.overflow_add-result-in-Or
overflow_add-result-in-Or t c = grind (arith, few_not, few_both, few_either)
