use Rattle.std.proofs.Common.{arith}
use Rattle.std.proofs.lemmas.Grind.{elements}
use Rattle.rd_ecl.proofs.specifications.Spec.append.Goals as goal

pub invariant_of-left : goal.invariant_of-left
invariant_of-left c = grind (arith, elements)
