use Rattle.std.proofs.Common.{arith, rules, tests}
use Rattle.std.proofs.lemmas.Grind.{elements}
use Rattle.rd_pairs.proofs.methods.numbers_of.Goals as goal

pub returns-in_default-number_of-clause-unknown : goal.returns-in_default-number_of-clause-unknown
returns-in_default-number_of-clause-unknown c = grind (arith, elements)

pub returns-clause-first : goal.returns-clause-first
returns-clause-first c = search (tests, rules)

pub returns-clause-second : goal.returns-clause-second
returns-clause-second c = search (tests, rules)
