use Rattle.std.proofs.Common.{arith}
use Rattle.rd_lines.proofs.WordLemmas.{is_variable, no_variable, variable_named}
use Rattle.rd_lines.proofs.words.variable.Goals as goal

pub returns-then-not-is_variable-clause-none : goal.returns-then-not-is_variable-clause-none
returns-then-not-is_variable-clause-none c = grind (arith, variable_named, is_variable, no_variable)

pub unreachable-requires : goal.unreachable-requires
unreachable-requires c = grind (arith, variable_named, is_variable, no_variable)

pub returns-clause-variable : goal.returns-clause-variable
returns-clause-variable c = grind (arith, variable_named, is_variable, no_variable)
