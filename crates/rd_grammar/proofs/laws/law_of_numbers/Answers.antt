use Rattle.std.proofs.Common.{sym}
use Rattle.rd_grammar.proofs.NumberLemmas.{names_marks, in_order}
use Rattle.rd_grammar.proofs.laws.law_of_numbers.Goals as goal

pub returns : goal.returns
returns c = record { names = names_marks; order = λ ms f says. sym (in_order says) }
