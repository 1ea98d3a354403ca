use Rattle.std.proofs.Common.{ap, ◌∙◌}
use Rattle.rd_base.specs.ReadingValues.{value_of}
use Rattle.rd_base.proofs.ValueLemmas.{value_found, found_said, one_value}
use Rattle.rd_base.proofs.spelling.law_of_values.Goals as goal

pub returns-clause-one_spelling : goal.returns-clause-one_spelling
returns-clause-one_spelling c = one_value

pub returns-clause-test : goal.returns-clause-test
returns-clause-test c = λ bytes value range.
    ((λ found. (found_said bytes value found).1), (λ is. ap value_of is ∙ value_found value range))

pub returns-clause-range : goal.returns-clause-range
returns-clause-range c = λ bytes value found. (found_said bytes value found).0
