use Rattle.rd_event.proofs.ReadingLemmas.{found_said, line_found, found_again, one_line}
use Rattle.rd_event.proofs.reading.law_of_spelling.Goals as goal

pub returns-clause-test : goal.returns-clause-test
returns-clause-test c = λ version bytes item range. ((λ found. (found_said version bytes item found).1), line_found version bytes item range)

pub returns-clause-range : goal.returns-clause-range
returns-clause-range c = λ version bytes item found. (found_said version bytes item found).0

pub returns-clause-one_item : goal.returns-clause-one_item
returns-clause-one_item c = one_line

pub returns-clause-again : goal.returns-clause-again
returns-clause-again c = found_again
