use Rattle.rd_lines.proofs.LawLemmas.{one_form, right_line, one_wrong}
use Rattle.rd_lines.proofs.laws.law_of_lines.Goals as goal

pub returns-clause-one : goal.returns-clause-one
returns-clause-one c = one_form

pub returns-clause-right : goal.returns-clause-right
returns-clause-right c = right_line

pub returns-clause-place : goal.returns-clause-place
returns-clause-place c = one_wrong
