use Rattle.rd_lines.proofs.words.token_name.Goals as goal

pub returns-in_default-clause-none : goal.returns-in_default-clause-none
returns-in_default-clause-none c = λ name is same. c.in_default.ensures.none name same
