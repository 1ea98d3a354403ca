use Rattle.rd_tokens.specs.Tokens.{LiesIn}
use Rattle.rd_lines.proofs.MethodLemmas.{result_missing, no_arrow, arrow_alone, no_result, result_longer, result_is}
use Rattle.rd_lines.proofs.WordLemmas.{no_words, first_word, some_word, none_left, second_too}
use Rattle.rd_lines.proofs.methods.read_result.Goals as goal

pub returns-in_default-clause-refused : goal.returns-in_default-clause-refused
returns-in_default-clause-refused c = result_missing _ (no_words c.args.line.now c.args.tokens.now c.in_default.ensures.cases)

pub returns-then-not-token_is-clause-refused : goal.returns-then-not-token_is-clause-refused
returns-then-not-token_is-clause-refused c =
    no_arrow _ _ _ (first_word c.args.line.now c.args.tokens.now c.in-Some.behind.now c.in-Some.first.now c.in-Some.ensures.cases.0)
    (λ same. let yes = c.token_is.ensures.1 same in cc)

pub returns-in_default-split_first-clause-refused :
    goal.returns-in_default-split_first-clause-refused
returns-in_default-split_first-clause-refused c =
    arrow_alone _ _ _ (first_word c.args.line.now c.args.tokens.now c.in-Some.behind.now c.in-Some.first.now c.in-Some.ensures.cases.0)
    (c.token_is.ensures.0 c.if-not-token_is.false) (no_words c.args.line.now c.in-Some.behind.now c.in_default-split_first.ensures.cases)

pub variable_of-requires : goal.variable_of-requires
variable_of-requires c =
    second_too (LiesIn c.args.line.now) _ _ _ _ _ c.requires c.in-Some.ensures.cases.0 c.in-Some-split_first.ensures.cases.0

pub returns-in_default-variable_of-clause-refused :
    goal.returns-in_default-variable_of-clause-refused
returns-in_default-variable_of-clause-refused c =
    no_result _ _ _ _ _ (first_word c.args.line.now c.args.tokens.now c.in-Some.behind.now c.in-Some.first.now c.in-Some.ensures.cases.0)
    (c.token_is.ensures.0 c.if-not-token_is.false)
    (first_word c.args.line.now c.in-Some.behind.now c.in-Some-split_first.rest.now c.in-Some-split_first.second.now c.in-Some-split_first.ensures.cases.0)
    c.in_default-variable_of.ensures.none

pub returns-then-not-is_empty-clause-refused : goal.returns-then-not-is_empty-clause-refused
returns-then-not-is_empty-clause-refused c =
    let more = some_word c.args.line.now c.in-Some-split_first.rest.now (cc) in
    result_longer _ _ _ more.rest _ _ more.first c.in-Some-variable_of.name
    (first_word c.args.line.now c.args.tokens.now c.in-Some.behind.now c.in-Some.first.now c.in-Some.ensures.cases.0)
    (c.token_is.ensures.0 c.if-not-token_is.false)
    (first_word c.args.line.now c.in-Some.behind.now c.in-Some-split_first.rest.now c.in-Some-split_first.second.now c.in-Some-split_first.ensures.cases.0)
    c.in-Some-variable_of.ensures.some c.in-Some-variable_of.ensures.variable more.written

pub returns-clause-ok : goal.returns-clause-ok
returns-clause-ok c =
    result_is _ _ _ _ _ c.in-Some-variable_of.name
    (first_word c.args.line.now c.args.tokens.now c.in-Some.behind.now c.in-Some.first.now c.in-Some.ensures.cases.0)
    (c.token_is.ensures.0 c.if-not-token_is.false)
    (first_word c.args.line.now c.in-Some.behind.now c.in-Some-split_first.rest.now c.in-Some-split_first.second.now c.in-Some-split_first.ensures.cases.0)
    c.in-Some-variable_of.ensures.some c.in-Some-variable_of.ensures.variable
    (none_left c.args.line.now c.in-Some-split_first.rest.now (cc))
