use Rattle.rd_tokens.specs.Tokens.{LiesIn}
use Rattle.rd_lines.proofs.DefineLemmas.{define_alone, owner_unnamed, owner_alone, name_unnamed, name_last, define_no_when}
use Rattle.rd_lines.proofs.WordLemmas.{no_words, first_word, second_too, rest_too}
use Rattle.rd_lines.proofs.definitions.read_names.Goals as goal

pub returns-in_default-clause-refused : goal.returns-in_default-clause-refused
returns-in_default-clause-refused c = λ version stage methods may.
    define_alone version stage may methods _ (no_words c.args.line.now c.args.tokens.now c.in_default.ensures.cases)

pub returns-in_default-token_name-clause-refused : goal.returns-in_default-token_name-clause-refused
returns-in_default-token_name-clause-refused c = λ version stage methods may.
    owner_unnamed version stage may methods _ _ _
    (first_word c.args.line.now c.args.tokens.now c.in-Some.behind.now c.in-Some.second.now c.in-Some.ensures.cases.0) c.in_default-token_name.ensures.none

pub returns-in_default-split_first-clause-refused :
    goal.returns-in_default-split_first-clause-refused
returns-in_default-split_first-clause-refused c = λ version stage methods may.
    owner_alone version stage may methods _ _ _ c.in-Some-token_name.method
    (first_word c.args.line.now c.args.tokens.now c.in-Some.behind.now c.in-Some.second.now c.in-Some.ensures.cases.0)
    c.in-Some-token_name.ensures.some c.in-Some-token_name.ensures.named (no_words c.args.line.now c.in-Some.behind.now c.in_default-split_first.ensures.cases)

pub variable_of-requires : goal.variable_of-requires
variable_of-requires c = second_too (LiesIn c.args.line.now) _ _ _ _ _ c.requires c.in-Some.ensures.cases.0 c.in-Some-split_first.ensures.cases.0

pub returns-in_default-variable_of-clause-refused : goal.returns-in_default-variable_of-clause-refused
returns-in_default-variable_of-clause-refused c = λ version stage methods may.
    name_unnamed version stage may methods _ _ _ _ _ c.in-Some-token_name.method
    (first_word c.args.line.now c.args.tokens.now c.in-Some.behind.now c.in-Some.second.now c.in-Some.ensures.cases.0)
    c.in-Some-token_name.ensures.some c.in-Some-token_name.ensures.named
    (first_word c.args.line.now c.in-Some.behind.now c.in-Some-split_first.rest.now c.in-Some-split_first.third.now c.in-Some-split_first.ensures.cases.0)
    c.in_default-variable_of.ensures.none

pub returns-in_default-split_first-2-clause-refused :
    goal.returns-in_default-split_first-2-clause-refused
returns-in_default-split_first-2-clause-refused c = λ version stage methods may.
    name_last version stage may methods _ _ _ _ _ c.in-Some-token_name.method c.in-Some-variable_of.name
    (first_word c.args.line.now c.args.tokens.now c.in-Some.behind.now c.in-Some.second.now c.in-Some.ensures.cases.0)
    c.in-Some-token_name.ensures.some c.in-Some-token_name.ensures.named
    (first_word c.args.line.now c.in-Some.behind.now c.in-Some-split_first.rest.now c.in-Some-split_first.third.now c.in-Some-split_first.ensures.cases.0)
    c.in-Some-variable_of.ensures.some c.in-Some-variable_of.ensures.variable
    (no_words c.args.line.now c.in-Some-split_first.rest.now c.in_default-split_first-2.ensures.cases)

pub token_is-requires : goal.token_is-requires
token_is-requires c =
    second_too (LiesIn c.args.line.now) _ _ _ _ _ (rest_too (LiesIn c.args.line.now) _ _ _ c.requires c.in-Some.ensures.cases.0)
    c.in-Some-split_first.ensures.cases.0 c.in-Some-split_first-2.ensures.cases.0

pub returns-then-not-token_is-clause-refused : goal.returns-then-not-token_is-clause-refused
returns-then-not-token_is-clause-refused c = λ version stage methods may.
    define_no_when version stage may methods _ _ _ _ _ _ _ c.in-Some-token_name.method c.in-Some-variable_of.name
    (first_word c.args.line.now c.args.tokens.now c.in-Some.behind.now c.in-Some.second.now c.in-Some.ensures.cases.0)
    c.in-Some-token_name.ensures.some c.in-Some-token_name.ensures.named
    (first_word c.args.line.now c.in-Some.behind.now c.in-Some-split_first.rest.now c.in-Some-split_first.third.now c.in-Some-split_first.ensures.cases.0)
    c.in-Some-variable_of.ensures.some c.in-Some-variable_of.ensures.variable
    (first_word c.args.line.now c.in-Some-split_first.rest.now c.in-Some-split_first-2.formula.now c.in-Some-split_first-2.fourth.now c.in-Some-split_first-2.ensures.cases.0)
    (λ same. let yes = c.token_is.ensures.1 same in cc)

pub returns-clause-within : goal.returns-clause-within
returns-clause-within c =
    rest_too (LiesIn c.args.line.now) _ _ _
    (rest_too (LiesIn c.args.line.now) _ _ _ (rest_too (LiesIn c.args.line.now) _ _ _ c.requires c.in-Some.ensures.cases.0) c.in-Some-split_first.ensures.cases.0)
    c.in-Some-split_first-2.ensures.cases.0
