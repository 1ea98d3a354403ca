use Rattle.rd_ecl.specs.Specified.{names_of}
use Rattle.rd_tokens.specs.Tokens.{LiesIn}
use Rattle.rd_lines.proofs.CommuteLemmas.{commute_alone, first_unnamed, first_alone, second_unnamed, second_out_of_order, second_last, no_when}
use Rattle.rd_lines.proofs.WordLemmas.{no_words, first_word, second_too, rest_too}
use Rattle.rd_lines.proofs.pairs.read_pair.Goals as goal

pub returns-in_default-clause-refused : goal.returns-in_default-clause-refused
returns-in_default-clause-refused c = λ version stage in_kind.
    commute_alone version stage in_kind (names_of c.args.methods.now) _ (no_words c.args.line.now c.args.tokens.now c.in_default.ensures.cases)

pub returns-in_default-token_name-clause-refused : goal.returns-in_default-token_name-clause-refused
returns-in_default-token_name-clause-refused c = λ version stage in_kind.
    first_unnamed version stage in_kind (names_of c.args.methods.now) _ _ _
    (first_word c.args.line.now c.args.tokens.now c.in-Some.behind.now c.in-Some.second.now c.in-Some.ensures.cases.0) c.in_default-token_name.ensures.none

pub returns-in_default-split_first-clause-refused :
    goal.returns-in_default-split_first-clause-refused
returns-in_default-split_first-clause-refused c = λ version stage in_kind.
    first_alone version stage in_kind (names_of c.args.methods.now) _ _ _ c.in-Some-token_name.one
    (first_word c.args.line.now c.args.tokens.now c.in-Some.behind.now c.in-Some.second.now c.in-Some.ensures.cases.0)
    c.in-Some-token_name.ensures.some c.in-Some-token_name.ensures.named (no_words c.args.line.now c.in-Some.behind.now c.in_default-split_first.ensures.cases)

pub token_name-requires-2 : goal.token_name-requires-2
token_name-requires-2 c = second_too (LiesIn c.args.line.now) _ _ _ _ _ c.requires c.in-Some.ensures.cases.0 c.in-Some-split_first.ensures.cases.0

pub returns-in_default-token_name-2-clause-refused : goal.returns-in_default-token_name-2-clause-refused
returns-in_default-token_name-2-clause-refused c = λ version stage in_kind.
    second_unnamed version stage in_kind (names_of c.args.methods.now) _ _ _ _ _ c.in-Some-token_name.one
    (first_word c.args.line.now c.args.tokens.now c.in-Some.behind.now c.in-Some.second.now c.in-Some.ensures.cases.0)
    c.in-Some-token_name.ensures.some c.in-Some-token_name.ensures.named
    (first_word c.args.line.now c.in-Some.behind.now c.in-Some-split_first.rest.now c.in-Some-split_first.third.now c.in-Some-split_first.ensures.cases.0)
    c.in_default-token_name-2.ensures.none

pub returns-then-is_out_of_order-clause-refused : goal.returns-then-is_out_of_order-clause-refused
returns-then-is_out_of_order-clause-refused c = λ version stage in_kind.
    second_out_of_order version stage in_kind (names_of c.args.methods.now) _ _ _ _ _ c.in-Some-token_name.one c.in-Some-token_name-2.other
    (first_word c.args.line.now c.args.tokens.now c.in-Some.behind.now c.in-Some.second.now c.in-Some.ensures.cases.0)
    c.in-Some-token_name.ensures.some c.in-Some-token_name.ensures.named
    (first_word c.args.line.now c.in-Some.behind.now c.in-Some-split_first.rest.now c.in-Some-split_first.third.now c.in-Some-split_first.ensures.cases.0)
    c.in-Some-token_name-2.ensures.some (c.is_out_of_order.ensures.0 c.if-is_out_of_order.true)

pub returns-in_default-split_first-2-clause-refused :
    goal.returns-in_default-split_first-2-clause-refused
returns-in_default-split_first-2-clause-refused c = λ version stage in_kind.
    second_last version stage in_kind (names_of c.args.methods.now) _ _ _ _ _ c.in-Some-token_name.one c.in-Some-token_name-2.other
    (first_word c.args.line.now c.args.tokens.now c.in-Some.behind.now c.in-Some.second.now c.in-Some.ensures.cases.0)
    c.in-Some-token_name.ensures.some c.in-Some-token_name.ensures.named
    (first_word c.args.line.now c.in-Some.behind.now c.in-Some-split_first.rest.now c.in-Some-split_first.third.now c.in-Some-split_first.ensures.cases.0)
    c.in-Some-token_name-2.ensures.some c.in-Some-token_name-2.ensures.named (λ out. let yes = c.is_out_of_order.ensures.1 out in cc)
    (no_words c.args.line.now c.in-Some-split_first.rest.now c.in_default-split_first-2.ensures.cases)

pub token_is-requires : goal.token_is-requires
token_is-requires c =
    second_too (LiesIn c.args.line.now) _ _ _ _ _ (rest_too (LiesIn c.args.line.now) _ _ _ c.requires c.in-Some.ensures.cases.0)
    c.in-Some-split_first.ensures.cases.0 c.in-Some-split_first-2.ensures.cases.0

pub returns-then-not-token_is-clause-refused : goal.returns-then-not-token_is-clause-refused
returns-then-not-token_is-clause-refused c = λ version stage in_kind.
    no_when version stage in_kind (names_of c.args.methods.now) _ _ _ _ _ _ _ c.in-Some-token_name.one c.in-Some-token_name-2.other
    (first_word c.args.line.now c.args.tokens.now c.in-Some.behind.now c.in-Some.second.now c.in-Some.ensures.cases.0)
    c.in-Some-token_name.ensures.some c.in-Some-token_name.ensures.named
    (first_word c.args.line.now c.in-Some.behind.now c.in-Some-split_first.rest.now c.in-Some-split_first.third.now c.in-Some-split_first.ensures.cases.0)
    c.in-Some-token_name-2.ensures.some c.in-Some-token_name-2.ensures.named (λ out. let yes = c.is_out_of_order.ensures.1 out in cc)
    (first_word c.args.line.now c.in-Some-split_first.rest.now c.in-Some-split_first-2.formula.now c.in-Some-split_first-2.fourth.now c.in-Some-split_first-2.ensures.cases.0)
    (λ same. let yes = c.token_is.ensures.1 same in cc)

pub returns-clause-within : goal.returns-clause-within
returns-clause-within c =
    rest_too (LiesIn c.args.line.now) _ _ _
    (rest_too (LiesIn c.args.line.now) _ _ _ (rest_too (LiesIn c.args.line.now) _ _ _ c.requires c.in-Some.ensures.cases.0) c.in-Some-split_first.ensures.cases.0)
    c.in-Some-split_first-2.ensures.cases.0
