use Rattle.rd_tokens.specs.Tokens.{LiesIn}
use Rattle.rd_lines.proofs.MethodLemmas.{method_alone, method_unnamed, method_refused}
use Rattle.rd_lines.proofs.WordLemmas.{no_words, first_word, rest_too}
use Rattle.rd_lines.proofs.methods.read_method.Goals as goal

pub returns-in_default-clause-refused : goal.returns-in_default-clause-refused
returns-in_default-clause-refused c = λ version methods. method_alone version methods _ (no_words c.args.line.now c.args.tokens.now c.in_default.ensures.cases)

pub returns-in_default-token_name-clause-refused : goal.returns-in_default-token_name-clause-refused
returns-in_default-token_name-clause-refused c = λ version methods.
    method_unnamed version methods _ _ _ (first_word c.args.line.now c.args.tokens.now c.in-Some.rest.now c.in-Some.second.now c.in-Some.ensures.cases.0)
    c.in_default-token_name.ensures.none

pub read_arguments-requires : goal.read_arguments-requires
read_arguments-requires c = rest_too (LiesIn c.args.line.now) _ _ _ c.requires.within c.in-Some.ensures.cases.0

pub returns-in-Err-clause-refused : goal.returns-in-Err-clause-refused
returns-in-Err-clause-refused c = λ version methods.
    method_refused version methods c.in-Some-token_name.name c.in_ok-arguments.arguments c.in-Some-token_name.ensures.named c.in_ok-arguments.ensures.front.each
    _ _ _ _ c.items.result.now c.in-Err.count
    (first_word c.args.line.now c.args.tokens.now c.in-Some.rest.now c.in-Some.second.now c.in-Some.ensures.cases.0)
    c.in-Some-token_name.ensures.some c.in_ok-arguments.ensures.front.written c.in_ok-arguments.ensures.front.ends c.items.ensures c.in-Err.ensures.refused
