use Rattle.rd_lines.proofs.KindLemmas.{refused_alone, refused_name, refused_longer}
use Rattle.rd_lines.proofs.WordLemmas.{no_words, first_word, some_word}
use Rattle.rd_lines.proofs.kinds.read_kind.Goals as goal

pub returns-in_default-clause-refused : goal.returns-in_default-clause-refused
returns-in_default-clause-refused c = λ version. refused_alone version _ (no_words c.args.line.now c.args.tokens.now c.in_default.ensures.cases)

pub returns-in_default-token_name-clause-refused : goal.returns-in_default-token_name-clause-refused
returns-in_default-token_name-clause-refused c = λ version.
    refused_name version _ _ _ (first_word c.args.line.now c.args.tokens.now c.in-Some.rest.now c.in-Some.second.now c.in-Some.ensures.cases.0) c.in_default-token_name.ensures.none

pub returns-then-not-is_empty-clause-refused : goal.returns-then-not-is_empty-clause-refused
returns-then-not-is_empty-clause-refused c = λ version.
    let more = some_word c.args.line.now c.in-Some.rest.now (cc) in
    refused_longer version _ _ more.rest _ more.first c.in-Some-token_name.name
    (first_word c.args.line.now c.args.tokens.now c.in-Some.rest.now c.in-Some.second.now c.in-Some.ensures.cases.0)
    c.in-Some-token_name.ensures.some c.in-Some-token_name.ensures.named more.written
