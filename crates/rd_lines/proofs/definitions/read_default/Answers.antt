use Rattle.rd_lines.proofs.DefaultLemmas.{default_alone, default_unnamed, default_longer, default_right}
use Rattle.rd_lines.proofs.WordLemmas.{no_words, first_word, some_word, none_left}
use Rattle.rd_lines.proofs.definitions.read_default.Goals as goal

pub returns-in_default-clause-refused : goal.returns-in_default-clause-refused
returns-in_default-clause-refused c = λ version stage methods may.
    default_alone version stage may methods _ (no_words c.args.line.now c.args.tokens.now c.in_default.ensures.cases)

pub returns-in_default-truth_value-clause-refused : goal.returns-in_default-truth_value-clause-refused
returns-in_default-truth_value-clause-refused c = λ version stage methods may.
    default_unnamed version stage may methods _ _ _
    (first_word c.args.line.now c.args.tokens.now c.in-Some.rest.now c.in-Some.second.now c.in-Some.ensures.cases.0) c.in_default-truth_value.ensures.none

pub returns-then-not-is_empty-clause-refused : goal.returns-then-not-is_empty-clause-refused
returns-then-not-is_empty-clause-refused c = λ version stage methods may.
    let more = some_word c.args.line.now c.in-Some.rest.now (cc) in
    default_longer version stage may methods _ _ more.rest _ more.first c.in-Some-truth_value.value
    (first_word c.args.line.now c.args.tokens.now c.in-Some.rest.now c.in-Some.second.now c.in-Some.ensures.cases.0)
    c.in-Some-truth_value.ensures.some more.written

pub returns-clause-ok : goal.returns-clause-ok
returns-clause-ok c = λ version stage methods may.
    default_right version stage may methods _ _ _ c.in-Some-truth_value.value
    (first_word c.args.line.now c.args.tokens.now c.in-Some.rest.now c.in-Some.second.now c.in-Some.ensures.cases.0)
    c.in-Some-truth_value.ensures.some (none_left c.args.line.now c.in-Some.rest.now (cc))
