use Rattle.std.proofs.Common.{subst, sym, ◌∙◌}
use Rattle.rd_ecl.specs.Specified.{names_of}
use Rattle.rd_tokens.specs.Tokens.{LiesIn}
use Rattle.rd_lines.specs.Lines.{word_at, words_of}
use Rattle.rd_lines.specs.Reading.{BeginsLine}
use Rattle.rd_lines.proofs.KindLemmas.{refused_empty, refused_first}
use Rattle.rd_lines.proofs.LineLemmas.{kind_right, method_right, commute_right, define_right, default_right, kind_memory, other_memory}
use Rattle.rd_lines.proofs.LawLemmas.{kind_no_method, kind_no_commute, kind_no_define, kind_no_default}
use Rattle.rd_lines.proofs.WordLemmas.{no_words, first_word, rest_too}
use Rattle.rd_lines.proofs.spec_lines.read_form.Goals as goal

pub returns-in_default-clause-refused : goal.returns-in_default-clause-refused
returns-in_default-clause-refused c =
    refused_empty c.args.version _ (no_words c.args.line.now c.args.tokens.now c.in_default.ensures.cases) c.args.stage (names_of c.args.methods.now)

pub returns-in_default-beginning-clause-refused : goal.returns-in_default-beginning-clause-refused
returns-in_default-beginning-clause-refused c =
    refused_first c.args.version _ _ _ c.args.stage (first_word c.args.line.now c.args.tokens.now c.in-Some.rest.now c.in-Some.first.now c.in-Some.ensures.cases.0)
    c.in_default-beginning.ensures.none (names_of c.args.methods.now)

pub read_kind-requires : goal.read_kind-requires
read_kind-requires c = rest_too (LiesIn c.args.line.now) _ _ _ c.requires.within c.in-Some.ensures.cases.0

pub read_method-requires-clause-within : goal.read_method-requires-clause-within
read_method-requires-clause-within c = rest_too (LiesIn c.args.line.now) _ _ _ c.requires.within c.in-Some.ensures.cases.0

pub read_commute-requires-clause-within : goal.read_commute-requires-clause-within
read_commute-requires-clause-within c = rest_too (LiesIn c.args.line.now) _ _ _ c.requires.within c.in-Some.ensures.cases.0

pub read_define-requires-clause-within : goal.read_define-requires-clause-within
read_define-requires-clause-within c = rest_too (LiesIn c.args.line.now) _ _ _ c.requires.within c.in-Some.ensures.cases.0

pub read_default-requires : goal.read_default-requires
read_default-requires c = rest_too (LiesIn c.args.line.now) _ _ _ c.requires.within c.in-Some.ensures.cases.0

pub returns-in-Kind-clause-ok : goal.returns-in-Kind-clause-ok
returns-in-Kind-clause-ok c =
    kind_right c.args.version c.args.stage (names_of c.args.methods.now) (words_of c.args.line.now c.args.tokens.now) (words_of c.args.line.now c.in-Some.rest.now)
    (word_at c.args.line.now c.in-Some.first.now) c.read_kind.result
    (first_word c.args.line.now c.args.tokens.now c.in-Some.rest.now c.in-Some.first.now c.in-Some.ensures.cases.0)
    (subst (BeginsLine c.args.version c.args.stage (word_at c.args.line.now c.in-Some.first.now)) c.in-Kind.is c.in-Some-beginning.ensures.some) c.read_kind.ensures.ok

pub returns-in-Method-clause-ok : goal.returns-in-Method-clause-ok
returns-in-Method-clause-ok c =
    method_right c.args.version c.args.stage (names_of c.args.methods.now) (words_of c.args.line.now c.args.tokens.now) (words_of c.args.line.now c.in-Some.rest.now)
    (word_at c.args.line.now c.in-Some.first.now) c.read_method.result
    (first_word c.args.line.now c.args.tokens.now c.in-Some.rest.now c.in-Some.first.now c.in-Some.ensures.cases.0)
    (subst (BeginsLine c.args.version c.args.stage (word_at c.args.line.now c.in-Some.first.now)) c.in-Method.is c.in-Some-beginning.ensures.some) c.read_method.ensures.ok

pub returns-in-Commute-clause-ok : goal.returns-in-Commute-clause-ok
returns-in-Commute-clause-ok c =
    commute_right c.args.version c.args.stage (names_of c.args.methods.now) (words_of c.args.line.now c.args.tokens.now) (words_of c.args.line.now c.in-Some.rest.now)
    (word_at c.args.line.now c.in-Some.first.now) c.read_commute.result
    (first_word c.args.line.now c.args.tokens.now c.in-Some.rest.now c.in-Some.first.now c.in-Some.ensures.cases.0)
    (subst (BeginsLine c.args.version c.args.stage (word_at c.args.line.now c.in-Some.first.now)) c.in-Commute.is c.in-Some-beginning.ensures.some) c.read_commute.ensures.ok

pub returns-in-Define-clause-ok : goal.returns-in-Define-clause-ok
returns-in-Define-clause-ok c =
    define_right c.args.version c.args.stage (names_of c.args.methods.now) (words_of c.args.line.now c.args.tokens.now) (words_of c.args.line.now c.in-Some.rest.now)
    (word_at c.args.line.now c.in-Some.first.now) c.read_define.result
    (first_word c.args.line.now c.args.tokens.now c.in-Some.rest.now c.in-Some.first.now c.in-Some.ensures.cases.0)
    (subst (BeginsLine c.args.version c.args.stage (word_at c.args.line.now c.in-Some.first.now)) c.in-Define.is c.in-Some-beginning.ensures.some) c.read_define.ensures.ok

pub returns-in-Default-clause-ok : goal.returns-in-Default-clause-ok
returns-in-Default-clause-ok c =
    default_right c.args.version c.args.stage (names_of c.args.methods.now) (words_of c.args.line.now c.args.tokens.now) (words_of c.args.line.now c.in-Some.rest.now)
    (word_at c.args.line.now c.in-Some.first.now) c.read_default.result
    (first_word c.args.line.now c.args.tokens.now c.in-Some.rest.now c.in-Some.first.now c.in-Some.ensures.cases.0)
    (subst (BeginsLine c.args.version c.args.stage (word_at c.args.line.now c.in-Some.first.now)) c.in-Default.is c.in-Some-beginning.ensures.some) c.read_default.ensures.ok

pub returns-in-Kind-clause-memory : goal.returns-in-Kind-clause-memory
returns-in-Kind-clause-memory c = kind_memory (words_of c.args.line.now c.args.tokens.now) c.read_kind.result c.read_kind.ensures.memory

pub returns-in-Method-clause-memory : goal.returns-in-Method-clause-memory
returns-in-Method-clause-memory c =
    let begins = subst (BeginsLine c.args.version c.args.stage (word_at c.args.line.now c.in-Some.first.now)) c.in-Method.is c.in-Some-beginning.ensures.some in
    other_memory (words_of c.args.line.now c.args.tokens.now) (words_of c.args.line.now c.in-Some.rest.now) (word_at c.args.line.now c.in-Some.first.now)
    c.read_method.result (first_word c.args.line.now c.args.tokens.now c.in-Some.rest.now c.in-Some.first.now c.in-Some.ensures.cases.0)
    (λ same. kind_no_method (sym same ∙ begins.1))

pub returns-in-Commute-clause-memory : goal.returns-in-Commute-clause-memory
returns-in-Commute-clause-memory c =
    let begins = subst (BeginsLine c.args.version c.args.stage (word_at c.args.line.now c.in-Some.first.now)) c.in-Commute.is c.in-Some-beginning.ensures.some in
    other_memory (words_of c.args.line.now c.args.tokens.now) (words_of c.args.line.now c.in-Some.rest.now) (word_at c.args.line.now c.in-Some.first.now)
    c.read_commute.result (first_word c.args.line.now c.args.tokens.now c.in-Some.rest.now c.in-Some.first.now c.in-Some.ensures.cases.0)
    (λ same. kind_no_commute (sym same ∙ begins.1))

pub returns-in-Define-clause-memory : goal.returns-in-Define-clause-memory
returns-in-Define-clause-memory c =
    let begins = subst (BeginsLine c.args.version c.args.stage (word_at c.args.line.now c.in-Some.first.now)) c.in-Define.is c.in-Some-beginning.ensures.some in
    other_memory (words_of c.args.line.now c.args.tokens.now) (words_of c.args.line.now c.in-Some.rest.now) (word_at c.args.line.now c.in-Some.first.now)
    c.read_define.result (first_word c.args.line.now c.args.tokens.now c.in-Some.rest.now c.in-Some.first.now c.in-Some.ensures.cases.0)
    (λ same. kind_no_define (sym same ∙ begins.1))

pub returns-in-Default-clause-memory : goal.returns-in-Default-clause-memory
returns-in-Default-clause-memory c =
    let begins = subst (BeginsLine c.args.version c.args.stage (word_at c.args.line.now c.in-Some.first.now)) c.in-Default.is c.in-Some-beginning.ensures.some in
    other_memory (words_of c.args.line.now c.args.tokens.now) (words_of c.args.line.now c.in-Some.rest.now) (word_at c.args.line.now c.in-Some.first.now)
    c.read_default.result (first_word c.args.line.now c.args.tokens.now c.in-Some.rest.now c.in-Some.first.now c.in-Some.ensures.cases.0)
    (λ same. kind_no_default (sym same ∙ begins.1))
