use Rattle.std.proofs.Common.{◌≡◌, true, ℕ, List, ◌∙◌, ap}
use Rattle.std.proofs.lemmas.Result.{on_ok_weaker}
use Rattle.rd_reading.specs.Adding.{adds_form}
use Rattle.rd_pairs.specs.Causes.{place_at}
use Rattle.rd_reading.specs.Known.{open_method_names, stage_of}
use Rattle.rd_lines.specs.declared.forms.Stage.{Stage}
use Rattle.rd_lines.specs.Lines.{HasFewWords, IsWrongBehind, RightLine, SaidForm, said_of, words_of}
use Rattle.rd_reading.proofs.LineLemmas.{form_none, form_refused, many_tokens, short_words, stands_at, wrong_line}
use Rattle.rd_reading.proofs.judging.judged_lines.read_behind_header.Goals.{In-Ok}
use Rattle.rd_reading.proofs.judging.judged_lines.read_behind_header.Goals as goal

right : (c : In-Ok) → RightLine c.args.version (stage_of c.args.known.now) (open_method_names c.args.known.now) (words_of c.args.line.now c.args.tokens.now) (said_of c.in-Ok.form)
right c =
    stands_at c.args.known.now c.stage.result c.methods.result.now
    (λ (stage : Stage) (methods : List (List ℕ)) (form : SaidForm). RightLine c.args.version stage methods (words_of c.args.line.now c.args.tokens.now) form)
    (said_of c.in-Ok.form) c.stage.ensures c.methods.ensures c.in-Ok.ensures.ok

short : (c : In-Ok) → HasFewWords c.args.version (words_of c.args.line.now c.args.tokens.now)
short c =
    short_words c.args.version (words_of c.args.line.now c.args.tokens.now)
    (λ many. let yes : c.has_many_tokens.result ≡ true = c.has_many_tokens.ensures.1 many in cc)

pub returns-then-has_many_tokens-clause-refused : goal.returns-then-has_many_tokens-clause-refused
returns-then-has_many_tokens-clause-refused c =
    many_tokens c.args.taken.now c.args.version c.args.known.now c.args.line.now c.args.tokens.now c.requires.begun c.place_at.result c.place_at.ensures
    (c.has_many_tokens.ensures.0 c.if-has_many_tokens.true)

pub returns-in-Ok-clause-clean : goal.returns-in-Ok-clause-clean
returns-in-Ok-clause-clean c =
    let at = (goal.at.returns-in-Ok-clause-clean c).In-Ok in
    on_ok_weaker c.add_form.result
    (form_none c.args.taken.now c.args.version c.args.known.now c.args.line.now c.args.tokens.now c.requires.begun (short at) (said_of c.in-Ok.form) (right at))
    c.add_form.ensures.clean

pub returns-in-Ok-clause-adds : goal.returns-in-Ok-clause-adds
returns-in-Ok-clause-adds c =
    let at = (goal.at.returns-in-Ok-clause-adds c).In-Ok in
    on_ok_weaker c.add_form.result (adds_form c.args.version c.requires.begun (said_of c.in-Ok.form) (right at)) c.add_form.ensures.adds

pub returns-in-Ok-clause-refused : goal.returns-in-Ok-clause-refused
returns-in-Ok-clause-refused c =
    let at = (goal.at.returns-in-Ok-clause-refused c).In-Ok in
    form_refused c.args.taken.now c.args.version c.args.known.now c.args.line.now c.args.tokens.now c.requires.begun (short at) (said_of c.in-Ok.form) (right at)
    c.add_form.result c.add_form.ensures.refused

pub returns-in-Err-Syntax-clause-refused : goal.returns-in-Err-Syntax-clause-refused
returns-in-Err-Syntax-clause-refused c =
    wrong_line c.args.taken.now c.args.version c.args.known.now c.args.line.now c.args.tokens.now c.requires.begun
    (short_words c.args.version (words_of c.args.line.now c.args.tokens.now)
    (λ many. let yes : c.has_many_tokens.result ≡ true = c.has_many_tokens.ensures.1 many in cc))
    c.in-Err-Syntax.count c.place_at-in-Err-Syntax.result
    (stands_at c.args.known.now c.stage.result c.methods.result.now
    (λ (stage : Stage) (methods : List (List ℕ)) (count : ℕ). IsWrongBehind (RightLine c.args.version stage methods) (words_of c.args.line.now c.args.tokens.now) count)
    c.in-Err-Syntax.count c.stage.ensures c.methods.ensures (rw c.in-Err-Syntax.field-0-is at c.in-Err-Syntax.ensures.refused))
    (c.place_at-in-Err-Syntax.ensures ∙ ap (place_at c.args.line.now c.args.tokens.now) c.in-Err-Syntax.count-is)
