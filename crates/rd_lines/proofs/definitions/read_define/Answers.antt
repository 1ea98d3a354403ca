use Rattle.std.proofs.Common.{codes}
use Rattle.rd_lines.specs.Lines.{plain, words_of}
use Rattle.rd_lines.proofs.DefineLemmas.{define_right, definition_refused}
use Rattle.rd_lines.proofs.LineLemmas.{define_counted, few_behind, told_error}
use Rattle.rd_lines.proofs.definitions.read_define.Goals as goal

pub returns-in_err-method-clause-refused : goal.returns-in_err-method-clause-refused
returns-in_err-method-clause-refused c =
    told_error _ c.from_residual.result c.in_err-method.field-0.0 c.from_residual.ensures.1
    (λ stage methods may. c.in_err-method.ensures.refused c.args.version stage methods may)

pub read_formula-requires-clause-few : goal.read_formula-requires-clause-few
read_formula-requires-clause-few c =
    few_behind c.args.version c.args.line.now (plain (codes "define")) (plain c.in_ok-method.method) (plain c.in_ok-method.name)
    (words_of c.args.line.now c.args.tokens.now) c.in_ok-method.behind.now c.requires.short (define_counted c.args.version c.requires.second)
    c.in_ok-method.ensures.ok.written

pub returns-in-Ok-clause-ok : goal.returns-in-Ok-clause-ok
returns-in-Ok-clause-ok c = λ stage methods may.
    let names = c.in_ok-method.ensures.ok in
    define_right c.args.version stage may methods c.in_ok-method.method c.in_ok-method.name names.named names.is_variable
    (words_of c.args.line.now c.args.tokens.now) (words_of c.args.line.now c.in_ok-method.behind.now) _ names.written c.in-Ok.ensures.ok

pub returns-in-Err-clause-refused : goal.returns-in-Err-clause-refused
returns-in-Err-clause-refused c = λ stage methods may.
    let names = c.in_ok-method.ensures.ok in
    rw c.behind_when.ensures (
    definition_refused c.args.version stage may methods c.in_ok-method.method c.in_ok-method.name names.named names.is_variable
    (words_of c.args.line.now c.args.tokens.now) (words_of c.args.line.now c.in_ok-method.behind.now) c.in-Err.refused names.written c.in-Err.ensures.refused
    )
