use Rattle.std.proofs.Common.{codes, subst}
use Rattle.rd_ecl.specs.Specified.{names_of}
use Rattle.rd_lines.specs.Lines.{plain, words_of}
use Rattle.rd_tokens.specs.declared.words.dialects.Dialect.{Dialect}
use Rattle.rd_lines.specs.Reading.{IsRefusedBehindWhen}
use Rattle.rd_lines.proofs.CommuteLemmas.{formula_refused}
use Rattle.rd_lines.proofs.LineLemmas.{commute_counted, few_behind, told_error}
use Rattle.rd_lines.proofs.pairs.read_commute.Goals as goal

pub returns-in_err-first-clause-refused : goal.returns-in_err-first-clause-refused
returns-in_err-first-clause-refused c =
    told_error _ c.from_residual.result c.in_err-first.field-0.0 c.from_residual.ensures.1
    (λ stage in_kind. c.in_err-first.ensures.refused c.args.version stage in_kind)

pub read_formula-requires-clause-few : goal.read_formula-requires-clause-few
read_formula-requires-clause-few c =
    few_behind c.args.version c.args.line.now (plain (codes "commute")) (plain c.in_ok-first.first) (plain c.in_ok-first.second)
    (words_of c.args.line.now c.args.tokens.now) c.in_ok-first.behind.now c.requires.short (commute_counted c.args.version)
    c.in_ok-first.ensures.ok.written

pub returns-in-Err-clause-refused : goal.returns-in-Err-clause-refused
returns-in-Err-clause-refused c = λ stage in_kind.
    let pair = c.in_ok-first.ensures.ok in
    rw c.behind_when.ensures (
    formula_refused c.args.version stage in_kind (names_of c.args.methods.now) c.in_ok-first.first c.in_ok-first.second pair.named_first pair.named_second pair.order
    (words_of c.args.line.now c.args.tokens.now) (words_of c.args.line.now c.in_ok-first.behind.now) c.in-Err.refused pair.written
    (subst (λ (dialect : Dialect). IsRefusedBehindWhen dialect (words_of c.args.line.now c.in_ok-first.behind.now) c.in-Err.refused) c.dialect_of.ensures c.in-Err.ensures.refused)
    )
