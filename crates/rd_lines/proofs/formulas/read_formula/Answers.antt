use Rattle.std.proofs.Common.{List, subst, sym}
use Rattle.rd_grammar.specs.declared.marks.Mark.{Mark}
use Rattle.rd_tokens.specs.Words.{AreMarks}
use Rattle.rd_lines.proofs.FormulaLemmas.{words_say, words_refused, count_bound}
use Rattle.rd_lines.proofs.formulas.read_formula.Goals as goal

pub returns-clause-ok : goal.returns-clause-ok
returns-clause-ok c =
    words_say c.args.dialect c.args.line.now c.args.tokens.now c.items.result.now c.parse_formula.result
    (subst (λ (marks : List Mark). AreMarks c.args.dialect c.args.line.now c.args.tokens.now marks) (sym c.items.ensures) c.in_ok-marks.ensures)
    c.parse_formula.ensures.ok

pub returns-clause-refused : goal.returns-clause-refused
returns-clause-refused c =
    words_refused c.args.dialect c.args.line.now c.args.tokens.now c.items.result.now c.parse_formula.result
    (subst (λ (marks : List Mark). AreMarks c.args.dialect c.args.line.now c.args.tokens.now marks) (sym c.items.ensures) c.in_ok-marks.ensures)
    c.parse_formula.ensures.syntax

pub returns-clause-bound : goal.returns-clause-bound
returns-clause-bound c =
    count_bound c.args.dialect c.args.line.now c.args.tokens.now c.parse_formula.result c.requires.few (returns-clause-refused c)
