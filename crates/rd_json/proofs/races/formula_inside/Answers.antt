use Rattle.std.proofs.Common.{◌∙◌, codes, refl}
use Rattle.rd_report.specs.Races.{formula_line_words}
use Rattle.rd_report.proofs.PlainLemmas.{formula_plain}
use Rattle.rd_json.proofs.PlainLemmas.{formula_split}
use Rattle.rd_json.proofs.races.formula_inside.Goals as goal

pub inside-requires : goal.inside-requires
inside-requires c =
    (codes "formula ", formula_line_words c.args.kind.now c.args.first c.args.second, refl, c.requires.line ∙ formula_split c.args.kind.now c.args.first c.args.second)

pub returns-clause-words : goal.returns-clause-words
returns-clause-words c =
    c.inside.ensures (codes "formula ") (formula_line_words c.args.kind.now c.args.first c.args.second) refl (c.requires.line ∙ formula_split c.args.kind.now c.args.first c.args.second)

pub returns-clause-plain : goal.returns-clause-plain
returns-clause-plain c = formula_plain c.args.kind.now c.methods-methods.ensures.valid c.args.first c.args.second c.requires.methods.0 c.requires.methods.1
