use Rattle.std.proofs.Common.{◌≡◌, ◌∙◌, List, ap, get_or, subst}
use Rattle.std.proofs.lemmas.List.{get_or_default}
use Rattle.rd_ecl.specs.Specified.{SpecifiedKind, kind_at, no_kind}
use Rattle.rd_report.specs.Races.{IsKnownRace, formula_line_words}
use Rattle.rd_report.specs.Texts.{Naming}
use Rattle.rd_report.specs.Writing.{ArePlain}
use Rattle.rd_store.specs.declared.Race.{Race}
use Rattle.rd_json.specs.Json.{race_words}
use Rattle.rd_json.proofs.races.formula_of.Goals as goal

words_are : (kinds : List SpecifiedKind) (naming : Naming) (race : Race) (kind : SpecifiedKind) → IsKnownRace kinds naming race
    → kind ≡ get_or kinds race.kind kind → formula_line_words kind race.first race.second ≡ race_words kinds race
words_are kinds naming race kind known is =
    let at : kind ≡ kind_at kinds race.kind = is ∙ get_or_default kinds race.kind kind no_kind known.kind in
    ap (λ k. formula_line_words k race.first race.second) at

pub returns-clause-words : goal.returns-clause-words
returns-clause-words c =
    let kind = c.index-kinds-race.result in
    c.formula_inside.ensures.words
    ∙ words_are c.args.spec.now c.requires.known.0 c.args.race.now kind c.requires.known.1
    (c.index-kinds-race.is ∙ ap (λ xs. get_or xs c.args.race.now.kind kind) c.kinds.ensures.value)

pub returns-clause-plain : goal.returns-clause-plain
returns-clause-plain c =
    let kind = c.index-kinds-race.result in
    subst ArePlain
    (words_are c.args.spec.now c.requires.known.0 c.args.race.now kind c.requires.known.1
    (c.index-kinds-race.is ∙ ap (λ xs. get_or xs c.args.race.now.kind kind) c.kinds.ensures.value))
    c.formula_inside.ensures.plain
