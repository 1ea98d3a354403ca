-- What is written of a race whose kind and methods are those of its calls is the text of the race of these calls.
use Rattle.std.proofs.Common.{◌≡◌, ℕ, List, ◌++◌, ap, ◌∙◌}
use Rattle.rd_ecl.specs.Specified.{SpecifiedKind, kind_at}
use Rattle.rd_json.specs.Formulas.{FormulasOf, formula_in}
use Rattle.rd_json.specs.declared.forms.Form.TheVariants.{Text}
use Rattle.rd_report.proofs.FailedLemmas.{failed_lines}
use Rattle.rd_report.specs.Races.{IsFailedRace, earlier_line, later_line, race_lines, race_text, told_by}
use Rattle.rd_report.specs.Texts.{Naming}
use Rattle.rd_store.specs.declared.Race.{Race}

module _ (kinds : List SpecifiedKind) (names : Naming) (race : Race) (failed : IsFailedRace kinds names race) (formulas : FormulasOf)
    (kept : formulas ≡ record { form = Text; kinds = kinds }) where
  pub lines_told : (later earlier formula : List ℕ) → later ≡ later_line kinds names (told_by race.later.value)
      → earlier ≡ earlier_line kinds names (told_by race.earlier.value)
      → formula ≡ formula_in formulas.form (kind_at formulas.kinds race.kind) race.first race.second
      → later ++ earlier ++ formula ≡ race_text kinds names (told_by race.later.value) (told_by race.earlier.value)
  unfolding race_lines
  lines_told later earlier formula first second third =
      let line = third ∙ ap (λ f. formula_in f.form (kind_at f.kinds race.kind) race.first race.second) kept in
      (λ i. first i ++ second i ++ line i) ∙ failed_lines kinds names race failed
