-- The formulas that were told in a form.
use Rattle.std.specs.Prelude.{◌≡◌, ℕ, List}
use Rattle.rd_ecl.specs.Specified.{SpecifiedKind, kind_at}
use Rattle.rd_report.specs.Races.{formula_line, formula_line_words}
use Rattle.rd_json.specs.Json.{string_json}
use Rattle.rd_json.specs.declared.forms.Form.{Form}
use Rattle.rd_json.specs.declared.forms.Form.TheVariants.{Text, Json, EndingOnly}
use Rattle.rd_json.specs.declared.formulas.Kept.{Kept}

-- what a race tells of the formula of two methods of a kind: its line, or the string of the line's words
abbrev pub formula_in : Form → SpecifiedKind → ℕ → ℕ → List ℕ
formula_in Text kind first second = formula_line kind first second
formula_in Json kind first second = string_json (formula_line_words kind first second)
formula_in EndingOnly kind first second = formula_line kind first second

-- what a contract sees of those that were told: their form, and the kinds of the specification
pub record FormulasOf : Type 0 where
  pub form : Form
  pub kinds : List SpecifiedKind

-- it is the formula of its methods, in this form and by these kinds
abbrev pub IsKept : Form → List SpecifiedKind → Kept → Type 0
IsKept form kinds kept = kept.text ≡ formula_in form (kind_at kinds kept.kind) kept.first kept.second
