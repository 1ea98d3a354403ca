-- A race whose kind and methods are those of its calls has the object of the race of these calls.
use Rattle.std.proofs.Common.{◌≡◌, List, ◌++◌, codes}
use Rattle.rd_ecl.specs.Specified.{SpecifiedKind}
use Rattle.rd_report.specs.Races.{IsFailedRace, formula_line_words, told_by}
use Rattle.rd_report.specs.Texts.{Naming}
use Rattle.rd_report.proofs.FailedLemmas.{kind_is}
use Rattle.rd_store.specs.declared.Race.{Race}
use Rattle.rd_json.specs.Json.{race_json, race_object, string_json, told_json}

module _ (kinds : List SpecifiedKind) (naming : Naming) (race : Race) (failed : IsFailedRace kinds naming race) where
  pub failed_object : race_object kinds naming race ≡ race_json kinds naming (told_by race.later.value) (told_by race.earlier.value)
  unfolding race_object race_json
  failed_object = λ i. codes "{\"earlier\":" ++ told_json kinds naming (told_by race.earlier.value)
      ++ codes ",\"formula\":" ++ string_json (formula_line_words (kind_is kinds naming race failed i) (failed.first i) (failed.second i))
      ++ codes ",\"later\":" ++ told_json kinds naming (told_by race.later.value) ++ codes "}\n"
