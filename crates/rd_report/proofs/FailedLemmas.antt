-- A race whose kind and methods are those of its calls is a known one, and has the text of the race of these calls.
use Rattle.std.proofs.Common.{◌≡◌, ◌<◌, List, ◌++◌, length, ap, arith, subst, sym}
use Rattle.rd_ecl.specs.Specified.{SpecifiedKind, kind_at}
use Rattle.rd_store.specs.declared.Race.{Race}
use Rattle.rd_report.specs.Races.{IsFailedRace, IsKnownRace, earlier_line, formula_line, later_line, race_lines, race_text, told_by}
use Rattle.rd_report.specs.Texts.{Naming}

module _ (kinds : List SpecifiedKind) (naming : Naming) (race : Race) (failed : IsFailedRace kinds naming race) where
  pub kind_is : kind_at kinds race.kind ≡ kind_at kinds race.later.value.call.kind
  kind_is = ap (kind_at kinds) failed.kind

  earlier_within : race.earlier.value.call.method < length (kind_at kinds race.later.value.call.kind).methods
  earlier_within = subst (λ k. race.earlier.value.call.method < length (kind_at kinds k).methods) failed.one_kind failed.earlier.method

  second_within : race.second < length (kind_at kinds race.later.value.call.kind).methods
  second_within = omega (arith, failed.second, failed.later.method, earlier_within)

  pub failed_is_known : IsKnownRace kinds naming race
  failed_is_known = record {
    later = failed.later;
    earlier = failed.earlier;
    kind = subst (λ k. k < length kinds) (sym failed.kind) failed.later.kind;
    ordered = omega (arith, failed.first, failed.second);
    methods = subst (λ k. race.second < length k.methods) (sym kind_is) second_within;
  }

  -- its lines are the text of the race of its calls
  pub failed_lines : race_lines kinds naming race ≡ race_text kinds naming (told_by race.later.value) (told_by race.earlier.value)
  unfolding race_lines race_text
  failed_lines = λ i. later_line kinds naming (told_by race.later.value) ++ earlier_line kinds naming (told_by race.earlier.value)
      ++ formula_line (kind_is i) (failed.first i) (failed.second i)
