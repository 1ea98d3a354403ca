-- What is read of a text that was printed: this project's profile.
use Rattle.std.specs.Prelude.{◌≢◌, ◌≤◌, ℕ, List, length, All, AllPairs, Contains}
use Rattle.rd_reading.specs.Known.{specified_kind_names}
use Rattle.rd_ecl.specs.Specified.{IsKind, SpecifiedKind}
use Rattle.rd_print.specs.Printed.{spec_text}
use Rattle.rd_base.specs.declared.limits.TheConstants.{MOST_KINDS, MOST_SPEC_BYTES}

-- the kinds of a specification whose text may be read, where these names of kinds are taken
pub record MayBeRead (kinds : List SpecifiedKind) (taken : List (List ℕ)) : Type 0 where
  pub each : All IsKind kinds
  pub few : length kinds ≤ MOST_KINDS
  pub different : AllPairs (λ x y. x ≢ y) (specified_kind_names kinds)
  pub free : (name : List ℕ) → Contains taken name → ¬ (Contains (specified_kind_names kinds) name)
  pub short : length (spec_text kinds) ≤ MOST_SPEC_BYTES
