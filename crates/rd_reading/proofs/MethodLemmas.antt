-- The first thing that is wrong with the line of a method.
use Rattle.std.proofs.Common.{◌≡◌, ◌<◌, ◌≤◌, ℕ, true, false, List, [], ◌∷◌, ◌++◌, length, refl, arith, inl, inr, Option, None, Some}
use Rattle.std.specs.Prelude.{Contains, IfNone, IfSome}
use Rattle.rd_base.specs.declared.limits.LimitName.TheVariants.{Arguments, Methods}
use Rattle.rd_pairs.specs.declared.spec_causes.Fault.{Fault}
use Rattle.rd_pairs.specs.declared.spec_causes.SpecCause.{SpecCause}
use Rattle.rd_pairs.specs.declared.spec_causes.SpecCause.TheVariants.{Duplicate, Limit}
use Rattle.rd_reading.specs.Causes.{IsFirstRepeated, MethodHas, variable_token}
use Rattle.rd_pairs.specs.Causes.{HasNone, IsFirstOf, Judged, place_at, rank}
use Rattle.rd_ecl.specs.Specified.{SpecifiedKind, names_of}
use Rattle.rd_ecl.specs.Variables.{is_one_of}
use Rattle.rd_ecl.proofs.VariableLemmas.{among_decides}
use Rattle.rd_tokens.specs.declared.sorts.Token.{Token}
use Rattle.rd_reading.specs.Parts.{IsPassed}
use Rattle.rd_reading.proofs.RepeatLemmas.{Different, none_repeated}
use Rattle.rd_base.specs.declared.limits.TheConstants.{MOST_ARGUMENTS, MOST_METHODS}

-- a test that fails
lacks : (name : List ℕ) (names : List (List ℕ)) → is_one_of name names ≡ false → ¬ (Contains names name)
lacks name names fails among = let yes : is_one_of name names ≡ true = (among_decides name names).1 among in cc

module _ (kind : SpecifiedKind) (line : List ℕ) (tokens : List Token) (name : List ℕ) (arguments : List (List ℕ)) (value : List ℕ) where
  -- the line has the cause at the place
  abbrev Wrong : SpecCause → ℕ → Type 0
  Wrong cause place = MethodHas kind line tokens name arguments value cause place

  least_known : (cause : SpecCause) (place : ℕ) → Wrong cause place → 7 ≤ rank cause
  least_known Duplicate place has = omega arith
  least_known (Limit Methods number) place has = omega arith
  least_known (Limit Arguments number) place has = omega arith
  least_known cause place has = absurd has

  -- a method that is there already is told first
  pub known_method : (place : ℕ) → place ≡ place_at line tokens 1 → is_one_of name (names_of kind.methods) ≡ true → IsFirstOf Wrong Duplicate place
  known_method place at is = record { has = inl ((among_decides name (names_of kind.methods)).0 is, at); first = least_known }

  module _ (fresh : is_one_of name (names_of kind.methods) ≡ false) where
    -- then a variable that stands twice
    pub variable_twice : (number place : ℕ) → IsFirstRepeated (arguments ++ value ∷ []) number
        → place ≡ place_at line tokens (variable_token (length arguments) number) → IsFirstOf Wrong Duplicate place
    variable_twice number place repeated at =
        record { has = inr (number, lacks name (names_of kind.methods) fresh, repeated, at); first = least_known }

    module _ (different : Different (arguments ++ value ∷ [])) where
      no_duplicate : (place : ℕ) → ¬ (Wrong Duplicate place)
      no_duplicate place (inl (is, at)) = lacks name (names_of kind.methods) fresh is
      no_duplicate place (inr (number, other, repeated, at)) = none_repeated (arguments ++ value ∷ []) number different repeated

      least_limit : (cause : SpecCause) (place : ℕ) → Wrong cause place → 11 ≤ rank cause
      least_limit Duplicate place has = absurd (no_duplicate place has)
      least_limit (Limit Methods number) place has = omega arith
      least_limit (Limit Arguments number) place has = omega arith
      least_limit cause place has = absurd has

      least_arguments : length kind.methods < MOST_METHODS → (cause : SpecCause) (place : ℕ) → Wrong cause place → 12 ≤ rank cause
      least_arguments few Duplicate place has = absurd (no_duplicate place has)
      least_arguments few (Limit Methods number) place has = let many = has.0 in absurd (omega (arith, few, many))
      least_arguments few (Limit Arguments number) place has = omega arith
      least_arguments few cause place has = absurd has

      -- then the limit that the line passes
      passes : (fault : Fault) → IsPassed kind line tokens arguments fault → IsFirstOf Wrong fault.cause fault.place
      passes fault (inl (many, is)) = rw is (record { has = (many, refl, refl); first = least_limit })
      passes fault (inr (few, many, is)) = rw is (record { has = (many, refl, refl); first = least_arguments few })

      right_method : length kind.methods < MOST_METHODS → length arguments ≤ MOST_ARGUMENTS → HasNone Wrong
      right_method room few Duplicate place has = no_duplicate place has
      right_method room few (Limit Methods number) place has = let many = has.0 in omega (arith, room, many)
      right_method room few (Limit Arguments number) place has = let many = has.0 in omega (arith, few, many)
      right_method room few cause place has = has

      pub judged_method : (found : Option Fault) → IfSome found (IsPassed kind line tokens arguments)
          → IfNone found ((length kind.methods < MOST_METHODS) × (length arguments ≤ MOST_ARGUMENTS)) → Judged Wrong found
      judged_method None passed room = right_method room.0 room.1
      judged_method (Some fault) passed room = passes fault passed
