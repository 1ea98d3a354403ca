-- The variables of a method: this project's profile.
use Rattle.std.specs.Prelude.{ℕ, ◌<◌, ◌≤◌, ◌==◌, ◌||◌, ◌&&◌, Bool, true, not, nat_lt, nat_le, nat_eq, List, [], ◌∷◌, length, codes, slice_index, IsTrue, All, AllPairs, Contains, ◌≢◌, ◌+◌}
use Rattle.std.specs.Char.{is_ascii_alphabetic}
use Rattle.std.specs.List.{AllPass, list_all, list_any}
use Rattle.std.specs.Cmp.Lexicographic.{pointwise}
use Rattle.rd_base.specs.Names.{is_letter_or_digit}
use Rattle.rd_base.specs.declared.limits.TheConstants.{MOST_ARGUMENTS, MOST_NAME_BYTES}
use Rattle.rd_base.specs.Bytes.{underscore}

-- a letter of ASCII
abbrev pub is_letter : ℕ → Bool
is_letter b = is_ascii_alphabetic b

-- a letter, a digit or _
abbrev pub is_variable_byte : ℕ → Bool
is_variable_byte b = is_letter_or_digit b || b == underscore

-- the words of formulas, which name no variable
abbrev pub kept_words : List (List ℕ)
kept_words = codes "true" ∷ codes "false" ∷ codes "nil" ∷ codes "not" ∷ codes "and" ∷ codes "or" ∷ codes "when" ∷ []

-- the bytes of a variable
pub record IsVariable (bytes : List ℕ) : Type 0 where
  pub some : 0 < length bytes
  pub few : length bytes ≤ MOST_NAME_BYTES
  pub letter : IsTrue (is_letter (slice_index bytes 0))
  pub each : AllPass is_variable_byte bytes
  pub free : ¬ (Contains kept_words bytes)

-- the variables of a method: 1 to 7, no two of them alike
pub record AreVariables (variables : List (List ℕ)) : Type 0 where
  pub some : 1 ≤ length variables
  pub few : length variables ≤ MOST_ARGUMENTS + 1
  pub different : AllPairs (λ x y. x ≢ y) variables
  pub each : All IsVariable variables

-- is a name among these?
abbrev pub is_one_of : List ℕ → List (List ℕ) → Bool
is_one_of name names = list_any (pointwise nat_eq name) names

-- does no name stand twice?
abbrev pub are_different : List (List ℕ) → Bool
are_different [] = true
are_different (name ∷ names) = not (is_one_of name names) && are_different names

-- the test of a variable
abbrev pub is_variable : List ℕ → Bool
is_variable bytes =
    nat_lt 0 (length bytes) && (nat_le (length bytes) MOST_NAME_BYTES && (is_letter (slice_index bytes 0)
    && (list_all is_variable_byte bytes && not (is_one_of bytes kept_words))))
