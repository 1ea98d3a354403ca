-- Names: this project's profile.
use Rattle.std.specs.Prelude.{ℕ, ◌<◌, ◌≤◌, ◌||◌, ◌&&◌, Bool, nat_eq, nat_lt, nat_le, List, length, codes}
use Rattle.std.specs.Char.{is_ascii_alphanumeric}
use Rattle.std.specs.List.{AllPass, list_all, list_any}
use Rattle.rd_base.specs.declared.limits.TheConstants.{MOST_NAME_BYTES}

-- a letter or a digit of ASCII
abbrev pub is_letter_or_digit : ℕ → Bool
is_letter_or_digit b = is_ascii_alphanumeric b

-- the bytes of names that are no letters and no digits
abbrev pub name_marks : List ℕ
name_marks = codes "_.:$#@-"

-- a letter, a digit or one of these
abbrev pub is_name_byte : ℕ → Bool
is_name_byte b = is_letter_or_digit b || list_any (nat_eq b) name_marks

-- the bytes of a name
pub record IsName (bytes : List ℕ) : Type 0 where
  pub some : 0 < length bytes
  pub few : length bytes ≤ MOST_NAME_BYTES
  pub each : AllPass is_name_byte bytes

-- the test of it
unfoldable pub is_name : List ℕ → Bool
is_name bytes = nat_lt 0 (length bytes) && (nat_le (length bytes) MOST_NAME_BYTES && list_all is_name_byte bytes)
