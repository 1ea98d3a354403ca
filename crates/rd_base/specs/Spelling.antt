-- The spelling of values: this project's profile.
use Rattle.std.specs.Prelude.{ℕ, ◌/◌, ◌%◌, ◌<◌, ◌≤◌, ◌==◌, ◌&&◌, Bool, true, false, nat_le, if◌then◌else◌, List, [], ◌∷◌, ◌++◌, length, codes, FitsSigned}
use Rattle.std.specs.Int.{w64}
use Rattle.std.specs.Fmt.{digit_glyph, signed_decimal}
use Rattle.std.specs.List.{All, flat_map}
use Rattle.rd_base.specs.declared.values.Value.{Value}
use Rattle.rd_base.specs.declared.values.Value.TheVariants.{Nil, Bool as Truth, Int, Text}
use Rattle.rd_base.specs.Bytes.{quote, backslash, letter_x}

-- a byte from 0x20, the space, to 0x7E, the last visible byte of ASCII
abbrev pub is_plain : ℕ → Bool
is_plain b = nat_le 32 b && nat_le b 126

-- the spelling of a byte of a text: `\"`, `\\`, a plain byte itself, or `\x` and two hexadecimal digits in lower case
unfoldable pub byte_spelling : ℕ → List ℕ
byte_spelling b =
    if b == quote then backslash ∷ quote ∷ []
    else if b == backslash then backslash ∷ backslash ∷ []
    else if is_plain b then b ∷ []
    else backslash ∷ letter_x ∷ digit_glyph false (b / 16) ∷ digit_glyph false (b % 16) ∷ []

-- the bytes of a text, each spelled
abbrev pub bytes_spelling : List ℕ → List ℕ
bytes_spelling text = flat_map byte_spelling text

-- the one spelling of a value
abbrev pub value_spelling : Value → List ℕ
value_spelling Nil = codes "nil"
value_spelling (Truth true) = codes "true"
value_spelling (Truth false) = codes "false"
value_spelling (Int z) = signed_decimal z
value_spelling (Text text) = quote ∷ bytes_spelling text ++ quote ∷ []

-- the bytes of a text: 0 to 255 of them
pub record IsText (text : List ℕ) : Type 0 where
  pub few : length text ≤ 255
  pub each : All (λ b. b < 256) text

-- a value: an integer has 64 bits, and a text is one
abbrev pub IsValue : Value → Type 0
IsValue Nil = Unit {0}
IsValue (Truth truth) = Unit {0}
IsValue (Int z) = FitsSigned w64 z
IsValue (Text text) = IsText text
