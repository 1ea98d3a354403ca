-- The tokens of a line of a specification's text: this project's profile.
use Rattle.std.specs.Prelude.{◌≡◌, ◌≢◌, ℕ, ◌+◌, ◌-◌, ◌<◌, ◌≤◌, ◌&&◌, Bool, false, not, List, [], ◌∷◌, ◌++◌, length, take, drop, codes, nat_eq}
use Rattle.std.specs.Char.{is_ascii_graphic}
use Rattle.std.specs.List.{AllPass, list_any}
use Rattle.rd_base.specs.declared.values.Value.TheVariants.{Text as TextValue}
use Rattle.rd_base.specs.Spelling.{is_plain, value_spelling, IsText}
use Rattle.rd_tokens.specs.declared.sorts.Sort.{Sort}
use Rattle.rd_tokens.specs.declared.sorts.Sort.TheVariants.{Open, Close, Word, Text, Wrong}
use Rattle.rd_tokens.specs.declared.sorts.Token.{Token}
use Rattle.rd_base.specs.Bytes.{backslash, quote, space}

-- a visible byte of ASCII, but no parenthesis and no quote
abbrev pub is_word_byte : ℕ → Bool
is_word_byte b = is_ascii_graphic b && not (list_any (nat_eq b) (codes "()\""))

-- what stands behind a word: nothing, or first another byte
abbrev pub EndsWord : List ℕ → Type 0
EndsWord [] = Unit {0}
EndsWord (b ∷ bytes) = is_word_byte b ≡ false

-- what stands between two quotes, read in pairs from the left: a `\` takes the next byte with it, and no other byte is a quote
pub data IsInside : List ℕ → Type 0 where
  nothing_inside : IsInside []
  pair_first : {b : ℕ} {bytes : List ℕ} → IsInside bytes → IsInside (backslash ∷ b ∷ bytes)
  other_first : {b : ℕ} {bytes : List ℕ} → b ≢ quote → b ≢ backslash → IsInside bytes → IsInside (b ∷ bytes)

-- the bytes with a quote before and after them
abbrev pub in_quotes : List ℕ → List ℕ
in_quotes inside = quote ∷ inside ++ quote ∷ []

-- behind a quote, the bytes have no quote that ends what it begins
abbrev pub HasNoEnd : List ℕ → Type 0
HasNoEnd bytes = (inside behind : List ℕ) → IsInside inside → ¬ (bytes ≡ inside ++ quote ∷ behind)

-- the spelling of a text
abbrev pub SpellsText : List ℕ → Type 0
SpellsText bytes = (text : List ℕ) × IsText text × (bytes ≡ value_spelling (TextValue text))

-- what is wrong, with the bytes behind it: a byte that isn't plain, what is quoted and spells no text, a quote without an end
pub data IsWrong : List ℕ → List ℕ → Type 0 where
  wrong_byte : {b : ℕ} {behind : List ℕ} → is_plain b ≡ false → IsWrong (b ∷ []) behind
  wrong_text : (inside : List ℕ) {behind : List ℕ} → IsInside inside → ¬ (SpellsText (in_quotes inside)) → IsWrong (in_quotes inside) behind
  no_end : {bytes : List ℕ} → HasNoEnd bytes → IsWrong (quote ∷ bytes) []

-- the bytes are a token of the sort, where others stand behind them
abbrev pub IsToken : Sort → List ℕ → List ℕ → Type 0
IsToken Open bytes behind = bytes ≡ codes "("
IsToken Close bytes behind = bytes ≡ codes ")"
IsToken Word bytes behind = (0 < length bytes) × AllPass is_word_byte bytes × EndsWord behind
IsToken Text bytes behind = SpellsText bytes
IsToken Wrong bytes behind = IsWrong bytes behind

-- the tokens of bytes of which the first stands at the place: spaces are passed over
pub data Cuts : ℕ → List ℕ → List Token → Type 0 where
  nothing_left : {place : ℕ} → Cuts place [] []
  space_first : {place : ℕ} {bytes : List ℕ} {tokens : List Token} → Cuts (place + 1) bytes tokens → Cuts place (space ∷ bytes) tokens
  token_first : {place : ℕ} (sort : Sort) (bytes behind : List ℕ) {tokens : List Token} → IsToken sort bytes behind
      → Cuts (place + length bytes) behind tokens
      → Cuts place (bytes ++ behind) (record { place = place; length = length bytes; sort = sort } ∷ tokens)

-- the tokens of a line, whose bytes are numbered from 1
abbrev pub AreTokens : List ℕ → List Token → Type 0
AreTokens line tokens = Cuts 1 line tokens

-- a token of one byte or more, all of them in the line
pub record LiesIn (line : List ℕ) (token : Token) : Type 0 where
  pub first : 1 ≤ token.place
  pub some : 1 ≤ token.length
  pub last : token.place + token.length ≤ length line + 1

-- the bytes of a token of the line, and those behind it
abbrev pub bytes_of : List ℕ → Token → List ℕ
bytes_of line token = take token.length (drop (token.place - 1) line)

abbrev pub bytes_behind : List ℕ → Token → List ℕ
bytes_behind line token = drop (token.place - 1 + token.length) line

-- the token is one of its sort
abbrev pub IsTokenOf : List ℕ → Token → Type 0
IsTokenOf line token = IsToken token.sort (bytes_of line token) (bytes_behind line token)

-- the token has the byte of this number
abbrev pub HasByte : ℕ → Token → Type 0
HasByte place token = (token.place ≤ place) × (place < token.place + token.length)

-- the second token begins behind the first
abbrev pub ComesAfter : Token → Token → Type 0
ComesAfter first second = first.place + first.length ≤ second.place
