-- Which bytes behind a quote spell a text.
use Rattle.std.proofs.Common.{◌≡◌, ◌≢◌, ℕ, ◌<◌, ◌^◌, true, false, List, ◌∷◌, get_or, refl, sym, ◌∙◌, ap, subst, ℤ, pos, negsuc, decimal, Option, Some, None, is_some, ◌⊎◌, inl, inr, arith, FitsSigned, w64}
use Rattle.std.specs.Fmt.{signed_decimal}
use Rattle.std.specs.Str.Parse.{AllDigits}
use Rattle.std.proofs.lemmas.Fmt.{decimal_is_IsNumeral}
use Rattle.std.proofs.lemmas.Option.{none-some}
use Rattle.std.proofs.lemmas.Str.Parse.{digit_from_value}
use Rattle.rd_base.specs.declared.values.Value.{Value}
use Rattle.rd_base.specs.declared.values.Value.TheVariants.{Nil, Bool as Truth, Int, Text}
use Rattle.rd_base.specs.Spelling.{bytes_spelling, value_spelling, IsText, IsValue}
use Rattle.rd_base.specs.ReadingValues.{value_of}
use Rattle.rd_base.proofs.FoundLemmas.{each_by_recursion}
use Rattle.rd_base.proofs.ValueLemmas.{value_found, found_said}
use Rattle.rd_tokens.specs.Tokens.{IsInside, SpellsText, in_quotes}
use Rattle.rd_tokens.proofs.InsideLemmas.{spelled_inside}

-- no integer begins with a quote
no_digit : (n : ℕ) (bytes : List ℕ) → n < 2 ^ 64 → 34 ∷ bytes ≡ decimal n → ⊥
no_digit n bytes small is =
    let all : AllDigits 10 (34 ∷ bytes) = subst (AllDigits 10) (sym is) (decimal_is_IsNumeral n small).0.1 in
    let range = digit_from_value 34 all.0 in omega (arith, range)

no_integer : (z : ℤ) (bytes : List ℕ) → FitsSigned w64 z → 34 ∷ bytes ≡ signed_decimal z → ⊥
no_integer (pos n) bytes range is = no_digit n bytes (omega (arith, range.sfits)) is
no_integer (negsuc n) bytes range is =
    let first : 34 ≡ 45 = ap (λ (xs : List ℕ). get_or xs 0 0) is in omega (arith, first)

other_first_byte : (b : ℕ) (bytes word : List ℕ) → 34 ≢ b → 34 ∷ bytes ≡ b ∷ word → ⊥
other_first_byte b bytes word other is = other (ap (λ (xs : List ℕ). get_or xs 0 0) is)

-- a value whose spelling begins with a quote is a text
only_text : (value : Value) (bytes : List ℕ) → IsValue value → 34 ∷ bytes ≡ value_spelling value → SpellsText (34 ∷ bytes)
only_text Nil bytes range is = absurd (other_first_byte 110 bytes _ (omega arith) is)
only_text (Truth true) bytes range is = absurd (other_first_byte 116 bytes _ (omega arith) is)
only_text (Truth false) bytes range is = absurd (other_first_byte 102 bytes _ (omega arith) is)
only_text (Int z) bytes range is = absurd (no_integer z bytes range is)
only_text (Text text) bytes range is = (text, range, is)

-- the test of a value tells texts from other bytes behind a quote
abbrev TextTold : List ℕ → Type 0
TextTold bytes = ((is_some (value_of bytes) ≡ true) × SpellsText bytes) ⊎ ((is_some (value_of bytes) ≡ false) × ¬ (SpellsText bytes))

told : (bytes : List ℕ) (found : Option Value) → value_of (34 ∷ bytes) ≡ found → TextTold (34 ∷ bytes)
told bytes (Some value) is =
    let said = found_said (34 ∷ bytes) value is in inl (ap is_some is, only_text value bytes said.0 said.1)
told bytes None is =
    inr (ap is_some is, λ spelled. none-some (Text spelled.0) (sym is ∙ ap value_of spelled.2 ∙ value_found (Text spelled.0) spelled.1))

pub text_told : (bytes : List ℕ)
    → ((is_some (value_of (34 ∷ bytes)) ≡ true) × SpellsText (34 ∷ bytes))
    ⊎ ((is_some (value_of (34 ∷ bytes)) ≡ false) × ¬ (SpellsText (34 ∷ bytes)))
text_told bytes = told bytes (value_of (34 ∷ bytes)) refl

-- the spelling of a text is found
pub text_found : (text : List ℕ) → IsText text → is_some (value_of (in_quotes (bytes_spelling text))) ≡ true
text_found text range = ap is_some (value_found (Text text) range)

-- what spells a text is quoted
pub text_inside : (text : List ℕ) → IsText text → IsInside (bytes_spelling text)
text_inside text range = spelled_inside text (each_by_recursion _ text range.each)
