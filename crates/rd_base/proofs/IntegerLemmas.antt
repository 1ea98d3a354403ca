-- Integers and their decimals.
use Rattle.std.proofs.Common.{◌≡◌, ℕ, suc, ◌+◌, ◌-◌, ◌*◌, ◌<◌, ◌≤◌, ◌^◌, length, take, lit<, length-take, List, get_or, ℤ, pos, negsuc, refl, sym, ◌∙◌, ap, subst, Option, Some, None, Ok, Err, decimal, Decides, FitsSigned, w64, IsUtf8, arith, ltb-true, lt-ltb, ne_eqb}
use Rattle.std.specs.Fmt.{signed_decimal}
use Rattle.std.specs.Int.{IsInRange}
use Rattle.std.specs.Str.Parse.{AllDigits, digits_value, signed_digits_value, ParsesSigned}
use Rattle.std.specs.Char.{digit_value}
use Rattle.std.proofs.lemmas.Int.Digits.{digits_more, digits_value_more, digits_value-lt}
use Rattle.std.proofs.lemmas.Str.{digit_value_digit}
use Rattle.std.proofs.lemmas.Str.Parse.{IsNumeralModel}
use Rattle.std.proofs.Math.Nat.{pow-le-pow_right}
use Rattle.std.specs.Cmp.Lexicographic.{bytes_decides}
use Rattle.std.proofs.lemmas.Bool.{and_parts}
use Rattle.std.proofs.lemmas.Fmt.{decimal-digits_value, decimal_is_IsNumeral, parse-signed_decimal, IsAscii-signed}
use Rattle.std.proofs.lemmas.Option.{cond_some}
use Rattle.std.proofs.lemmas.List.{take_all}
use Rattle.std.proofs.lemmas.Str.{IsUtf8-from_ascii}
use Rattle.std.proofs.lemmas.Str.Parse.{digit_at}
use Rattle.rd_base.specs.ReadingValues.{has_64_bits, integer_of}

has_64_bits_decides : (z : ℤ) → Decides (has_64_bits z) (FitsSigned w64 z)
has_64_bits_decides (pos n) = ((λ h. record { sfits = ltb-true n (2 ^ 63) h }), (λ f. lt-ltb n (2 ^ 63) f.sfits))
has_64_bits_decides (negsuc n) = ((λ h. record { sfits = ltb-true n (2 ^ 63) h }), (λ f. lt-ltb n (2 ^ 63) f.sfits))

-- a decimal begins with a digit
pub first_is_digit : (n : ℕ) → n < 2 ^ 64 → IsInRange 48 57 (get_or (decimal n) 0 0)
first_is_digit n small =
    let numeral = (decimal_is_IsNumeral n small).0 in digit_at (decimal n) 0 numeral.1 numeral.0

-- a decimal gives its number back
signed_value : (z : ℤ) → FitsSigned w64 z → signed_digits_value 10 (signed_decimal z) ≡ z
signed_value (pos n) fits =
    let small : n < 2 ^ 64 = omega (arith, fits.sfits) in
    let digit = first_is_digit n small in
    rw (ne_eqb (get_or (decimal n) 0 0) 45 (λ e. absurd (omega arith)), ne_eqb (get_or (decimal n) 0 0) 43 (λ e. absurd (omega arith)))
    (ap pos (decimal_is_IsNumeral n small).1)
signed_value (negsuc n) fits =
    let small : suc n < 2 ^ 64 = omega (arith, fits.sfits) in
    rw (decimal_is_IsNumeral (suc n) small).1 refl

-- the integer of a decimal
pub integer_found : (z : ℤ) → FitsSigned w64 z → integer_of (signed_decimal z) ≡ Some z
unfolding integer_of
integer_found z fits =
    rw (signed_value z fits, (has_64_bits_decides z).1 fits, (bytes_decides (signed_decimal z) (signed_decimal z)).1 refl) refl

-- an integer is found in its decimal only
pub integer_said : (bytes : List ℕ) (z : ℤ) → integer_of bytes ≡ Some z → FitsSigned w64 z × (signed_decimal z ≡ bytes)
unfolding integer_of
integer_said bytes z found =
    let parts = cond_some _ _ z found in
    let tests = and_parts _ _ parts.0 in (
      subst (λ (y : ℤ). FitsSigned w64 y) parts.1 ((has_64_bits_decides (signed_digits_value 10 bytes)).0 tests.0),
      subst (λ (y : ℤ). signed_decimal y ≡ bytes) parts.1 ((bytes_decides (signed_decimal (signed_digits_value 10 bytes)) bytes).0 tests.1),
    )

none_if : {A : Type 0} (found : Option A) → ((x : A) → found ≡ Some x → ⊥) → found ≡ None
none_if (Some x) never = absurd (never x refl)
none_if None never = refl

-- bytes that are no UTF-8 spell no integer
pub no_text_no_integer : (bytes : List ℕ) → ¬ (IsUtf8 bytes) → None ≡ integer_of bytes
no_text_no_integer bytes not_text =
    sym (none_if (integer_of bytes) (λ z found.
    let said = integer_said bytes z found in
    not_text (subst IsUtf8 said.1 (IsUtf8-from_ascii (signed_decimal z) (IsAscii-signed z said.0.sfits)))))

-- bytes that can't be parsed spell no integer
pub no_number_no_integer : {E : Type 0} (bytes : List ℕ) (error : E) → ParsesSigned w64 10 bytes (Err error) → None ≡ integer_of bytes
no_number_no_integer {E} bytes error parses =
    sym (none_if (integer_of bytes) (λ z found.
    let said = integer_said bytes z found in
    let ok : Err error ≡ Ok z = parse-signed_decimal w64 z bytes (Err error) said.0 said.0.sfits (sym said.1) parses in
    cc))

-- Steps of the loop that reads a short number.
digit_value_is : (byte : ℕ) → IsInRange 48 57 byte → digit_value byte ≡ byte - 48
digit_value_is byte digit = omega (arith, digit_value_digit byte digit)

pub short_more : (bytes : List ℕ) (index byte number : ℕ) → index < length bytes → byte ≡ get_or bytes index 0 → IsInRange 48 57 byte
    → AllDigits 10 (take index bytes) → number ≡ digits_value 10 (take index bytes)
    → AllDigits 10 (take (index + 1) bytes) × (number * 10 + (byte - 48) ≡ digits_value 10 (take (index + 1) bytes))
short_more bytes index byte number inside is digit all so_far =
    let value : digit_value (get_or bytes index 0) ≡ byte - 48 = ap digit_value (sym is) ∙ digit_value_is byte digit in
    let small : digit_value (get_or bytes index 0) < 10 = omega (arith, value, digit.1) in (
      digits_more 10 bytes index inside all small,
      sym (digits_value_more 10 bytes index inside ∙ ap (λ n. n * 10 + digit_value (get_or bytes index 0)) (sym so_far)
          ∙ ap (λ n. number * 10 + n) value),
    )

pub short_small : (bytes : List ℕ) → length bytes ≤ 18 → AllDigits 10 bytes → digits_value 10 bytes < 10 ^ 18
short_small bytes few all =
    let most : 10 ^ length bytes ≤ 10 ^ 18 = pow-le-pow_right (lit< tt) few in
    omega (arith, digits_value-lt 10 bytes all, most)

own_numerals : IsNumeralModel (AllDigits 10) (digits_value 10)
own_numerals = record { to = λ ds all. all; from = λ ds all. all; same = λ ds all. refl }

pub short_decimal : (bytes : List ℕ) → 0 < length bytes → length bytes ≤ 18 → (get_or bytes 0 0 ≡ 48 → length bytes ≡ 1)
    → AllDigits 10 bytes → bytes ≡ decimal (digits_value 10 bytes)
short_decimal bytes some few first all =
    let small : digits_value 10 bytes < 2 ^ 64 = omega (arith, short_small bytes few all) in
    sym (decimal-digits_value own_numerals bytes all some first small)

pub short_front : (bytes : List ℕ) (index : ℕ) → length bytes ≤ 18 → AllDigits 10 (take index bytes)
    → digits_value 10 (take index bytes) < 10 ^ 18
short_front bytes index few all = short_small (take index bytes) (omega (arith, length-take index bytes)) all

-- behind the loop the number's decimal is the bytes
pub short_read : (bytes : List ℕ) (index number : ℕ) → 0 < length bytes → length bytes ≤ 18
    → (get_or bytes 0 0 ≡ 48 → length bytes ≡ 1) → length bytes ≤ index
    → AllDigits 10 (take index bytes) → number ≡ digits_value 10 (take index bytes)
    → (number < 10 ^ 18) × (bytes ≡ decimal number)
short_read bytes index number some few first ended all is =
    let whole = take_all index bytes ended in
    let every = subst (AllDigits 10) whole all in
    let value : digits_value 10 bytes ≡ number = sym (is ∙ ap (digits_value 10) whole) in
    (subst (λ n. n < 10 ^ 18) value (short_small bytes few every), short_decimal bytes some few first every ∙ ap decimal value)
