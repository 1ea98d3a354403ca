-- Numbers and their decimals.
use Rattle.std.proofs.Common.{◌≡◌, ◌↔◌, ℕ, ◌<◌, ◌≤◌, ◌^◌, List, refl, sym, ◌∙◌, ap, subst, Option, Some, None, Result, Ok, Err, decimal, IsUtf8, arith, leb-true, le-leb}
use Rattle.std.specs.Str.Parse.{digits_value, ParsesUnsigned}
use Rattle.std.specs.Cmp.Lexicographic.{bytes_decides}
use Rattle.std.proofs.lemmas.Bool.{and_parts}
use Rattle.std.proofs.lemmas.Fmt.{decimal_is_IsNumeral, parse-decimal, IsAscii-decimal}
use Rattle.std.proofs.lemmas.Option.{cond_some}
use Rattle.std.proofs.lemmas.Str.{IsUtf8-from_ascii}
use Rattle.rd_decimals.specs.Decimals.{number_read}

-- the number of a decimal
pub number_found : (most number : ℕ) → most < 2 ^ 64 → number ≤ most → number_read most (decimal number) ≡ Some number
unfolding number_read
number_found most number wide below =
    let value : digits_value 10 (decimal number) ≡ number = (decimal_is_IsNumeral number (omega arith)).1 in
    rw (value, le-leb number most below, (bytes_decides (decimal number) (decimal number)).1 refl) refl

-- a number is found in its decimal only
pub number_said : (most number : ℕ) (bytes : List ℕ) → number_read most bytes ≡ Some number → (number ≤ most) × (bytes ≡ decimal number)
unfolding number_read
number_said most number bytes found =
    let parts = cond_some _ _ number found in
    let tests = and_parts _ _ parts.0 in (
      subst (λ n. n ≤ most) parts.1 (leb-true (digits_value 10 bytes) most tests.0),
      sym (subst (λ n. decimal n ≡ bytes) parts.1 ((bytes_decides (decimal (digits_value 10 bytes)) bytes).0 tests.1)),
    )

pub read_is_decimal : (most number : ℕ) (bytes : List ℕ) → most < 2 ^ 64
    → ((number_read most bytes ≡ Some number) ↔ ((number ≤ most) × (bytes ≡ decimal number)))
read_is_decimal most number bytes wide = (
  λ found. number_said most number bytes found,
  λ said. subst (λ bs. number_read most bs ≡ Some number) (sym said.1) (number_found most number wide said.0),
)

none_if : {A : Type 0} (found : Option A) → ((x : A) → found ≡ Some x → ⊥) → found ≡ None
none_if (Some x) never = absurd (never x refl)
none_if None never = refl

-- bytes that are no UTF-8 spell no number
pub no_text_no_number : (most : ℕ) (bytes : List ℕ) → most < 2 ^ 64 → ¬ (IsUtf8 bytes) → None ≡ number_read most bytes
no_text_no_number most bytes wide not_text =
    sym (none_if (number_read most bytes) (λ n found.
    let said = number_said most n bytes found in
    let small : n < 2 ^ 64 = omega arith in
    not_text (subst IsUtf8 (sym said.1) (IsUtf8-from_ascii (decimal n) (IsAscii-decimal n small)))))

-- a number that is read is the one that is parsed
pub read_is_parsed : {E : Type 0} (most number : ℕ) (bytes : List ℕ) (parsed : Result ℕ E) → most < 2 ^ 64 → ParsesUnsigned 64 10 bytes parsed
    → number_read most bytes ≡ Some number → parsed ≡ Ok number
read_is_parsed most number bytes parsed wide parses found =
    let said = number_said most number bytes found in
    parse-decimal 64 number bytes parsed (omega arith) (omega arith) said.1 parses

-- bytes that can't be parsed spell none
pub no_parse_no_number : {E : Type 0} (most : ℕ) (bytes : List ℕ) (error : E) → most < 2 ^ 64 → ParsesUnsigned 64 10 bytes (Err error)
    → None ≡ number_read most bytes
no_parse_no_number {E} most bytes error wide parses =
    sym (none_if (number_read most bytes) (λ n found.
    let ok : Err error ≡ Ok n = read_is_parsed most n bytes (Err error) wide parses found in
    cc))

-- a parsed number that is too large, or whose decimal isn't the bytes, isn't read
pub other_no_number : {E : Type 0} (most number : ℕ) (bytes : List ℕ) (parsed : Result ℕ E) → most < 2 ^ 64 → ParsesUnsigned 64 10 bytes parsed
    → parsed ≡ Ok number → ((number ≤ most) → (decimal number ≡ bytes) → ⊥) → None ≡ number_read most bytes
other_no_number {E} most number bytes parsed wide parses is other =
    sym (none_if (number_read most bytes) (λ n found.
    let said = number_said most n bytes found in
    let ok : parsed ≡ Ok n = read_is_parsed most n bytes parsed wide parses found in
    let same : number ≡ n = cc in
    other (omega (arith, said.0)) (ap decimal same ∙ sym said.1)))

-- a parsed number that isn't too large and whose decimal the bytes are is read
pub own_number : (most number : ℕ) (bytes : List ℕ) → most < 2 ^ 64 → number ≤ most → decimal number ≡ bytes → Some number ≡ number_read most bytes
own_number most number bytes wide below is = sym (subst (λ bs. number_read most bs ≡ Some number) is (number_found most number wide below))
