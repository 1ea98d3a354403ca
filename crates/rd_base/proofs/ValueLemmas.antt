-- `value_of` finds a value exactly in its spelling.
use Rattle.std.proofs.Common.{◌≡◌, ℕ, suc, ◌+◌, ◌-◌, ◌<◌, ◌≤◌, ◌^◌, true, false, ◌≢◌, nat_eq, List, [], ◌∷◌, ◌++◌, length, take, get_or, slice_range, ℤ, pos, negsuc, refl, sym, ◌∙◌, ap, subst, Some, None, IfSome, IfOk, IfErr, Result, Ok, Err, option_map, codes, FitsSigned, w64, arith, length-append, ne_eqb, eqb-true, leb-true, le-leb, take_at, bytes_eq}
use Rattle.std.specs.Prelude.{⊤}
use Rattle.std.specs.Fmt.{decimal, signed_decimal}
use Rattle.std.specs.Cmp.Lexicographic.{bytes_decides}
use Rattle.std.proofs.lemmas.Bool.{and_parts, and_left, and_right, and_from, false_from_ne_true}
use Rattle.std.proofs.lemmas.List.{take_more, take_all, get_or_at}
use Rattle.std.proofs.lemmas.Option.{same_Some, none-some, MatchOption-at_some}
use Rattle.std.proofs.lemmas.Result.{IfOk-weaker}
use Rattle.rd_base.specs.declared.values.Value.{Value}
use Rattle.rd_base.specs.declared.values.Value.TheVariants.{Nil, Bool as Truth, Int, Text}
use Rattle.rd_base.specs.declared.spelling.ValueRefused.{ValueRefused}
use Rattle.rd_base.specs.declared.spelling.ValueRefused.TheVariants.{NotAValue}
use Rattle.rd_base.specs.Spelling.{bytes_spelling, value_spelling, IsValue}
use Rattle.rd_base.specs.ReadingValues.{inside_of, is_quoted, value_of}
use Rattle.rd_base.proofs.FoundLemmas.{if_some, map_found, each_by_recursion, each_from_recursion}
use Rattle.rd_base.proofs.IntegerLemmas.{first_is_digit, integer_found, integer_said}
use Rattle.rd_base.proofs.TextLemmas.{inside_found, inside_said}

-- bytes between quotes are quoted, and stand between them
quoted : (text : List ℕ) → is_quoted (34 ∷ text ++ 34 ∷ []) ≡ true
quoted text =
    let long = length-append text (34 ∷ []) in
    let last : get_or (34 ∷ text ++ 34 ∷ []) (length (34 ∷ text ++ 34 ∷ []) - 1) 0 ≡ 34 =
    get_or_at (34 ∷ text) 34 [] 0 _ (omega (arith, long)) in
    and_from _ _ (and_from _ _ (le-leb 2 _ (omega (arith, long))) refl) (ap (λ byte. nat_eq byte 34) last)

between : (text : List ℕ) → slice_range (34 ∷ text ++ 34 ∷ []) 1 (length (34 ∷ text ++ 34 ∷ []) - 1) ≡ text
between text = take_at text (34 ∷ []) _ (omega (arith, length-append text (34 ∷ [])))

-- a list is what stands before its last element, and that element
last_apart : (n : ℕ) (bytes : List ℕ) → length bytes ≡ n + 1 → take n bytes ++ get_or bytes n 0 ∷ [] ≡ bytes
last_apart n bytes long =
    sym (take_more bytes n 0 (omega (arith, long))) ∙ take_all (n + 1) bytes (omega (arith, long))

unquoted_from : (byte : ℕ) (bytes : List ℕ) → 2 ≤ suc (length bytes) → byte ≡ 34 → get_or (byte ∷ bytes) (suc (length bytes) - 1) 0 ≡ 34
    → 34 ∷ take (suc (length bytes) - 1 - 1) bytes ++ 34 ∷ [] ≡ byte ∷ bytes
unquoted_from byte bytes long first last =
    let place : suc (length bytes) - 1 ≡ suc (length bytes - 1) = omega arith in
    let final : get_or bytes (length bytes - 1) 0 ≡ 34 = subst (λ (k : ℕ). get_or (byte ∷ bytes) k 0 ≡ 34) place last in
    let count : suc (length bytes) - 1 - 1 ≡ length bytes - 1 = omega arith in
    let whole : length bytes ≡ length bytes - 1 + 1 = omega arith in
    rw (count, first)
    (ap (λ xs. 34 ∷ xs) (ap (λ b. take (length bytes - 1) bytes ++ b ∷ []) (sym final) ∙ last_apart (length bytes - 1) bytes whole))

-- what is quoted is what stands between, with the quotes
unquoted : (bytes : List ℕ) → is_quoted bytes ≡ true → 34 ∷ slice_range bytes 1 (length bytes - 1) ++ 34 ∷ [] ≡ bytes
unquoted [] test = cc
unquoted (byte ∷ bytes) test =
    let tests = and_parts _ _ test in
    let fronts = and_parts _ _ tests.0 in
    unquoted_from byte bytes (leb-true 2 (suc (length bytes)) fronts.0) (eqb-true byte 34 fronts.1)
    (eqb-true (get_or (byte ∷ bytes) (suc (length bytes) - 1) 0) 34 tests.1)

not_quoted : (bytes : List ℕ) → get_or bytes 0 0 ≢ 34 → is_quoted bytes ≡ false
not_quoted bytes other = and_left _ _ (and_right _ _ (ne_eqb (get_or bytes 0 0) 34 other))

-- the first byte of an integer is a digit or `-`, so it is neither a word nor a text
other_first : (z : ℤ) → FitsSigned w64 z → (byte : ℕ) → 57 < byte → get_or (signed_decimal z) 0 0 ≢ byte
other_first (pos n) fits byte large same =
    let digit = first_is_digit n (omega (arith, fits.sfits)) in omega (arith, same)
other_first (negsuc n) fits byte large same = omega (arith, same)

no_quote : (z : ℤ) → FitsSigned w64 z → get_or (signed_decimal z) 0 0 ≢ 34
no_quote (pos n) fits same =
    let digit = first_is_digit n (omega (arith, fits.sfits)) in omega (arith, same)
no_quote (negsuc n) fits same = omega (arith, same)

other_word : (bytes : List ℕ) (byte : ℕ) (word : List ℕ) → get_or bytes 0 0 ≢ byte → bytes_eq bytes (byte ∷ word) ≡ false
other_word bytes byte word other =
    false_from_ne_true _ (λ same. other (ap (λ (xs : List ℕ). get_or xs 0 0) ((bytes_decides bytes (byte ∷ word)).0 same)))

-- a value is found in its spelling
pub value_found : (value : Value) → IsValue value → value_of (value_spelling value) ≡ Some value
unfolding value_of
value_found Nil range = refl
value_found (Truth true) range = refl
value_found (Truth false) range = refl
value_found (Int z) range =
    rw (
      other_word (signed_decimal z) 110 (codes "il") (other_first z range 110 (omega arith)),
      other_word (signed_decimal z) 116 (codes "rue") (other_first z range 116 (omega arith)),
      other_word (signed_decimal z) 102 (codes "alse") (other_first z range 102 (omega arith)),
      not_quoted (signed_decimal z) (no_quote z range),
    ) (ap (option_map (λ z. Int z)) (integer_found z range))
value_found (Text text) range =
    rw (quoted (bytes_spelling text), between (bytes_spelling text))
    (ap (option_map (λ text. Text text)) (inside_found text 255 range.few (each_by_recursion _ text range.each)))

-- what is found is a value, and the bytes are its spelling
abbrev ValueSaid : List ℕ → Value → Type 0
ValueSaid bytes value = IsValue value × (bytes ≡ value_spelling value)

text_said : (bytes text : List ℕ) → is_quoted bytes ≡ true → inside_of 255 (slice_range bytes 1 (length bytes - 1)) ≡ Some text
    → ValueSaid bytes (Text text)
text_said bytes text test found =
    let said = inside_said 255 (slice_range bytes 1 (length bytes - 1)) text found in (
      record { few = said.0; each = each_from_recursion _ text said.1 },
      sym (unquoted bytes test) ∙ ap (λ text. 34 ∷ text ++ 34 ∷ []) (sym said.2),
    )

value_said : (bytes : List ℕ) → IfSome (value_of bytes) (ValueSaid bytes)
unfolding value_of
value_said bytes =
    let Said : Value → Type 0 = ValueSaid bytes in
    if_some Said _ (Some Nil) _ (λ same. (tt, (bytes_decides bytes (codes "nil")).0 same))
    (if_some Said _ (Some (Truth true)) _ (λ same. (tt, (bytes_decides bytes (codes "true")).0 same))
    (if_some Said _ (Some (Truth false)) _ (λ same. (tt, (bytes_decides bytes (codes "false")).0 same))
    (if_some Said _ _ _
    (λ test. map_found Said (λ text. Text text) _ (λ text found. text_said bytes text test found))
    (map_found Said (λ z. Int z) _ (λ z found. let said = integer_said bytes z found in (said.0, sym said.1))))))

pub found_said : (bytes : List ℕ) (value : Value) → value_of bytes ≡ Some value → IsValue value × (bytes ≡ value_spelling value)
found_said bytes value found = MatchOption-at_some ⊤ (ValueSaid bytes) value found (value_said bytes)

-- no bytes spell two values
pub one_value : (v w : Value) → IsValue v → IsValue w → value_spelling v ≡ value_spelling w → v ≡ w
one_value v w v_range w_range same =
    same_Some v w (sym (value_found v v_range) ∙ ap value_of same ∙ value_found w w_range)

-- where none is found, the bytes spell none
none_said : (bytes : List ℕ) → value_of bytes ≡ None → (value : Value) → IsValue value → ¬ (bytes ≡ value_spelling value)
none_said bytes none value range is = none-some value (sym none ∙ ap value_of is ∙ value_found value range)

-- the same of what a call answers
pub ok_spelled : (bytes : List ℕ) (result : Result Value ValueRefused) → IfOk result (λ value. value_of bytes ≡ Some value)
    → IfOk result (λ value. bytes ≡ value_spelling value)
ok_spelled bytes result = IfOk-weaker result _ _ (λ value found. (found_said bytes value found).1)

pub ok_in_range : (bytes : List ℕ) (result : Result Value ValueRefused) → IfOk result (λ value. value_of bytes ≡ Some value)
    → IfOk result IsValue
ok_in_range bytes result = IfOk-weaker result _ _ (λ value found. (found_said bytes value found).0)

pub err_spelled : (bytes : List ℕ) (result : Result Value ValueRefused)
    → IfErr result (λ e. e ≡ NotAValue → value_of bytes ≡ None)
    → IfErr result (λ e. e ≡ NotAValue → (value : Value) → IsValue value → ¬ (bytes ≡ value_spelling value))
err_spelled bytes (Ok value) none = none
err_spelled bytes (Err e) none = λ bad. none_said bytes (none bad)

-- the value of a short number
pub short_value : (bytes : List ℕ) (number : ℕ) → number < 10 ^ 18 → bytes ≡ decimal number → value_of bytes ≡ Some (Int (pos number))
short_value bytes number small is =
    let range : FitsSigned w64 (pos number) = record { sfits = omega arith } in
    ap value_of is ∙ value_found (Int (pos number)) range
