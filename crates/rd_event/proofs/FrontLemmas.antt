-- What stands in front of the bytes is a value's spelling, and the value ends there.
use Rattle.std.proofs.Common.{◌≡◌, ◌≢◌, ℕ, zero, suc, ◌+◌, ◌-◌, ◌<◌, ◌≤◌, ◌^◌, Bool, true, nat_eq, List, [], ◌∷◌, ◌++◌, length, take, drop, get_or, ℤ, pos, negsuc, ◌-ℤ◌, to_z, of_z, w64, FitsSigned, refl, sym, ◌∙◌, ap, subst, Option, Some, None, decimal, arith, add-one, length-take, take-append-drop, get_or-take, append-nil}
use Rattle.std.specs.Cmp.Lexicographic.{bytes_decides}
use Rattle.std.specs.List.{starts_with, list_all}
use Rattle.std.specs.Str.Parse.{AllDigits, digits_value}
use Rattle.std.proofs.lemmas.Int.{ints, to_z_pos, to_z-of_z}
use Rattle.std.proofs.lemmas.List.{take_more, take_all}
use Rattle.rd_base.specs.declared.values.Value.{Value}
use Rattle.rd_base.specs.declared.values.Value.TheVariants.{Int, Text}
use Rattle.rd_base.specs.Spelling.{IsText, IsValue, bytes_spelling, value_spelling}
use Rattle.rd_base.specs.ReadingValues.{stands, value_of}
use Rattle.rd_base.proofs.FoundLemmas.{each_from_recursion}
use Rattle.rd_base.proofs.TableLemmas.{agree, flag_of_byte}
use Rattle.rd_base.proofs.TextLemmas.{inside_standing, inside_said}
use Rattle.rd_base.proofs.IntegerLemmas.{short_small, short_decimal}
use Rattle.rd_base.proofs.ValueLemmas.{value_found, found_said}
use Rattle.rd_event.specs.declared.front.TheConstants.{STANDING}
use Rattle.rd_event.specs.declared.slots.Place.TheVariants.{Outside}
use Rattle.rd_event.specs.ReadingSlots.{value_length, first_value}
use Rattle.rd_event.proofs.CutLemmas.{ends_behind, through_value}

-- the table tells which bytes stand
standing_agrees : agree stands 0 STANDING ≡ true
unfolding agree
standing_agrees = refl

pub standing_at : (byte : ℕ) (default : Bool) → byte < 256 → get_or STANDING byte default ≡ stands byte
standing_at = flag_of_byte stands STANDING standing_agrees

-- bytes that begin with a word
pub begins_with : (bytes word : List ℕ) → starts_with nat_eq bytes word ≡ true → take (length word) bytes ≡ word
begins_with bytes word begins = sym ((bytes_decides word (take (length word) bytes)).0 begins)

-- a value's spelling is the first n bytes, and the value ends there
pub record IsFront (value : Value) (bytes : List ℕ) (n : ℕ) : Type 0 where
  pub range : IsValue value
  pub front : take n bytes ≡ value_spelling value
  pub within : n ≤ length bytes
  pub ended : value_length Outside (drop n bytes) ≡ 0

-- so it is the first value
pub length_is : {value : Value} {bytes : List ℕ} {n : ℕ} → IsFront value bytes n → n ≡ value_length Outside bytes
length_is {value} {bytes} {n} is =
    let whole : bytes ≡ value_spelling value ++ drop n bytes =
    sym (take-append-drop n bytes) ∙ ap (λ word. word ++ drop n bytes) is.front in
    let long : value_length Outside bytes ≡ length (value_spelling value) + value_length Outside (drop n bytes) =
    ap (value_length Outside) whole ∙ through_value value is.range (drop n bytes) in
    omega (arith, long, ap length is.front, length-take n bytes, is.within, is.ended)

pub value_is : {value : Value} {bytes : List ℕ} {n : ℕ} → IsFront value bytes n → value_of (first_value bytes) ≡ Some value
value_is {value} {bytes} {n} is =
    ap (λ length. value_of (take length bytes)) (sym (length_is is)) ∙ ap value_of is.front ∙ value_found value is.range

none_if : {A : Type 0} (found : Option A) → ((x : A) → found ≡ Some x → ⊥) → found ≡ None
none_if (Some x) never = absurd (never x refl)
none_if None never = refl

-- bytes that are longer than their first value are no value
pub longer_is_none : (bytes : List ℕ) (n : ℕ) → n ≡ value_length Outside bytes → n < length bytes → value_of bytes ≡ None
longer_is_none bytes n is longer =
    none_if (value_of bytes) (λ value found.
    let said = found_said bytes value found in
    let all : value_length Outside bytes ≡ length (value_spelling value) + value_length Outside [] =
    ap (value_length Outside) (said.1 ∙ sym (append-nil (value_spelling value))) ∙ through_value value said.0 [] in
    omega (arith, all, ap length said.1, ends_behind Outside [] 0 (omega arith)))

-- Digits in front, at most 18.
pub front_small : (bytes : List ℕ) (n : ℕ) → n ≤ 18 → AllDigits 10 (take n bytes) → digits_value 10 (take n bytes) < 10 ^ 18
front_small bytes n few all = short_small (take n bytes) (omega (arith, length-take n bytes)) all

pub front_decimal : (bytes : List ℕ) (n number : ℕ) → 0 < n → n ≤ 18 → n ≤ length bytes → (get_or bytes 0 0 ≡ 48 → n ≡ 1)
    → AllDigits 10 (take n bytes) → number ≡ digits_value 10 (take n bytes) → take n bytes ≡ decimal number
front_decimal bytes n number some few within first all is =
    let long : length (take n bytes) ≡ n = omega (arith, length-take n bytes) in
    short_decimal (take n bytes) (omega (arith, long)) (omega (arith, long)) (λ zero. long ∙ first (sym (get_or-take n bytes 0 0 some) ∙ zero)) all
    ∙ ap decimal (sym is)

-- a number in front
number_is : (number : ℕ) → number < 10 ^ 18 → to_z w64 number ≡ pos number
number_is number small = to_z_pos w64 number (omega arith)

number_front : (bytes : List ℕ) (number n : ℕ) → number < 10 ^ 18 → take n bytes ≡ decimal number → n ≤ length bytes
    → value_length Outside (drop n bytes) ≡ 0 → IsFront (Int (to_z w64 number)) bytes n
number_front bytes number n small front within ended =
    let range : IsValue (Int (pos number)) = record { sfits = omega arith } in
    let is : IsFront (Int (pos number)) bytes n = record { range = range; front = front; within = within; ended = ended } in
    subst (λ (z : ℤ). IsFront (Int z) bytes n) (sym (number_is number small)) is

-- the same behind a `-`
negative_is : (number : ℕ) → number < 10 ^ 18 → number ≢ 0
    → to_z w64 (of_z w64 (pos 0 -ℤ to_z w64 number)) ≡ negsuc (number - 1)
negative_is zero small some = absurd (some refl)
negative_is (suc number) small some =
    let fits : FitsSigned w64 (negsuc number) = record { sfits = omega arith } in
    let less : number ≡ suc number - 1 = omega arith in
    let minus : pos 0 -ℤ pos (suc number) ≡ negsuc number = omega (arith, ints) in
    ap (λ z. to_z w64 (of_z w64 (pos 0 -ℤ z))) (number_is (suc number) small) ∙ ap (λ z. to_z w64 (of_z w64 z)) minus ∙ to_z-of_z w64 (negsuc number) fits
    ∙ ap negsuc less

negative_front : (bytes : List ℕ) (number n : ℕ) → get_or bytes 0 0 ≡ 45 → number < 10 ^ 18 → number ≢ 0
    → take n (take (length bytes - 1) (drop 1 bytes)) ≡ decimal number → n ≤ length (take (length bytes - 1) (drop 1 bytes))
    → value_length Outside (drop n (take (length bytes - 1) (drop 1 bytes))) ≡ 0
    → IsFront (Int (to_z w64 (of_z w64 (pos 0 -ℤ to_z w64 number)))) bytes (n + 1)
negative_front [] number n first small some front within ended = absurd (omega arith)
negative_front (byte ∷ rest) number n first small some front within ended =
    let all : take (suc (length rest) - 1) rest ≡ rest = take_all (suc (length rest) - 1) rest (omega arith) in
    let count : number ≡ suc (number - 1) = omega arith in
    let range : IsValue (Int (negsuc (number - 1))) = record { sfits = omega arith } in
    let spelled : take n rest ≡ decimal (suc (number - 1)) = ap (take n) (sym all) ∙ front ∙ ap decimal count in
    let is : IsFront (Int (negsuc (number - 1))) (byte ∷ rest) (suc n) = record {
      range = range;
      front = ap (λ b. b ∷ take n rest) first ∙ ap (λ word. 45 ∷ word) spelled;
      within = omega (arith, ap length all);
      ended = ap (λ xs. value_length Outside (drop n xs)) (sym all) ∙ ended;
    } in
    subst (λ (z : ℤ). IsFront (Int z) (byte ∷ rest) (n + 1)) (sym (negative_is number small some))
    (subst (λ (k : ℕ). IsFront (Int (negsuc (number - 1))) (byte ∷ rest) k) (sym (add-one n)) is)

-- the same of what stands behind a sign of so many bytes
pub unsigned_front : (bytes : List ℕ) (sign number n : ℕ) → sign ≡ 0 → number < 10 ^ 18
    → take n (take (length bytes - sign) (drop sign bytes)) ≡ decimal number → n ≤ length (take (length bytes - sign) (drop sign bytes))
    → value_length Outside (drop n (take (length bytes - sign) (drop sign bytes))) ≡ 0
    → IsFront (Int (to_z w64 number)) bytes n
unsigned_front bytes sign number n none small front within ended =
    let whole : take (length bytes - sign) (drop sign bytes) ≡ bytes =
    ap (λ (k : ℕ). take (length bytes - k) (drop k bytes)) none ∙ take_all (length bytes - 0) bytes (omega arith) in
    number_front bytes number n small (rw whole at front) (rw whole at within) (rw whole at ended)

pub signed_front : (bytes : List ℕ) (sign number n : ℕ) → (sign ≡ 1) × (get_or bytes 0 0 ≡ 45) → number < 10 ^ 18 → number ≢ 0
    → take n (take (length bytes - sign) (drop sign bytes)) ≡ decimal number → n ≤ length (take (length bytes - sign) (drop sign bytes))
    → value_length Outside (drop n (take (length bytes - sign) (drop sign bytes))) ≡ 0
    → IsFront (Int (to_z w64 (of_z w64 (pos 0 -ℤ to_z w64 number)))) bytes (n + 1)
signed_front bytes sign number n one small some front within ended =
    let is = one.0 in
    negative_front bytes number n one.1 small some (rw is at front) (rw is at within) (rw is at ended)

-- bytes that all stand for themselves are a text, and its spelling
own_spelling : (text : List ℕ) → length text ≤ 255 → list_all stands text ≡ true → IsText text × (bytes_spelling text ≡ text)
own_spelling text few all =
    let said = inside_said 255 text text (inside_standing text few all) in
    (record { few = said.0; each = each_from_recursion _ text said.1 }, said.2)

-- a text in front
text_front_from : (byte : ℕ) (rest : List ℕ) (n : ℕ) → byte ≡ 34 → n ≤ 255 → n < length rest → list_all stands (take n rest) ≡ true
    → get_or rest n 0 ≡ 34 → value_length Outside (drop (n + 1) rest) ≡ 0 → IsFront (Text (take n rest)) (byte ∷ rest) (suc (n + 1))
text_front_from byte rest n first few within all closing ended =
    let own = own_spelling (take n rest) (omega (arith, length-take n rest)) all in
    let quoted : take (n + 1) rest ≡ bytes_spelling (take n rest) ++ 34 ∷ [] =
    take_more rest n 0 within ∙ ap (λ b. take n rest ++ b ∷ []) closing ∙ ap (λ text. text ++ 34 ∷ []) (sym own.1) in record {
      range = own.0;
      front = ap (λ b. b ∷ take (n + 1) rest) first ∙ ap (λ word. 34 ∷ word) quoted;
      within = omega arith;
      ended = ended;
    }

pub text_front : (bytes : List ℕ) (n : ℕ) → get_or bytes 0 0 ≡ 34 → n ≤ 255 → n < length (take (length bytes - 1) (drop 1 bytes))
    → list_all stands (take n (take (length bytes - 1) (drop 1 bytes))) ≡ true → get_or (take (length bytes - 1) (drop 1 bytes)) n 0 ≡ 34
    → value_length Outside (drop (n + 1) (take (length bytes - 1) (drop 1 bytes))) ≡ 0
    → IsFront (Text (take n (take (length bytes - 1) (drop 1 bytes)))) bytes (n + 2)
text_front [] n first few within all closing ended = absurd (omega arith)
text_front (byte ∷ rest) n first few within all closing ended =
    let whole : take (suc (length rest) - 1) rest ≡ rest = take_all (suc (length rest) - 1) rest (omega arith) in
    let count : suc (n + 1) ≡ n + 2 = omega arith in
    let is : IsFront (Text (take n rest)) (byte ∷ rest) (suc (n + 1)) =
    text_front_from byte rest n first few (rw whole at within) (rw whole at all) (rw whole at closing) (rw whole at ended) in
    subst (λ (xs : List ℕ). IsFront (Text (take n xs)) (byte ∷ rest) (n + 2)) (sym whole)
    (subst (λ (k : ℕ). IsFront (Text (take n rest)) (byte ∷ rest) k) count is)
