-- The canonical words of a formula are sound.
use Rattle.std.proofs.Common.{◌≡◌, ℕ, suc, ◌<◌, ◌≤◌, Bool, true, false, List, [], ◌∷◌, ◌++◌, codes, length, get_or, ℤ, pos, negsuc, decimal, refl, sym, subst, Option, FitsSigned, w64, arith, length-append}
use Rattle.std.specs.Prelude.{All, unwrap_or}
use Rattle.std.specs.Fmt.{signed_decimal}
use Rattle.std.specs.List.{list_all, AllByRecursion}
use Rattle.std.specs.Str.Parse.{AllDigits}
use Rattle.std.proofs.lemmas.Bool.Decides.{nat_tests}
use Rattle.std.proofs.lemmas.Fmt.{decimal_is_IsNumeral}
use Rattle.std.proofs.lemmas.List.Elements.{All-get_or, All-weaker}
use Rattle.std.proofs.lemmas.List.Sums.{AllPass-from_list_all}
use Rattle.std.proofs.lemmas.Option.{slice_get-get_or}
use Rattle.std.proofs.lemmas.Str.Parse.{digit_from_value}
use Rattle.rd_base.specs.declared.values.Value.{Value}
use Rattle.rd_base.specs.declared.values.Value.TheVariants.{Nil, Bool as Truth, Int, Text}
use Rattle.rd_base.specs.Spelling.{IsValue}
use Rattle.rd_base.proofs.FoundLemmas.{each_by_recursion, each_from_recursion}
use Rattle.rd_print.specs.declared.canonical.word_list.PrintedWord.{PrintedWord}
use Rattle.rd_print.specs.Canonical.{closing, has_two_parts, is_or, not_words, part_words, plain_word, relation_words, sided_words, relation_sign, slot_word, term_word, value_word, canonical_words}
use Rattle.rd_ecl.specs.declared.formulas.Rel.TheVariants.{Eq, Lt, Le}
use Rattle.rd_ecl.specs.declared.formulas.Side.{Side}
use Rattle.rd_ecl.specs.declared.formulas.Side.TheVariants.{First, Second}
use Rattle.rd_ecl.specs.declared.formulas.Term.{Term}
use Rattle.rd_ecl.specs.declared.formulas.Term.TheVariants.{Slot, Const}
use Rattle.rd_ecl.specs.Formulas.{Tree, truth, atom, cross, mixed, negation, both, either, Fits, FitsTerm, of_side, AreValues, IsConstant}
use Rattle.rd_ecl.specs.Variables.{IsVariable, is_variable_byte}
use Rattle.rd_grammar.specs.declared.marks.Sign.{Sign}
use Rattle.rd_grammar.specs.declared.marks.Sign.TheVariants.{Equal, Different, Less, AtMost}
use Rattle.rd_tokens.specs.Tokens.{is_word_byte}
use Rattle.rd_tokens.specs.Words.{side_mark, sign_word, truth_word}
use Rattle.rd_print.specs.Text.{IsRightWord}

abbrev pub AreSound : List PrintedWord → Type 0
AreSound words = AllByRecursion IsRightWord words

pub sound_both : (words more : List PrintedWord) → AreSound words → AreSound more → AreSound (words ++ more)
sound_both [] more here there = there
sound_both (w ∷ words) more here there = (here.0, sound_both words more here.1 there)

-- bytes of words
abbrev AreWordBytes : List ℕ → Type 0
AreWordBytes bytes = AllByRecursion (λ b. is_word_byte b ≡ true) bytes

bytes_both : (bytes more : List ℕ) → AreWordBytes bytes → AreWordBytes more → AreWordBytes (bytes ++ more)
bytes_both [] more here there = there
bytes_both (b ∷ bytes) more here there = (here.0, bytes_both bytes more here.1 there)

plain_sound : (bytes : List ℕ) → 0 < length bytes → AreWordBytes bytes → IsRightWord (plain_word bytes)
plain_sound bytes some each = (some, each_from_recursion (λ b. is_word_byte b ≡ true) bytes each)

written_sound : (bytes : List ℕ) → 0 < length bytes → list_all is_word_byte bytes ≡ true → IsRightWord (plain_word bytes)
written_sound bytes some all = (some, AllPass-from_list_all is_word_byte bytes all)

-- integers
digit_byte : (b : ℕ) → 48 ≤ b → b ≤ 57 → is_word_byte b ≡ true
digit_byte b low high = grind (arith, nat_tests)

digits_bytes : (bytes : List ℕ) → AllDigits 10 bytes → AreWordBytes bytes
digits_bytes [] digits = tt
digits_bytes (b ∷ bytes) digits =
    let range = digit_from_value b digits.0 in
    (digit_byte b (omega (arith, range)) (omega (arith, range)), digits_bytes bytes digits.1)

integer_sound : (z : ℤ) → FitsSigned w64 z → IsRightWord (plain_word (signed_decimal z))
integer_sound (pos n) range =
    let is = decimal_is_IsNumeral n (omega (arith, range.sfits)) in
    plain_sound (decimal n) is.0.0 (digits_bytes (decimal n) is.0.1)
integer_sound (negsuc n) range =
    let is = decimal_is_IsNumeral (suc n) (omega (arith, range.sfits)) in
    plain_sound (signed_decimal (negsuc n)) (omega arith) (refl, digits_bytes (decimal (suc n)) is.0.1)

-- terms
value_sound : (value : Value) → IsValue value → IsRightWord (value_word value)
value_sound Nil is = written_sound (codes "nil") (omega arith) refl
value_sound (Truth true) is = written_sound (codes "true") (omega arith) refl
value_sound (Truth false) is = written_sound (codes "false") (omega arith) refl
value_sound (Int z) is = integer_sound z is
value_sound (Text text) is = (text, is, refl)

name_byte : (b : ℕ) → is_variable_byte b ≡ true → is_word_byte b ≡ true
name_byte b is = grind (arith, nat_tests)

mark_bytes : (side : Side) → AreWordBytes (side_mark side)
mark_bytes First = (refl, (refl, tt))
mark_bytes Second = (refl, (refl, tt))

variable_sound : (side : Side) (name : List ℕ) → IsVariable name → IsRightWord (plain_word (name ++ side_mark side))
variable_sound side name is =
    let each = each_by_recursion (λ b. is_word_byte b ≡ true) name (All-weaker _ _ name_byte name is.each) in
    plain_sound (name ++ side_mark side) (omega (arith, is.some, length-append name (side_mark side)))
    (bytes_both name (side_mark side) each (mark_bytes side))

slot_sound : (side : Side) (names : List (List ℕ)) (slot : ℕ) → All IsVariable names → slot < length names → IsRightWord (slot_word side names slot)
slot_sound side names slot each within =
    subst (λ (o : Option (List ℕ)). IsRightWord (plain_word (unwrap_or o [] ++ side_mark side))) (sym (slice_get-get_or names slot [] within))
    (variable_sound side (get_or names slot []) (All-get_or IsVariable names slot [] within each))

term_sound : (side : Side) (names : List (List ℕ)) (term : Term) → All IsVariable names → FitsTerm term (length names) → IsConstant term
    → IsRightWord (term_word side names term)
term_sound side names (Slot slot) each fits is = slot_sound side names slot each fits
term_sound side names (Const value) each fits is = value_sound value is

-- relations
sign_sound : (sign : Sign) → IsRightWord (plain_word (sign_word sign))
sign_sound Equal = written_sound (codes "=") (omega arith) refl
sign_sound Different = written_sound (codes "!=") (omega arith) refl
sign_sound Less = written_sound (codes "<") (omega arith) refl
sign_sound AtMost = written_sound (codes "<=") (omega arith) refl

relation_sound : (left : PrintedWord) (sign : Sign) (right : PrintedWord) → IsRightWord left → IsRightWord right → AreSound (relation_words left sign right)
relation_sound left sign right here there = (here, (sign_sound sign, (there, tt)))

-- parts
part_sound : (needs : Bool) (words : List PrintedWord) → AreSound words → AreSound (part_words needs words)
part_sound false words each = each
part_sound true words each = (refl, sound_both words (closing ∷ []) each (refl, tt))

truth_sound : (value : Bool) → IsRightWord (plain_word (truth_word value))
truth_sound true = value_sound (Truth true) tt
truth_sound false = value_sound (Truth false) tt

not_sound : IsRightWord (plain_word (codes "not"))
not_sound = written_sound (codes "not") (omega arith) refl

and_sound : IsRightWord (plain_word (codes "and"))
and_sound = written_sound (codes "and") (omega arith) refl

or_sound : IsRightWord (plain_word (codes "or"))
or_sound = written_sound (codes "or") (omega arith) refl

module _ (first second : List (List ℕ)) (firsts : All IsVariable first) (seconds : All IsVariable second) where
  sided_sound : (side : Side) (sign : Sign) (left right : Term) → FitsTerm left (of_side side (length first) (length second))
      → FitsTerm right (of_side side (length first) (length second)) → IsConstant left → IsConstant right
      → AreSound (sided_words first second side sign left right)
  sided_sound First sign left right fits fit is are =
      relation_sound (term_word First first left) sign (term_word First first right) (term_sound First first left firsts fits is)
      (term_sound First first right firsts fit are)
  sided_sound Second sign left right fits fit is are =
      relation_sound (term_word Second second left) sign (term_word Second second right) (term_sound Second second left seconds fits is)
      (term_sound Second second right seconds fit are)

  first_sound : (slot : ℕ) → slot < length first → IsRightWord (slot_word First first slot)
  first_sound slot within = slot_sound First first slot firsts within

  second_sound : (slot : ℕ) → slot < length second → IsRightWord (slot_word Second second slot)
  second_sound slot within = slot_sound Second second slot seconds within

  -- a plain `not`
  plain_not : (f : Tree) (words : List PrintedWord) → AreSound words → AreSound (plain_word (codes "not") ∷ part_words (has_two_parts f) words)
  plain_not f words each = (not_sound, part_sound (has_two_parts f) words each)

  negated : (f : Tree) (words : List PrintedWord) → Fits f (length first) (length second) → AreValues f → AreSound words → AreSound (not_words first second f words)
  negated (atom side Eq left right) words fits values each = sided_sound side Different left right fits.0 fits.1 values.0 values.1
  negated (atom side Lt left right) words fits values each = plain_not (atom side Lt left right) words each
  negated (atom side Le left right) words fits values each = plain_not (atom side Le left right) words each
  negated (truth value) words fits values each = plain_not (truth value) words each
  negated (cross i j) words fits values each = plain_not (cross i j) words each
  negated (mixed rel flipped i j) words fits values each = plain_not (mixed rel flipped i j) words each
  negated (negation f) words fits values each = plain_not (negation f) words each
  negated (both f g) words fits values each = plain_not (both f g) words each
  negated (either f g) words fits values each = plain_not (either f g) words each

  words_sound : (f : Tree) → Fits f (length first) (length second) → AreValues f → AreSound (canonical_words first second f)
  words_sound (truth value) fits values = (truth_sound value, tt)
  words_sound (atom side rel left right) fits values = sided_sound side (relation_sign rel) left right fits.0 fits.1 values.0 values.1
  words_sound (cross i j) fits values = relation_sound (slot_word First first i) Different (slot_word Second second j) (first_sound i fits.0) (second_sound j fits.1)
  words_sound (mixed rel false i j) fits values = relation_sound (slot_word First first i) (relation_sign rel) (slot_word Second second j) (first_sound i fits.0) (second_sound j fits.1)
  words_sound (mixed rel true i j) fits values = relation_sound (slot_word Second second j) (relation_sign rel) (slot_word First first i) (second_sound j fits.1) (first_sound i fits.0)
  words_sound (negation f) fits values = negated f (canonical_words first second f) fits values (words_sound f fits values)
  words_sound (both f g) fits values =
      sound_both (part_words (is_or f) (canonical_words first second f)) _ (part_sound (is_or f) _ (words_sound f fits.0 values.0))
      (and_sound, part_sound (has_two_parts g) _ (words_sound g fits.1 values.1))
  words_sound (either f g) fits values =
      sound_both (canonical_words first second f) _ (words_sound f fits.0 values.0)
      (or_sound, part_sound (is_or g) _ (words_sound g fits.1 values.1))

pub formula_sound : (first second : List (List ℕ)) (f : Tree) → All IsVariable first → All IsVariable second
    → Fits f (length first) (length second) → AreValues f → All IsRightWord (canonical_words first second f)
formula_sound first second f firsts seconds fits values =
    each_from_recursion IsRightWord (canonical_words first second f) (words_sound first second firsts seconds f fits values)
