-- The bytes of texts are plain.
use Rattle.std.proofs.Common.{◌≡◌, ◌<◌, ◌^◌, ◌≤◌, ℕ, suc, pos, negsuc, ◌+◌, Bool, true, false, List, [], ◌∷◌, ◌++◌, codes, decimal, append_assoc, ◌∙◌, refl, subst, sym, arith, length}
use Rattle.std.specs.Prelude.{All}
use Rattle.std.specs.List.{AllByRecursion, list_all}
use Rattle.std.specs.Str.Parse.{AllDigits}
use Rattle.std.proofs.lemmas.Bool.Decides.{nat_tests}
use Rattle.std.proofs.lemmas.Fmt.{decimal_is_IsNumeral}
use Rattle.std.proofs.lemmas.Str.Parse.{digit_from_value}
use Rattle.std.proofs.lemmas.List.Elements.{All-weaker}
use Rattle.std.proofs.lemmas.List.Sums.{AllPass-from_list_all}
use Rattle.rd_base.specs.declared.limits.LimitName.{LimitName}
use Rattle.rd_base.specs.declared.limits.LimitName.TheVariants.{Bytes, Line, Events, Threads, Locks, Objects, Depth, SpecText, Tokens, Kinds, Methods, Arguments, Nodes, FormulaDepth, Predicates}
use Rattle.rd_base.specs.declared.values.Value.{Value}
use Rattle.rd_base.specs.declared.values.Value.TheVariants.{Nil, Bool as Truth, Int, Text}
use Rattle.rd_base.specs.Limits.{limit_cause_text, limit_text}
use Rattle.rd_base.specs.Names.{IsName, is_name_byte}
use Rattle.rd_base.specs.Spelling.{IsValue, is_plain, value_spelling}
use Rattle.rd_base.proofs.FoundLemmas.{each_by_recursion, each_from_recursion}
use Rattle.rd_ecl.specs.Specified.{IsKind, SpecifiedKind}
use Rattle.rd_event.specs.Items.{call_text, slots_spelling, words_apart}
use Rattle.rd_object.specs.declared.shapes.Expected.TheVariants as Expected
use Rattle.rd_object.specs.declared.shapes.ReplayEnd.{ReplayEnd}
use Rattle.rd_object.specs.declared.shapes.ReplayEnd.TheVariants.{Exact, Differs, NotShipped}
use Rattle.rd_print.specs.Canonical.{value_word}
use Rattle.rd_print.specs.Printed.{commute_words, pair_text, pair_words}
use Rattle.rd_print.specs.Text.{IsRightWord}
use Rattle.rd_print.proofs.SoundLemmas.{commute_sound}
use Rattle.rd_print.proofs.TextPlainLemmas.{words_plain}
use Rattle.rd_report.specs.Races.{formula_line_words}
use Rattle.rd_report.specs.Texts.{expected_text, replay_line, replay_words}
use Rattle.rd_report.specs.Writing.{ArePlain, comma}

-- bytes that are written out
pub written_plain : (bytes : List ℕ) → list_all is_plain bytes ≡ true → ArePlain bytes
written_plain bytes all = AllPass-from_list_all is_plain bytes all

pub none_plain : ArePlain []
none_plain = written_plain [] refl

pub plain_both : (bytes more : List ℕ) → ArePlain bytes → ArePlain more → ArePlain (bytes ++ more)
plain_both bytes more here there = each_from_recursion (λ b. is_plain b ≡ true) (bytes ++ more)
    (both bytes (each_by_recursion (λ b. is_plain b ≡ true) bytes here) (each_by_recursion (λ b. is_plain b ≡ true) more there))
  where
    both : (xs : List ℕ) → AllByRecursion (λ b. is_plain b ≡ true) xs → AllByRecursion (λ b. is_plain b ≡ true) more → AllByRecursion (λ b. is_plain b ≡ true) (xs ++ more)
    both [] first last = last
    both (x ∷ xs) first last = (first.0, both xs first.1 last)

-- a plain text with plain bytes behind it
pub plain_with : (old more new : List ℕ) → new ≡ old ++ more → ArePlain old → ArePlain more → ArePlain new
plain_with old more new is here there = subst ArePlain (sym is) (plain_both old more here there)

pub name_plain : (name : List ℕ) → IsName name → ArePlain name
name_plain name is = All-weaker _ _ byte name is.each
  where
    byte : (b : ℕ) → is_name_byte b ≡ true → is_plain b ≡ true
    byte b h = grind (arith, nat_tests)

-- ---- numbers

digits_plain : (bytes : List ℕ) → AllDigits 10 bytes → AllByRecursion (λ b. is_plain b ≡ true) bytes
digits_plain [] digits = tt
digits_plain (b ∷ bytes) digits = let range = digit_from_value b digits.0 in (byte b (omega (arith, range)) (omega (arith, range)), digits_plain bytes digits.1)
  where
    byte : (b : ℕ) → 48 ≤ b → b ≤ 57 → is_plain b ≡ true
    byte b low high = grind (arith, nat_tests)

pub decimal_plain : (n : ℕ) → n < 2 ^ 64 → ArePlain (decimal n)
decimal_plain n small = each_from_recursion (λ b. is_plain b ≡ true) (decimal n) (digits_plain (decimal n) (decimal_is_IsNumeral n small).0.1)

-- ---- clocks

pub comma_plain : (some : Bool) → ArePlain (comma some)
comma_plain true = written_plain (comma true) refl
comma_plain false = written_plain (comma false) refl

pub colon_plain : ArePlain (58 ∷ [])
colon_plain = written_plain (58 ∷ []) refl

-- ---- values and calls

pub value_plain : (value : Value) → IsValue value → ArePlain (value_spelling value)
value_plain Nil is = written_plain (codes "nil") refl
value_plain (Truth true) is = written_plain (codes "true") refl
value_plain (Truth false) is = written_plain (codes "false") refl
value_plain (Int (pos n)) is = decimal_plain n (omega (arith, is.sfits))
value_plain (Int (negsuc n)) is = plain_both (codes "-") (decimal (suc n)) (written_plain (codes "-") refl) (decimal_plain (suc n) (omega (arith, is.sfits)))
value_plain (Text text) is =
    words_plain (value_word (Text text) ∷ []) (each_from_recursion IsRightWord (value_word (Text text) ∷ []) ((text, is, refl), tt))

apart_plain : (first second : List ℕ) → ArePlain first → ArePlain second → ArePlain (words_apart first second)
apart_plain first second here there = plain_both first (32 ∷ second) here (plain_both (32 ∷ []) second (written_plain (32 ∷ []) refl) there)

slots_plain : (slots : List Value) → AllByRecursion IsValue slots → ArePlain (slots_spelling slots)
slots_plain [] each = none_plain
slots_plain (result ∷ []) each = apart_plain (codes "->") (value_spelling result) (written_plain (codes "->") refl) (value_plain result each.0)
slots_plain (argument ∷ slot ∷ slots) each =
    apart_plain (value_spelling argument) (slots_spelling (slot ∷ slots)) (value_plain argument each.0) (slots_plain (slot ∷ slots) each.1)

pub call_plain : (thread object method : List ℕ) (slots : List Value) → IsName thread → IsName object → IsName method → All IsValue slots
    → ArePlain (call_text thread object method slots)
call_plain thread object method slots first second third values =
    apart_plain thread _ (name_plain thread first) (apart_plain object _ (name_plain object second)
    (apart_plain method _ (name_plain method third) (slots_plain slots (each_by_recursion IsValue slots values))))

-- ---- formulas

pub formula_plain : (kind : SpecifiedKind) → IsKind kind → (first second : ℕ) → first ≤ second → second < length kind.methods
    → ArePlain (formula_line_words kind first second)
unfolding formula_line_words
formula_plain kind is first second ordered within =
    let sound = each_by_recursion IsRightWord (commute_words kind (first, second)) (commute_sound kind is first second ordered within) in
    plain_both (kind.name ++ codes " ") (pair_text kind first second)
    (plain_both kind.name (codes " ") (name_plain kind.name is.draft.name) (written_plain (codes " ") refl))
    (words_plain (pair_words kind first second) (each_from_recursion IsRightWord (pair_words kind first second) sound.1))

-- ---- limits

limit_plain : (name : LimitName) → list_all is_plain (limit_text name) ≡ true
unfolding limit_text
limit_plain Bytes = refl
limit_plain Line = refl
limit_plain Events = refl
limit_plain Threads = refl
limit_plain Locks = refl
limit_plain Objects = refl
limit_plain Depth = refl
limit_plain SpecText = refl
limit_plain Tokens = refl
limit_plain Kinds = refl
limit_plain Methods = refl
limit_plain Arguments = refl
limit_plain Nodes = refl
limit_plain FormulaDepth = refl
limit_plain Predicates = refl

pub limit_cause_plain : (name : LimitName) (number : ℕ) → number < 2 ^ 64 → ArePlain (limit_cause_text name number)
limit_cause_plain name number small =
    plain_both (codes "limit " ++ limit_text name ++ codes " ") (decimal number)
    (plain_both (codes "limit " ++ limit_text name) (codes " ")
    (plain_both (codes "limit ") (limit_text name) (written_plain (codes "limit ") refl) (written_plain (limit_text name) (limit_plain name)))
    (written_plain (codes " ") refl)) (decimal_plain number small)

-- ---- behind a number

pub numbered_plain : (front number more : List ℕ) → list_all is_plain front ≡ true → ArePlain number → ArePlain more
    → ArePlain (front ++ number ++ codes " " ++ more)
numbered_plain front number more all digits plain =
    plain_both (front ++ number ++ codes " ") more
    (plain_both (front ++ number) (codes " ") (plain_both front number (written_plain front all) digits) (written_plain (codes " ") refl)) plain

pub numbered_text : (text front number more new : List ℕ) → new ≡ (((text ++ front) ++ number) ++ codes " ") ++ more
    → new ≡ text ++ (front ++ number ++ codes " " ++ more)
numbered_text text front number more new is = is ∙ regroup front number more
  where
    regroup : (front number more : List ℕ) → (((text ++ front) ++ number) ++ codes " ") ++ more ≡ text ++ (front ++ number ++ codes " " ++ more)
    regroup front number more = simp append_assoc

-- ---- replays

pub value_words : (value : Value) → IsValue value → ArePlain (expected_text (Expected.Value value))
unfolding expected_text
value_words value is = plain_both (codes "expected ") (value_spelling value) (written_plain (codes "expected ") refl) (value_plain value is)

pub argument_words : (argument : ℕ) → ArePlain (decimal (argument + 1)) → ArePlain (expected_text (Expected.BadArgument argument))
unfolding expected_text
argument_words argument plain = plain_both (codes "argument ") (decimal (argument + 1)) (written_plain (codes "argument ") refl) plain

pub line_of_words : (end : ReplayEnd) → codes "replay " ++ replay_words end ++ codes "\n" ≡ replay_line end
unfolding replay_line replay_words
line_of_words Exact = refl
line_of_words (Differs line expected) = refl
line_of_words NotShipped = refl
