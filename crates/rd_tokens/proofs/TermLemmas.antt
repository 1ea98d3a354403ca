-- `term_of` finds a term exactly in its bytes.
use Rattle.std.proofs.Common.{◌≡◌, ◌≢◌, ℕ, ◌-◌, ◌<◌, ◌≤◌, Bool, true, false, List, [], ◌∷◌, ◌++◌, length, get_or, codes, ℤ, pos, negsuc, refl, sym, ◌∙◌, ap, subst, Option, Some, None, IfSome, IfNone, IfOk, Result, option_map, arith, length-append, take_at, drop_at, FitsSigned, w64, bytes_eq, is_some, ◌⊎◌, inl, inr}
use Rattle.std.specs.Prelude.{⊤, ◌||◌, ◌&&◌, ◌==◌, not, nat_lt, slice_index, IsTrue}
use Rattle.std.specs.Fmt.{signed_decimal}
use Rattle.std.specs.Cmp.Lexicographic.{bytes_decides}
use Rattle.std.specs.List.{list_all}
use Rattle.std.proofs.lemmas.Bool.{and_parts, false_from_ne_true}
use Rattle.std.proofs.lemmas.Bool.Decides.{nat_tests}
use Rattle.std.proofs.lemmas.List.{take-append-drop}
use Rattle.std.proofs.lemmas.List.Elements.{All-weaker}
use Rattle.std.proofs.lemmas.List.Sums.{list_all-from_AllPass}
use Rattle.std.proofs.lemmas.Option.{same_Some, none-some, MatchOption-at_some}
use Rattle.std.proofs.lemmas.Result.{IfOk-weaker}
use Rattle.rd_base.specs.declared.values.Value.{Value}
use Rattle.rd_base.specs.declared.values.Value.TheVariants.{Nil, Bool as Truth, Int, Text}
use Rattle.rd_base.specs.Names.{IsName, is_name_byte}
use Rattle.rd_base.specs.Spelling.{value_spelling, IsValue}
use Rattle.rd_base.specs.ReadingValues.{value_of}
use Rattle.rd_base.proofs.FoundLemmas.{if_some, map_found}
use Rattle.rd_base.proofs.IntegerLemmas.{first_is_digit}
use Rattle.rd_base.proofs.ValueLemmas.{value_found, found_said}
use Rattle.rd_ecl.specs.declared.formulas.Side.{Side}
use Rattle.rd_ecl.specs.declared.formulas.Side.TheVariants.{First, Second}
use Rattle.rd_ecl.specs.Variables.{IsVariable, is_variable, is_letter, is_variable_byte}
use Rattle.rd_ecl.proofs.VariableLemmas.{variable_decides}
use Rattle.rd_tokens.specs.Tokens.{SpellsText}
use Rattle.rd_tokens.specs.declared.words.dialects.Dialect.{Dialect}
use Rattle.rd_tokens.specs.declared.words.dialects.Dialect.TheVariants.{Sided, Named, Unsided}
use Rattle.rd_tokens.specs.declared.words.terms.Said.{Said}
use Rattle.rd_tokens.specs.declared.words.terms.Said.TheVariants.{Variable, Value as ValueTerm}
use Rattle.rd_tokens.specs.ReadingWords.{name_before, mark_behind, side_of, variable_of, term_of, unsided_term_of, term_in}
use Rattle.rd_tokens.specs.Words.{side_mark, SaysTerm, IsTerm, SaysUnsided, SaysTermIn}

-- a variable's bytes are those of a name
byte_of_name : (b : ℕ) → is_variable_byte b ≡ true → is_name_byte b ≡ true
byte_of_name b is = grind (arith, nat_tests)

pub variable_named : (bytes : List ℕ) → IsTrue (is_variable bytes) → IsName bytes
variable_named bytes test =
    let is = (variable_decides bytes).0 test in
    record { some = is.some; few = is.few; each = All-weaker _ _ byte_of_name bytes is.each }

-- a mark has two bytes
two_bytes : (side : Side) → length (side_mark side) ≡ 2
two_bytes First = refl
two_bytes Second = refl

in_front : (name : List ℕ) (side : Side) → length name ≡ length (name ++ side_mark side) - 2
in_front name side = omega (arith, length-append name (side_mark side), two_bytes side)

name_found : (name : List ℕ) (side : Side) → name_before (name ++ side_mark side) ≡ name
name_found name side = take_at name (side_mark side) _ (in_front name side)

mark_found : (name : List ℕ) (side : Side) → mark_behind (name ++ side_mark side) ≡ side_mark side
mark_found name side = drop_at name (side_mark side) _ (in_front name side)

side_found : (side : Side) → side_of (side_mark side) ≡ Some side
unfolding side_of
side_found First = refl
side_found Second = refl

-- a variable with its side is found
variable_found : (side : Side) (name : List ℕ) → IsVariable name → variable_of (name ++ side_mark side) ≡ Some (Variable side name)
unfolding variable_of
variable_found side name is =
    rw (name_found name side, mark_found name side, (variable_decides name).1 is, side_found side) refl

-- what is found is written so
side_said : (mark : List ℕ) → IfSome (side_of mark) (λ side. mark ≡ side_mark side)
unfolding side_of
side_said mark =
    if_some (λ side. mark ≡ side_mark side) _ (Some First) _ (bytes_decides mark (codes "@1")).0
    (if_some (λ side. mark ≡ side_mark side) _ (Some Second) None (bytes_decides mark (codes "@2")).0 tt)

said_side : (mark : List ℕ) (side : Side) → side_of mark ≡ Some side → mark ≡ side_mark side
said_side mark side found = MatchOption-at_some ⊤ (λ side. mark ≡ side_mark side) side found (side_said mark)

abbrev SaysVariable : List ℕ → Said → Type 0
SaysVariable bytes (Variable side name) = IsVariable name × (bytes ≡ name ++ side_mark side)
SaysVariable bytes (ValueTerm value) = ⊥

variable_said : (bytes : List ℕ) → IfSome (variable_of bytes) (SaysVariable bytes)
unfolding variable_of
variable_said bytes =
    if_some (SaysVariable bytes) _ _ None
    (λ test. map_found (SaysVariable bytes) (λ side. Variable side (name_before bytes)) (side_of (mark_behind bytes))
    (λ side found. (
      (variable_decides (name_before bytes)).0 test,
      sym (take-append-drop (length bytes - 2) bytes) ∙ ap (λ xs. name_before bytes ++ xs) (said_side (mark_behind bytes) side found),
    ))) tt

variable_term : (bytes : List ℕ) (found : Option Said) → IfSome found (SaysVariable bytes) → IfSome found (SaysTerm bytes)
variable_term bytes None says = tt
variable_term bytes (Some (Variable side name)) says = says
variable_term bytes (Some (ValueTerm value)) says = absurd says

-- no bytes are a variable with its side and the spelling of a value
first_byte : (name mark : List ℕ) → 0 < length name → get_or (name ++ mark) 0 0 ≡ get_or name 0 0
first_byte [] mark some = absurd (omega arith)
first_byte (b ∷ name) mark some = refl

letter_range : (b : ℕ) → is_letter b ≡ true → 57 < b
letter_range b is = grind (arith, nat_tests)

integer_range : (z : ℤ) → FitsSigned w64 z → (45 ≤ get_or (signed_decimal z) 0 0) × (get_or (signed_decimal z) 0 0 ≤ 57)
integer_range (pos n) fits = let digit = first_is_digit n (omega (arith, fits.sfits)) in (omega (arith, digit), omega (arith, digit))
integer_range (negsuc n) fits = (omega arith, omega arith)

letter_first : (name mark : List ℕ) → IsVariable name → 57 < get_or (name ++ mark) 0 0
letter_first name mark is = rw (first_byte name mark is.some) (letter_range _ is.letter)

other_mark : (side : Side) (b c : ℕ) → b ≢ 64 → side_mark side ≡ b ∷ c ∷ [] → ⊥
other_mark First b c other same = other (sym (ap (λ (xs : List ℕ). get_or xs 0 0) same))
other_mark Second b c other same = other (sym (ap (λ (xs : List ℕ). get_or xs 0 0) same))

apart : (side : Side) (name : List ℕ) (value : Value) → IsVariable name → IsValue value → name ++ side_mark side ≡ value_spelling value → ⊥
apart side name Nil is range same = other_mark side 105 108 (omega arith) (sym (mark_found name side) ∙ ap mark_behind same)
apart side name (Truth true) is range same = other_mark side 117 101 (omega arith) (sym (mark_found name side) ∙ ap mark_behind same)
apart side name (Truth false) is range same = other_mark side 115 101 (omega arith) (sym (mark_found name side) ∙ ap mark_behind same)
apart side name (Int z) is range same =
    let first = ap (λ (xs : List ℕ). get_or xs 0 0) same in
    omega (arith, letter_first name (side_mark side) is, (integer_range z range).1, first)
apart side name (Text text) is range same =
    let first : get_or (name ++ side_mark side) 0 0 ≡ 34 = ap (λ (xs : List ℕ). get_or xs 0 0) same in
    omega (arith, letter_first name (side_mark side) is, first)

-- a variable with its side is no value's spelling, so the test of variables leaves it
only_variable : (bytes : List ℕ) (value : Value) (found : Option Said) → variable_of bytes ≡ found → IfSome found (SaysVariable bytes)
    → IsValue value → bytes ≡ value_spelling value → variable_of bytes ≡ None
only_variable bytes value None is says range same = is
only_variable bytes value (Some (Variable side name)) is says range same = absurd (apart side name value says.0 range (sym says.1 ∙ same))
only_variable bytes value (Some (ValueTerm other)) is says range same = absurd says

-- a term is found in its bytes
pub term_found : (bytes : List ℕ) (said : Said) → SaysTerm bytes said → term_of bytes ≡ Some said
unfolding term_of
term_found bytes (Variable side name) says =
    let found : variable_of bytes ≡ Some (Variable side name) = ap variable_of says.1 ∙ variable_found side name says.0 in
    rw found refl
term_found bytes (ValueTerm value) says =
    let none = only_variable bytes value (variable_of bytes) refl (variable_said bytes) says.0 says.1 in
    rw none (ap (option_map (λ value. ValueTerm value)) (ap value_of says.1 ∙ value_found value says.0))

-- what is found is a term that the bytes say
pub term_said : (bytes : List ℕ) → IfSome (term_of bytes) (SaysTerm bytes)
unfolding term_of
term_said bytes =
    if_some (SaysTerm bytes) _ (variable_of bytes) _ (λ _. variable_term bytes (variable_of bytes) (variable_said bytes))
    (map_found (SaysTerm bytes) (λ value. ValueTerm value) (value_of bytes) (found_said bytes))

pub said_term : (bytes : List ℕ) (said : Said) → term_of bytes ≡ Some said → SaysTerm bytes said
said_term bytes said found = MatchOption-at_some ⊤ (SaysTerm bytes) said found (term_said bytes)

pub one_term : (bytes : List ℕ) (s t : Said) → SaysTerm bytes s → SaysTerm bytes t → s ≡ t
one_term bytes s t first second = same_Some s t (sym (term_found bytes s first) ∙ term_found bytes t second)

-- a variable is found in its bytes alone
pub variable_says : (bytes name : List ℕ) (side : Side) → variable_of bytes ≡ Some (Variable side name) → SaysTerm bytes (Variable side name)
variable_says bytes name side found = MatchOption-at_some ⊤ (SaysVariable bytes) (Variable side name) found (variable_said bytes)

pub no_variable : (bytes : List ℕ) → variable_of bytes ≡ None → (side : Side) (name : List ℕ) → ¬ (SaysTerm bytes (Variable side name))
no_variable bytes none side name says =
    none-some (Variable side name) (sym none ∙ ap variable_of says.1 ∙ variable_found side name says.0)

-- the test of a variable with its side tells it
pub sided_told : (bytes : List ℕ)
    → ((is_some (variable_of bytes) ≡ true) × ((side : Side) × (name : List ℕ) × SaysTerm bytes (Variable side name)))
    ⊎ ((is_some (variable_of bytes) ≡ false) × ((side : Side) (name : List ℕ) → ¬ (SaysTerm bytes (Variable side name))))
sided_told bytes = told (variable_of bytes) refl (variable_said bytes) where
  told : (found : Option Said) → variable_of bytes ≡ found → IfSome found (SaysVariable bytes)
      → ((is_some (variable_of bytes) ≡ true) × ((side : Side) × (name : List ℕ) × SaysTerm bytes (Variable side name)))
      ⊎ ((is_some (variable_of bytes) ≡ false) × ((side : Side) (name : List ℕ) → ¬ (SaysTerm bytes (Variable side name))))
  told None is says = inr (ap is_some is, no_variable bytes is)
  told (Some (Variable side name)) is says = inl (ap is_some is, (side, name, says))
  told (Some (ValueTerm value)) is says = absurd says

-- where variables have no side

-- no variable is a kept word, and its first byte is that of no other value
kept_word : (bytes word : List ℕ) → IsVariable bytes → is_variable word ≡ false → bytes ≢ word
kept_word bytes word is kept same =
    let clash : false ≡ true = sym kept ∙ ap is_variable (sym same) ∙ (variable_decides bytes).1 is in cc

pub bare_no_value : (bytes : List ℕ) → IsVariable bytes → (value : Value) → IsValue value → bytes ≢ value_spelling value
bare_no_value bytes is Nil range same = kept_word bytes (codes "nil") is refl same
bare_no_value bytes is (Truth true) range same = kept_word bytes (codes "true") is refl same
bare_no_value bytes is (Truth false) range same = kept_word bytes (codes "false") is refl same
bare_no_value bytes is (Int z) range same =
    let first = ap (λ (xs : List ℕ). get_or xs 0 0) same in
    omega (arith, letter_range (get_or bytes 0 0) is.letter, (integer_range z range).1, first)
bare_no_value bytes is (Text text) range same =
    let first : get_or bytes 0 0 ≡ 34 = ap (λ (xs : List ℕ). get_or xs 0 0) same in
    omega (arith, letter_range (get_or bytes 0 0) is.letter, first)

-- nor is it one with its side
mark_refused : (name : List ℕ) (side : Side) → list_all is_variable_byte (name ++ side_mark side) ≡ true → ⊥
mark_refused [] First all = cc
mark_refused [] Second all = cc
mark_refused (b ∷ name) side all = mark_refused name side (and_parts _ _ all).1

pub bare_no_side : (bytes : List ℕ) → IsVariable bytes → (side : Side) (name : List ℕ) → ¬ (SaysTerm bytes (Variable side name))
bare_no_side bytes is side name says =
    mark_refused name side (subst (λ xs. list_all is_variable_byte xs ≡ true) says.1 (list_all-from_AllPass is_variable_byte bytes is.each))

pub bare_told : (bytes : List ℕ)
    → ((is_variable bytes ≡ true) × IsVariable bytes) ⊎ ((is_variable bytes ≡ false) × ¬ (IsVariable bytes))
bare_told bytes = told (is_variable bytes) refl where
  told : (test : Bool) → is_variable bytes ≡ test
      → ((is_variable bytes ≡ true) × IsVariable bytes) ⊎ ((is_variable bytes ≡ false) × ¬ (IsVariable bytes))
  told true is = inl (is, (variable_decides bytes).0 is)
  told false is = inr (is, λ variable. kept_word bytes bytes variable is refl)

pub bare_of_test : (bytes : List ℕ) → is_variable bytes ≡ true → IsVariable bytes
bare_of_test bytes test = (variable_decides bytes).0 test

pub no_bare : (bytes : List ℕ) → is_variable bytes ≡ false → (side : Side) (name : List ℕ) → ¬ (SaysUnsided bytes (Variable side name))
no_bare bytes none First name says = kept_word name bytes says.0 none (sym says.1)
no_bare bytes none Second name says = absurd says

unsided_found : (bytes : List ℕ) (said : Said) → SaysUnsided bytes said → unsided_term_of bytes ≡ Some said
unfolding unsided_term_of
unsided_found bytes (Variable First name) says =
    let found : is_variable bytes ≡ true = ap is_variable says.1 ∙ (variable_decides name).1 says.0 in
    rw found (ap (λ xs. Some (Variable First xs)) says.1)
unsided_found bytes (Variable Second name) says = absurd says
unsided_found bytes (ValueTerm value) says =
    let none : is_variable bytes ≡ false =
    false_from_ne_true _ (λ test. bare_no_value bytes ((variable_decides bytes).0 test) value says.0 says.1) in
    rw none (ap (option_map (λ value. ValueTerm value)) (ap value_of says.1 ∙ value_found value says.0))

unsided_said : (bytes : List ℕ) → IfSome (unsided_term_of bytes) (SaysUnsided bytes)
unfolding unsided_term_of
unsided_said bytes =
    if_some (SaysUnsided bytes) _ (Some (Variable First bytes)) _ (λ test. ((variable_decides bytes).0 test, refl))
    (map_found (SaysUnsided bytes) (λ value. ValueTerm value) (value_of bytes) (found_said bytes))

-- terms by what the words may speak of
pub term_found_in : (dialect : Dialect) (bytes : List ℕ) (said : Said) → SaysTermIn dialect bytes said → term_in dialect bytes ≡ Some said
term_found_in Sided bytes said says = term_found bytes said says
term_found_in Named bytes said says = term_found bytes said says
term_found_in Unsided bytes said says = unsided_found bytes said says

term_said_in : (dialect : Dialect) (bytes : List ℕ) → IfSome (term_in dialect bytes) (SaysTermIn dialect bytes)
term_said_in Sided bytes = term_said bytes
term_said_in Named bytes = term_said bytes
term_said_in Unsided bytes = unsided_said bytes

pub said_term_in : (dialect : Dialect) (bytes : List ℕ) (said : Said) → term_in dialect bytes ≡ Some said → SaysTermIn dialect bytes said
said_term_in dialect bytes said found =
    MatchOption-at_some ⊤ (SaysTermIn dialect bytes) said found (term_said_in dialect bytes)

pub one_term_in : (dialect : Dialect) (bytes : List ℕ) (s t : Said) → SaysTermIn dialect bytes s → SaysTermIn dialect bytes t → s ≡ t
one_term_in dialect bytes s t first second =
    same_Some s t (sym (term_found_in dialect bytes s first) ∙ term_found_in dialect bytes t second)

-- words that are no terms: no variable with its side, and a first byte that no other value has
abbrev has_other_first : ℕ → Bool
has_other_first b = not (b == 34) && (nat_lt b 45 || nat_lt 57 b)

abbrev is_other : List ℕ → Bool
is_other word =
    has_other_first (slice_index word 0) && (not (bytes_eq word (codes "nil")) && (not (bytes_eq word (codes "true")) && not (bytes_eq word (codes "false"))))

abbrev pub IsNoTerm : List ℕ → Type 0
IsNoTerm word = (variable_of word ≡ None) × (is_other word ≡ true)

inside_first : (b : ℕ) → 45 ≤ b → b ≤ 57 → has_other_first b ≡ true → ⊥
inside_first b low high other = grind (arith, nat_tests)

no_value : (value : Value) → IsValue value → is_other (value_spelling value) ≡ true → ⊥
no_value Nil range other = cc
no_value (Truth true) range other = cc
no_value (Truth false) range other = cc
no_value (Int z) range other =
    let first = integer_range z range in inside_first (get_or (signed_decimal z) 0 0) first.0 first.1 (and_parts _ _ other).0
no_value (Text text) range other = cc

says_none : (word : List ℕ) → IsNoTerm word → (said : Said) → ¬ (SaysTerm word said)
says_none word none (Variable side name) says =
    none-some (Variable side name) (sym none.0 ∙ ap variable_of says.1 ∙ variable_found side name says.0)
says_none word none (ValueTerm value) says = no_value value says.0 (subst (λ word. is_other word ≡ true) says.1 none.1)

pub no_term : (bytes word : List ℕ) → IsNoTerm word → IsTerm bytes → bytes ≢ word
no_term bytes word none is same = says_none word none is.0 (subst (λ bytes. SaysTerm bytes is.0) same is.1)

-- the same of what a call answers
some_of : (dialect : Dialect) (bytes : List ℕ) (found : Option Said) → found ≡ term_in dialect bytes → IfSome found (SaysTermIn dialect bytes)
some_of dialect bytes found is = subst (λ found. IfSome found (SaysTermIn dialect bytes)) (sym is) (term_said_in dialect bytes)

none_of : (dialect : Dialect) (bytes : List ℕ) (found : Option Said) → found ≡ term_in dialect bytes
    → IfNone found ((said : Said) → ¬ (SaysTermIn dialect bytes said))
none_of dialect bytes (Some said) is = tt
none_of dialect bytes None is = λ said says. none-some said (is ∙ term_found_in dialect bytes said says)

pub ok_some : {E : Type 0} (dialect : Dialect) (bytes : List ℕ) (result : Result (Option Said) E)
    → IfOk result (λ found. found ≡ term_in dialect bytes) → IfOk result (λ found. IfSome found (SaysTermIn dialect bytes))
ok_some dialect bytes result = IfOk-weaker result _ _ (some_of dialect bytes)

pub ok_none : {E : Type 0} (dialect : Dialect) (bytes : List ℕ) (result : Result (Option Said) E)
    → IfOk result (λ found. found ≡ term_in dialect bytes) → IfOk result (λ found. IfNone found ((said : Said) → ¬ (SaysTermIn dialect bytes said)))
ok_none dialect bytes result = IfOk-weaker result _ _ (none_of dialect bytes)

-- where the dialect is told
pub found_in : {E : Type 0} (dialect told : Dialect) (bytes : List ℕ) (result : Result (Option Said) E) → dialect ≡ told
    → IfOk result (λ found. found ≡ term_in told bytes) → IfOk result (λ found. found ≡ term_in dialect bytes)
found_in dialect told bytes result is found = subst (λ dialect. IfOk result (λ found. found ≡ term_in dialect bytes)) (sym is) found

pub found_sided : {E : Type 0} (dialect : Dialect) (bytes : List ℕ) (result : Result (Option Said) E) → (dialect ≡ Sided) ⊎ (dialect ≡ Named)
    → IfOk result (λ found. found ≡ term_of bytes) → IfOk result (λ found. found ≡ term_in dialect bytes)
found_sided dialect bytes result (inl sided) found = found_in dialect Sided bytes result sided found
found_sided dialect bytes result (inr named) found = found_in dialect Named bytes result named found

pub text_spelled : (bytes : List ℕ) → (text : List ℕ) × (value_of bytes ≡ Some (Text text)) → SpellsText bytes
text_spelled bytes found = let said = found_said bytes (Text found.0) found.1 in (found.0, said.0, said.1)
