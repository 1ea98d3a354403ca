-- The words of each line are sound.
use Rattle.std.proofs.Common.{◌≡◌, ℕ, zero, suc, ◌+◌, ◌-◌, ◌<◌, ◌≤◌, true, List, [], ◌∷◌, ◌++◌, codes, length, map, flat_map, get_or, refl, sym, subst, arith, Option, Some, None}
use Rattle.std.specs.Prelude.{All, option_map, slice_get, unwrap_or}
use Rattle.std.specs.List.{AllByRecursion, list_all, range_with_len}
use Rattle.std.proofs.lemmas.Bool.Decides.{nat_tests}
use Rattle.std.proofs.lemmas.List.Elements.{All-weaker}
use Rattle.std.proofs.lemmas.List.Sums.{AllPass-from_list_all}
use Rattle.std.proofs.lemmas.Option.{slice_get-get_or}
use Rattle.rd_base.specs.Names.{IsName, is_name_byte}
use Rattle.rd_base.proofs.FoundLemmas.{each_by_recursion, each_from_recursion}
use Rattle.rd_print.specs.declared.canonical.word_list.PrintedWord.{PrintedWord}
use Rattle.rd_print.specs.Canonical.{plain_word, canonical_words}
use Rattle.rd_ecl.specs.declared.kinds.Method.{Method}
use Rattle.rd_ecl.specs.Formulas.{Tree, AreValues, Fits}
use Rattle.rd_ecl.specs.Specified.{IsKind, IsMethod, SpecifiedKind, formula_at, slots_at}
use Rattle.rd_ecl.specs.Variables.{IsVariable, is_variable_byte}
use Rattle.rd_tokens.specs.Tokens.{is_word_byte}
use Rattle.rd_print.specs.Text.{IsRightWord}
use Rattle.rd_print.proofs.TextSoundLemmas.{AreSound, formula_sound}
use Rattle.rd_print.specs.Printed.{block_lines, commute_words, formula_words, printed_header, kind_words, method_words, name_at, pairs_of, slot_words, spec_lines, variables_at}

-- names and variables
name_byte : (b : ℕ) → is_name_byte b ≡ true → is_word_byte b ≡ true
name_byte b is = grind (arith, nat_tests)

name_sound : (name : List ℕ) → IsName name → IsRightWord (plain_word name)
name_sound name is = (is.some, All-weaker _ _ name_byte name is.each)

variable_byte : (b : ℕ) → is_variable_byte b ≡ true → is_word_byte b ≡ true
variable_byte b is = grind (arith, nat_tests)

variable_sound : (name : List ℕ) → IsVariable name → IsRightWord (plain_word name)
variable_sound name is = (is.some, All-weaker _ _ variable_byte name is.each)

written_sound : (bytes : List ℕ) → 0 < length bytes → list_all is_word_byte bytes ≡ true → IsRightWord (plain_word bytes)
written_sound bytes some all = (some, AllPass-from_list_all is_word_byte bytes all)

-- a method
slots_sound : (variables : List (List ℕ)) → AllByRecursion IsVariable variables → AreSound (slot_words variables)
slots_sound [] each = tt
slots_sound (last ∷ []) each = (written_sound (codes "->") (omega arith) refl, (variable_sound last each.0, tt))
slots_sound (argument ∷ next ∷ more) each = (variable_sound argument each.0, slots_sound (next ∷ more) each.1)

line_sound : (words : List PrintedWord) → AreSound words → All IsRightWord words
line_sound words each = each_from_recursion IsRightWord words each

pub method_sound : (method : Method) → IsName method.name → IsMethod method → All IsRightWord (method_words method)
method_sound method name is =
    line_sound (method_words method)
    (written_sound (codes "method") (omega arith) refl, (name_sound method.name name, slots_sound method.variables (each_by_recursion IsVariable method.variables is.each)))

-- lists of lines
each_two : {X : Type 0} (P : X → Type 0) (xs ys : List X) → AllByRecursion P xs → AllByRecursion P ys → AllByRecursion P (xs ++ ys)
each_two P [] ys here there = there
each_two P (x ∷ xs) ys here there = (here.0, each_two P xs ys here.1 there)

each_flat : {X Y : Type 0} (P : Y → Type 0) (f : X → List Y) (xs : List X) → AllByRecursion (λ x. AllByRecursion P (f x)) xs → AllByRecursion P (flat_map f xs)
each_flat P f [] each = tt
each_flat P f (x ∷ xs) each = each_two P (f x) (flat_map f xs) each.0 (each_flat P f xs each.1)

each_map : {X Y : Type 0} (P : Y → Type 0) (f : X → Y) (xs : List X) → AllByRecursion (λ x. P (f x)) xs → AllByRecursion P (map f xs)
each_map P f [] each = tt
each_map P f (x ∷ xs) each = (each.0, each_map P f xs each.1)

each_number : (P : ℕ → Type 0) (a n : ℕ) → ((x : ℕ) → a ≤ x → x < a + n → P x) → AllByRecursion P (range_with_len a n)
each_number P a zero each = tt
each_number P a (suc n) each =
    (each a (omega arith) (omega arith), each_number P (a + 1) n (λ x low high. each x (omega arith) (omega arith)))

each_pair : (P : ℕ × ℕ → Type 0) (count : ℕ) → ((first second : ℕ) → first ≤ second → second < count → P (first, second)) → AllByRecursion P (pairs_of count)
each_pair P count each =
    each_flat P (λ first. map (λ second. (first, second)) (range_with_len first (count - first))) (range_with_len 0 count)
    (each_number (λ first. AllByRecursion P (map (λ second. (first, second)) (range_with_len first (count - first)))) 0 count
    (λ first low high. each_map P (λ second. (first, second)) (range_with_len first (count - first))
    (each_number (λ second. P (first, second)) first (count - first) (λ second above below. each first second above (omega arith)))))

-- the methods of a pair
no_method : Method
no_method = record { name = []; variables = [] }

pub name_at_is : (methods : List Method) (n : ℕ) → n < length methods → All (λ method. IsName method.name) methods → IsName (name_at methods n)
name_at_is methods n within names =
    subst (λ (o : Option Method). IsName (unwrap_or (option_map (λ method. method.name) o) [])) (sym (slice_get-get_or methods n no_method within))
    (names n no_method within)

variables_at_are : (methods : List Method) (n : ℕ) → n < length methods → All IsMethod methods → All IsVariable (variables_at methods n)
variables_at_are methods n within each =
    subst (λ (o : Option Method). All IsVariable (unwrap_or (option_map (λ method. method.variables) o) []))
    (sym (slice_get-get_or methods n no_method within)) ((each n no_method within).each)

count_at : (o : Option Method) → length (unwrap_or (option_map (λ method. method.variables) o) []) ≡ unwrap_or (option_map (λ method. length method.variables) o) 0
count_at (Some method) = refl
count_at None = refl

-- the formula of a pair
some_sound : (first second : List (List ℕ)) (o : Option Tree) → All IsVariable first → All IsVariable second
    → ((f : Tree) → o ≡ Some f → Fits f (length first) (length second)) → ((f : Tree) → o ≡ Some f → AreValues f)
    → AreSound (unwrap_or (option_map (canonical_words first second) o) [])
some_sound first second (Some f) firsts seconds fits values =
    each_by_recursion IsRightWord (canonical_words first second f) (formula_sound first second f firsts seconds (fits f refl) (values f refl))
some_sound first second None firsts seconds fits values = tt

formula_words_sound : (kind : SpecifiedKind) (first second : ℕ) → first < length kind.methods → second < length kind.methods → IsKind kind
    → AreSound (formula_words kind first second)
formula_words_sound kind first second here there is =
    let each = is.draft.methods.each in
    some_sound (variables_at kind.methods first) (variables_at kind.methods second) (formula_at kind first second)
    (variables_at_are kind.methods first here each) (variables_at_are kind.methods second there each)
    (λ f set. subst (λ (n : ℕ). Fits f n (length (variables_at kind.methods second))) (sym (count_at (slice_get kind.methods first)))
    (subst (λ (n : ℕ). Fits f (slots_at kind.methods first) n) (sym (count_at (slice_get kind.methods second))) ((is.draft.pairs.each first second f set).fits)))
    (λ f set. (is.draft.pairs.each first second f set).values)

pub commute_sound : (kind : SpecifiedKind) → IsKind kind → (first second : ℕ) → first ≤ second → second < length kind.methods
    → All IsRightWord (commute_words kind (first, second))
commute_sound kind is first second ordered within =
    let names = is.draft.methods.named in
    let here : first < length kind.methods = omega arith in
    line_sound (commute_words kind (first, second)) (
      written_sound (codes "commute") (omega arith) refl,
      (
        name_sound (name_at kind.methods first) (name_at_is kind.methods first here names),
        (
          name_sound (name_at kind.methods second) (name_at_is kind.methods second within names),
          (written_sound (codes "when") (omega arith) refl, formula_words_sound kind first second here within is),
        ),
      ),
    )

-- a kind
pub kind_sound : (kind : SpecifiedKind) → IsKind kind → AllByRecursion (All IsRightWord) (block_lines kind)
kind_sound kind is = (
  line_sound (kind_words kind) (written_sound (codes "kind") (omega arith) refl, (name_sound kind.name is.draft.name, tt)),
  each_two (All IsRightWord) (map method_words kind.methods) (map (commute_words kind) (pairs_of (length kind.methods)))
      (each_map (All IsRightWord) method_words kind.methods
      (each_by_recursion (λ method. All IsRightWord (method_words method)) kind.methods
      (λ k d inside. method_sound (get_or kind.methods k d) (is.draft.methods.named k d inside) (is.draft.methods.each k d inside))))
      (each_map (All IsRightWord) (commute_words kind) (pairs_of (length kind.methods))
      (each_pair (λ pair. All IsRightWord (commute_words kind pair)) (length kind.methods) (commute_sound kind is))),
)

pub lines_sound : (kinds : List SpecifiedKind) → All IsKind kinds → All (All IsRightWord) (spec_lines kinds)
lines_sound kinds are =
    each_from_recursion (All IsRightWord) (spec_lines kinds) (
      line_sound printed_header (written_sound (codes "rdspec") (omega arith) refl, (written_sound (codes "1") (omega arith) refl, tt)),
      each_flat (All IsRightWord) block_lines kinds
          (each_by_recursion (λ kind. AllByRecursion (All IsRightWord) (block_lines kind)) kinds
          (λ k d inside. kind_sound (get_or kinds k d) (are k d inside))),
    )
