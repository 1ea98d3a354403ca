-- What the tests of words say.
use Rattle.std.proofs.Common.{◌≡◌, ℕ, List, [], ◌∷◌, length, ◌∙◌, true, false, subst, sym, ap, refl, arith}
use Rattle.std.specs.Prelude.{◌==◌, All}
use Rattle.std.specs.List.{AllByRecursion}
use Rattle.rd_base.proofs.FoundLemmas.{each_by_recursion, each_from_recursion}
use Rattle.rd_tokens.specs.declared.sorts.Token.{Token}
use Rattle.rd_lines.specs.Lines.{LineWord, word_at, words_of}
use Rattle.std.proofs.lemmas.Bool.Decides.{nat_tests}
use Rattle.rd_base.specs.Names.{IsName}
use Rattle.rd_ecl.specs.Variables.{IsVariable, is_variable as variable_test}
use Rattle.rd_ecl.proofs.VariableLemmas.{variable_decides}
use Rattle.rd_tokens.proofs.TermLemmas.{variable_named as named_of_test}

pub variable_named : (bytes : List ℕ) → variable_test bytes ≡ true → IsName bytes
variable_named bytes test = named_of_test bytes test

pub is_variable : (bytes name : List ℕ) → variable_test bytes ≡ true → name ≡ bytes → IsVariable name
is_variable bytes name test same = subst IsVariable (sym same) ((variable_decides bytes).0 test)

pub no_variable : (bytes : List ℕ) → variable_test bytes ≡ false → ¬ (IsVariable bytes)
no_variable bytes test is = let yes : variable_test bytes ≡ true = (variable_decides bytes).1 is in cc

-- the words of tokens that are taken apart
pub no_words : (line : List ℕ) (tokens : List Token) → length tokens ≡ 0 → words_of line tokens ≡ []
no_words line [] none = refl
no_words line (token ∷ tokens) none = absurd (omega (arith, none))

pub first_word : (line : List ℕ) (tokens rest : List Token) (token : Token) → tokens ≡ token ∷ rest
    → words_of line tokens ≡ word_at line token ∷ words_of line rest
first_word line tokens rest token same = ap (words_of line) same

-- words with a first one
pub record HasWord (words : List LineWord) : Type 0 where
  pub first : LineWord
  pub rest : List LineWord
  pub written : words ≡ first ∷ rest

pub some_word : (line : List ℕ) (tokens : List Token) → (length tokens == 0) ≡ false → HasWord (words_of line tokens)
some_word line [] some = absurd (cc)
some_word line (token ∷ tokens) some = record { first = word_at line token; rest = words_of line tokens; written = refl }

-- what holds of each holds of the second
pub second_too : {T : Type 0} (P : T → Type 0) (xs ys zs : List T) (x y : T) → All P xs → xs ≡ x ∷ ys → ys ≡ y ∷ zs → P y
second_too P xs ys zs x y each same next =
    let both : xs ≡ x ∷ y ∷ zs = same ∙ ap (λ (l : List _). x ∷ l) next in
    (subst (λ (l : List _). AllByRecursion P l) both (each_by_recursion P xs each)).1.0

-- and of those behind the first
pub rest_too : {T : Type 0} (P : T → Type 0) (xs ys : List T) (x : T) → All P xs → xs ≡ x ∷ ys → All P ys
rest_too P xs ys x each same = each_from_recursion P ys (subst (λ (l : List _). AllByRecursion P l) same (each_by_recursion P xs each)).1

pub none_left : (line : List ℕ) (tokens : List Token) → (length tokens == 0) ≡ true → words_of line tokens ≡ []
none_left line [] none = refl
none_left line (token ∷ tokens) none = absurd (grind (arith, nat_tests))
