-- What a word is, and what a token.
use Rattle.std.proofs.Common.{◌≡◌, ◌≢◌, ℕ, Bool, true, false, cond, List, codes, refl, sym, ◌∙◌, ap, subst, Option, Some, None, is_some, bytes_eq, ◌⊎◌, inl, inr}
use Rattle.std.specs.Cmp.Lexicographic.{bytes_decides}
use Rattle.std.proofs.lemmas.Bool.{false_from_ne_true}
use Rattle.rd_base.specs.declared.values.Value.TheVariants.{Bool as TruthValue, Text as TextValue}
use Rattle.rd_tokens.specs.declared.sorts.Sort.{Sort}
use Rattle.rd_tokens.specs.declared.sorts.Sort.TheVariants.{Open as OpenToken, Close as CloseToken, Word, Text, Wrong}
use Rattle.rd_tokens.specs.Tokens.{IsToken}
use Rattle.rd_grammar.specs.declared.marks.Leaf.TheVariants.{Name, Truth}
use Rattle.rd_grammar.specs.declared.marks.Sign.TheVariants.{Equal, Different, Less, AtMost}
use Rattle.rd_grammar.specs.declared.marks.Symbol.{Symbol}
use Rattle.rd_grammar.specs.declared.marks.Symbol.TheVariants.{Open, Close, Not, And, Or, Leaf as LeafOf, Sign as SignOf, Term, Other}
use Rattle.rd_grammar.specs.Grammar.{is_term}
use Rattle.rd_tokens.specs.declared.words.terms.Said.{Said}
use Rattle.rd_tokens.specs.declared.words.terms.Said.TheVariants.{Value as ValueTerm}
use Rattle.rd_tokens.specs.ReadingWords.{side_of, variable_of, term_of, other_word, word_of, symbol_of}
use Rattle.rd_tokens.specs.Words.{SaysTerm, IsTerm, IsKnown, IsWord, IsSymbol}
use Rattle.rd_tokens.proofs.TermLemmas.{IsNoTerm, no_term, term_found, said_term}

other_than : (bytes word : List ℕ) → bytes ≢ word → bytes_eq bytes word ≡ false
other_than bytes word other = false_from_ne_true _ (λ same. other ((bytes_decides bytes word).0 same))

-- keywords and signs are no terms
no_not : IsNoTerm (codes "not")
unfolding variable_of side_of
no_not = (refl, refl)

no_and : IsNoTerm (codes "and")
unfolding variable_of side_of
no_and = (refl, refl)

no_or : IsNoTerm (codes "or")
unfolding variable_of side_of
no_or = (refl, refl)

no_equal : IsNoTerm (codes "=")
unfolding variable_of side_of
no_equal = (refl, refl)

no_different : IsNoTerm (codes "!=")
unfolding variable_of side_of
no_different = (refl, refl)

no_less : IsNoTerm (codes "<")
unfolding variable_of side_of
no_less = (refl, refl)

no_at_most : IsNoTerm (codes "<=")
unfolding variable_of side_of
no_at_most = (refl, refl)

term_some : (bytes : List ℕ) → IsTerm bytes → is_some (term_of bytes) ≡ true
term_some bytes is = ap is_some (term_found bytes is.0 is.1)

some_term : (bytes : List ℕ) (found : Option Said) → term_of bytes ≡ found → is_some found ≡ true → IsTerm bytes
some_term bytes (Some said) is some = (said, said_term bytes said is)
some_term bytes None is some = cc

-- a word that formulas have is found
word_found : (bytes : List ℕ) (symbol : Symbol) → IsKnown bytes symbol → word_of bytes ≡ symbol
unfolding word_of other_word
word_found bytes Open is = absurd is
word_found bytes Close is = absurd is
word_found bytes Not is = ap word_of is
word_found bytes And is = ap word_of is
word_found bytes Or is = ap word_of is
word_found bytes (LeafOf (Truth true)) is = ap word_of is
word_found bytes (LeafOf (Truth false)) is = ap word_of is
word_found bytes (LeafOf Name) is = absurd is
word_found bytes (SignOf Equal) is = ap word_of is
word_found bytes (SignOf Different) is = ap word_of is
word_found bytes (SignOf Less) is = ap word_of is
word_found bytes (SignOf AtMost) is = ap word_of is
word_found bytes Term is =
    rw (
      other_than bytes (codes "not") (no_term bytes _ no_not is.0),
      other_than bytes (codes "and") (no_term bytes _ no_and is.0),
      other_than bytes (codes "or") (no_term bytes _ no_or is.0),
      other_than bytes (codes "true") is.1,
      other_than bytes (codes "false") is.2,
      other_than bytes (codes "=") (no_term bytes _ no_equal is.0),
      other_than bytes (codes "!=") (no_term bytes _ no_different is.0),
      other_than bytes (codes "<") (no_term bytes _ no_less is.0),
      other_than bytes (codes "<=") (no_term bytes _ no_at_most is.0),
      term_some bytes is.0,
    ) refl
word_found bytes Other is = absurd is

-- what is found is a word that formulas have, or nothing
abbrev Judged : List ℕ → Symbol → Type 0
Judged bytes symbol = (symbol ≡ Other) ⊎ IsKnown bytes symbol

if_word : (bytes word : List ℕ) (x y : Symbol) → (bytes ≡ word → Judged bytes x) → (bytes ≢ word → Judged bytes y)
    → Judged bytes (cond (bytes_eq bytes word) x y)
if_word bytes word x y here there = choose _ x y (λ test. here ((bytes_decides bytes word).0 test)) (λ test. there (λ same. differs _ ((bytes_decides bytes word).1 same) test)) where
  differs : (test : Bool) → test ≡ true → test ≡ false → ⊥
  differs true is not_so = cc
  differs false is not_so = cc

  choose : (test : Bool) (x y : Symbol) → (test ≡ true → Judged bytes x) → (test ≡ false → Judged bytes y) → Judged bytes (cond test x y)
  choose true x y here there = here refl
  choose false x y here there = there refl

other_judged : (bytes : List ℕ) → bytes ≢ codes "true" → bytes ≢ codes "false" → Judged bytes (other_word bytes)
unfolding other_word
other_judged bytes no_true no_false = choose (is_some (term_of bytes)) (λ some. inr (some_term bytes (term_of bytes) refl some, no_true, no_false)) where
  choose : (test : Bool) → (test ≡ true → Judged bytes Term) → Judged bytes (cond test Term Other)
  choose true here = here refl
  choose false here = inl refl

judged : (bytes : List ℕ) → Judged bytes (word_of bytes)
unfolding word_of
judged bytes =
    if_word bytes (codes "not") Not _ (λ is. inr is) (λ _.
    if_word bytes (codes "and") And _ (λ is. inr is) (λ _.
    if_word bytes (codes "or") Or _ (λ is. inr is) (λ _.
    if_word bytes (codes "true") (LeafOf (Truth true)) _ (λ is. inr is) (λ no_true.
    if_word bytes (codes "false") (LeafOf (Truth false)) _ (λ is. inr is) (λ no_false.
    if_word bytes (codes "=") (SignOf Equal) _ (λ is. inr is) (λ _.
    if_word bytes (codes "!=") (SignOf Different) _ (λ is. inr is) (λ _.
    if_word bytes (codes "<") (SignOf Less) _ (λ is. inr is) (λ _.
    if_word bytes (codes "<=") (SignOf AtMost) _ (λ is. inr is) (λ _.
    other_judged bytes no_true no_false)))))))))

-- each word is what is found
known_word : (bytes : List ℕ) (symbol : Symbol) → IsKnown bytes symbol → IsWord bytes symbol
known_word bytes Open is = is
known_word bytes Close is = is
known_word bytes Not is = is
known_word bytes And is = is
known_word bytes Or is = is
known_word bytes (LeafOf (Truth value)) is = is
known_word bytes (LeafOf Name) is = absurd is
known_word bytes (SignOf sign) is = is
known_word bytes Term is = is
known_word bytes Other is = absurd is

unknown : (bytes : List ℕ) → word_of bytes ≡ Other → IsWord bytes Other
unknown bytes none symbol known = subst (IsKnown bytes) (sym (word_found bytes symbol known) ∙ none) known

pub word_is : (bytes : List ℕ) → IsWord bytes (word_of bytes)
word_is bytes = elim (judged bytes) [
  | inl none ↦ subst (IsWord bytes) (sym none) (unknown bytes none)
  | inr known ↦ known_word bytes (word_of bytes) known
]

one_word : (bytes : List ℕ) (symbol : Symbol) → IsWord bytes symbol → word_of bytes ≡ symbol
one_word bytes Open is = absurd is
one_word bytes Close is = absurd is
one_word bytes Not is = word_found bytes Not is
one_word bytes And is = word_found bytes And is
one_word bytes Or is = word_found bytes Or is
one_word bytes (LeafOf (Truth value)) is = word_found bytes (LeafOf (Truth value)) is
one_word bytes (LeafOf Name) is = absurd is
one_word bytes (SignOf sign) is = word_found bytes (SignOf sign) is
one_word bytes Term is = word_found bytes Term is
one_word bytes Other is = elim (judged bytes) [
  | inl none ↦ none
  | inr known ↦ absurd (is (word_of bytes) known)
]

-- each token is one symbol
symbol_is : (sort : Sort) (bytes : List ℕ) → IsSymbol sort bytes (symbol_of sort bytes)
symbol_is OpenToken bytes = refl
symbol_is CloseToken bytes = refl
symbol_is Word bytes = word_is bytes
symbol_is Text bytes = refl
symbol_is Wrong bytes = refl

symbol_found : (sort : Sort) (bytes : List ℕ) (symbol : Symbol) → IsSymbol sort bytes symbol → symbol_of sort bytes ≡ symbol
symbol_found OpenToken bytes symbol is = sym is
symbol_found CloseToken bytes symbol is = sym is
symbol_found Word bytes symbol is = one_word bytes symbol is
symbol_found Text bytes symbol is = sym is
symbol_found Wrong bytes symbol is = sym is

pub some_symbol : (sort : Sort) (bytes : List ℕ) → (symbol : Symbol) × IsSymbol sort bytes symbol
some_symbol sort bytes = (symbol_of sort bytes, symbol_is sort bytes)

pub one_symbol : (sort : Sort) (bytes : List ℕ) (x y : Symbol) → IsSymbol sort bytes x → IsSymbol sort bytes y → x ≡ y
one_symbol sort bytes x y first second = sym (symbol_found sort bytes x first) ∙ symbol_found sort bytes y second

-- a token that is a term says one
pub no_sort : (x y : Symbol) → x ≡ y → is_term y ≡ false → is_term x ≡ true → ⊥
no_sort x y same none term = let clash : false ≡ true = sym none ∙ ap is_term (sym same) ∙ term in cc

word_said : (bytes : List ℕ) (x : Symbol) → IsWord bytes x → is_term x ≡ true → IsTerm bytes
word_said bytes (LeafOf (Truth true)) is term = (ValueTerm (TruthValue true), (tt, is))
word_said bytes (LeafOf (Truth false)) is term = (ValueTerm (TruthValue false), (tt, is))
word_said bytes (LeafOf Name) is term = absurd is
word_said bytes Term is term = is.0
word_said bytes Open is term = absurd is
word_said bytes Close is term = absurd is
word_said bytes Not is term = absurd (no_sort Not Not refl refl term)
word_said bytes And is term = absurd (no_sort And And refl refl term)
word_said bytes Or is term = absurd (no_sort Or Or refl refl term)
word_said bytes (SignOf sign) is term = absurd (no_sort (SignOf sign) (SignOf sign) refl refl term)
word_said bytes Other is term = absurd (no_sort Other Other refl refl term)

pub token_said : (sort : Sort) (bytes behind : List ℕ) (x : Symbol) → IsToken sort bytes behind → IsSymbol sort bytes x → is_term x ≡ true → IsTerm bytes
token_said OpenToken bytes behind x token is term = absurd (no_sort x Open is refl term)
token_said CloseToken bytes behind x token is term = absurd (no_sort x Close is refl term)
token_said Word bytes behind x token is term = word_said bytes x is term
token_said Text bytes behind x token is term = (ValueTerm (TextValue token.0), (token.1, token.2))
token_said Wrong bytes behind x token is term = absurd (no_sort x Other is refl term)

-- a word that says a term is one
pub term_word : (bytes : List ℕ) (x : Symbol) → IsTerm bytes → IsWord bytes x → is_term x ≡ true
term_word bytes (LeafOf (Truth value)) term is = refl
term_word bytes (LeafOf Name) term is = absurd is
term_word bytes Term term is = refl
term_word bytes Open term is = absurd is
term_word bytes Close term is = absurd is
term_word bytes Not term is = absurd (no_term bytes _ no_not term is)
term_word bytes And term is = absurd (no_term bytes _ no_and term is)
term_word bytes Or term is = absurd (no_term bytes _ no_or term is)
term_word bytes (SignOf Equal) term is = absurd (no_term bytes _ no_equal term is)
term_word bytes (SignOf Different) term is = absurd (no_term bytes _ no_different term is)
term_word bytes (SignOf Less) term is = absurd (no_term bytes _ no_less term is)
term_word bytes (SignOf AtMost) term is = absurd (no_term bytes _ no_at_most term is)
term_word bytes Other term is = absurd (is Term (term, is (LeafOf (Truth true)), is (LeafOf (Truth false))))

-- the words true and false say their values
pub truth_said : (bytes : List ℕ) (value : Bool)
    → (IsSymbol Word bytes (LeafOf (Truth value)) → SaysTerm bytes (ValueTerm (TruthValue value))) × (SaysTerm bytes (ValueTerm (TruthValue value)) → IsSymbol Word bytes (LeafOf (Truth value)))
truth_said bytes true = (λ is. (tt, is), λ says. says.1)
truth_said bytes false = (λ is. (tt, is), λ says. says.1)
