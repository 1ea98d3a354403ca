-- What a word is and what it says, by what the words may speak of.
use Rattle.std.proofs.Common.{◌≡◌, ◌≢◌, ℕ, Bool, true, false, List, refl, sym, ◌∙◌, ap, subst, inl, inr}
use Rattle.rd_base.specs.declared.values.Value.{Value}
use Rattle.rd_base.specs.declared.values.Value.TheVariants.{Bool as TruthValue, Text as TextValue}
use Rattle.rd_tokens.specs.declared.sorts.Sort.{Sort}
use Rattle.rd_tokens.specs.declared.sorts.Sort.TheVariants.{Open as OpenToken, Close as CloseToken, Word, Text, Wrong}
use Rattle.rd_tokens.specs.Tokens.{IsToken}
use Rattle.rd_ecl.specs.Variables.{IsVariable, is_variable}
use Rattle.rd_ecl.specs.declared.formulas.Side.TheVariants.{First, Second}
use Rattle.rd_grammar.specs.declared.marks.Leaf.TheVariants.{Name, Truth}
use Rattle.rd_grammar.specs.declared.marks.Symbol.{Symbol}
use Rattle.rd_grammar.specs.declared.marks.Symbol.TheVariants.{Open, Close, Leaf as LeafOf, Term, Other}
use Rattle.rd_grammar.specs.Grammar.{is_term}
use Rattle.rd_tokens.specs.declared.words.dialects.Dialect.{Dialect}
use Rattle.rd_tokens.specs.declared.words.dialects.Dialect.TheVariants.{Sided, Named, Unsided}
use Rattle.rd_tokens.specs.declared.words.terms.Said.TheVariants.{Variable, Value as ValueTerm}
use Rattle.rd_tokens.specs.ReadingWords.{named_word, unsided_word, symbol_in}
use Rattle.rd_tokens.specs.Words.{SaysTerm, SaysTermIn, IsTerm, IsTermIn, IsSymbol, IsSymbolIn, IsSidedWord, IsBareWord}
use Rattle.rd_tokens.proofs.TermLemmas.{sided_told, bare_told, bare_no_side, bare_no_value, one_term}
use Rattle.rd_tokens.proofs.WordLemmas.{word_is, one_symbol, no_sort, token_said, term_word, truth_said}

-- no word is a variable with a side and without one, nor one with a side and a value
not_both : (sort : Sort) (bytes : List ℕ) → IsBareWord sort bytes → ¬ (IsSidedWord sort bytes)
not_both sort bytes bare sided = bare_no_side bytes bare.1 sided.1.0 sided.1.1 sided.1.2

sided_no_value : (sort : Sort) (bytes : List ℕ) (value : Value) → SaysTerm bytes (ValueTerm value) → ¬ (IsSidedWord sort bytes)
sided_no_value sort bytes value says sided =
    let clash : Variable sided.1.0 sided.1.1 ≡ ValueTerm value = one_term bytes _ _ sided.1.2 says in cc

-- each word is what is found
named_is : (bytes : List ℕ) → IsSymbolIn Named Word bytes (named_word bytes)
unfolding named_word
named_is bytes = elim (sided_told bytes) [
  | inl sided ↦ rw sided.0 (inl ((refl, sided.1), refl))
  | inr none ↦ rw none.0 (inr (λ sided. none.1 sided.1.0 sided.1.1 sided.1.2, word_is bytes))
]

not_bare_is : (bytes : List ℕ) → is_variable bytes ≡ false → ¬ (IsVariable bytes) → IsSymbolIn Unsided Word bytes (unsided_word bytes)
unfolding unsided_word
not_bare_is bytes test no_bare = elim (sided_told bytes) [
  | inl sided ↦ rw (test, sided.0) (inr (inl ((refl, sided.1), refl)))
  | inr none ↦
      rw (test, none.0) (inr (inr (λ bare. no_bare bare.1, λ sided. none.1 sided.1.0 sided.1.1 sided.1.2, word_is bytes)))
]

unsided_is : (bytes : List ℕ) → IsSymbolIn Unsided Word bytes (unsided_word bytes)
unfolding unsided_word
unsided_is bytes = elim (bare_told bytes) [
  | inl bare ↦ rw bare.0 (inl ((refl, bare.1), refl))
  | inr none ↦ not_bare_is bytes none.0 none.1
]

-- each token is one symbol
other_sort : (dialect : Dialect) (sort : Sort) (bytes : List ℕ) (x : Symbol) → sort ≢ Word → IsSymbol sort bytes x → IsSymbolIn dialect sort bytes x
other_sort Sided sort bytes x other is = is
other_sort Named sort bytes x other is = inr (λ sided. other sided.0, is)
other_sort Unsided sort bytes x other is = inr (inr (λ bare. other bare.0, λ sided. other sided.0, is))

pub symbol_is_in : (dialect : Dialect) (sort : Sort) (bytes : List ℕ) → IsSymbolIn dialect sort bytes (symbol_in dialect sort bytes)
symbol_is_in Sided Word bytes = word_is bytes
symbol_is_in Named Word bytes = named_is bytes
symbol_is_in Unsided Word bytes = unsided_is bytes
symbol_is_in dialect OpenToken bytes = other_sort dialect OpenToken bytes Open (λ same. cc) refl
symbol_is_in dialect CloseToken bytes = other_sort dialect CloseToken bytes Close (λ same. cc) refl
symbol_is_in dialect Text bytes = other_sort dialect Text bytes Term (λ same. cc) refl
symbol_is_in dialect Wrong bytes = other_sort dialect Wrong bytes Other (λ same. cc) refl

-- the same of what a call answers, where the dialect and the sort are told
pub found_is : (dialect told : Dialect) (sort kind : Sort) (bytes : List ℕ) (x : Symbol) → dialect ≡ told → sort ≡ kind
    → x ≡ symbol_in told kind bytes → IsSymbolIn dialect sort bytes x
found_is dialect told sort kind bytes x same alike found =
    subst (λ dialect. IsSymbolIn dialect sort bytes x) (sym same) (subst (λ sort. IsSymbolIn told sort bytes x) (sym alike)
    (subst (IsSymbolIn told kind bytes) (sym found) (symbol_is_in told kind bytes)))

pub some_symbol_in : (dialect : Dialect) (sort : Sort) (bytes : List ℕ) → (symbol : Symbol) × IsSymbolIn dialect sort bytes symbol
some_symbol_in dialect sort bytes = (symbol_in dialect sort bytes, symbol_is_in dialect sort bytes)

pub one_symbol_in : (dialect : Dialect) (sort : Sort) (bytes : List ℕ) (x y : Symbol) → IsSymbolIn dialect sort bytes x
    → IsSymbolIn dialect sort bytes y → x ≡ y
one_symbol_in Sided sort bytes x y one two = one_symbol sort bytes x y one two
one_symbol_in Named sort bytes x y (inl one) (inl two) = one.1 ∙ sym two.1
one_symbol_in Named sort bytes x y (inl one) (inr two) = absurd (two.0 one.0)
one_symbol_in Named sort bytes x y (inr one) (inl two) = absurd (one.0 two.0)
one_symbol_in Named sort bytes x y (inr one) (inr two) = one_symbol sort bytes x y one.1 two.1
one_symbol_in Unsided sort bytes x y (inl one) (inl two) = one.1 ∙ sym two.1
one_symbol_in Unsided sort bytes x y (inl one) (inr (inl two)) = absurd (not_both sort bytes one.0 two.0)
one_symbol_in Unsided sort bytes x y (inl one) (inr (inr two)) = absurd (two.0 one.0)
one_symbol_in Unsided sort bytes x y (inr (inl one)) (inl two) = absurd (not_both sort bytes two.0 one.0)
one_symbol_in Unsided sort bytes x y (inr (inl one)) (inr (inl two)) = one.1 ∙ sym two.1
one_symbol_in Unsided sort bytes x y (inr (inl one)) (inr (inr two)) = absurd (two.1 one.0)
one_symbol_in Unsided sort bytes x y (inr (inr one)) (inl two) = absurd (one.0 two.0)
one_symbol_in Unsided sort bytes x y (inr (inr one)) (inr (inl two)) = absurd (one.1 two.0)
one_symbol_in Unsided sort bytes x y (inr (inr one)) (inr (inr two)) = one_symbol sort bytes x y one.2 two.2

-- a token that is a term says one
bare_term : (bytes : List ℕ) → ¬ (IsSidedWord Word bytes) → IsTerm bytes → IsTermIn Unsided bytes
bare_term bytes none (Variable side name, says) = absurd (none (refl, (side, name, says)))
bare_term bytes none (ValueTerm value, says) = (ValueTerm value, says)

unsided_said : (sort : Sort) (bytes behind : List ℕ) (x : Symbol) → IsToken sort bytes behind → ¬ (IsSidedWord sort bytes)
    → IsSymbol sort bytes x → is_term x ≡ true → IsTermIn Unsided bytes
unsided_said OpenToken bytes behind x token none is term = absurd (no_sort x Open is refl term)
unsided_said CloseToken bytes behind x token none is term = absurd (no_sort x Close is refl term)
unsided_said Word bytes behind x token none is term = bare_term bytes none (token_said Word bytes behind x token is term)
unsided_said Text bytes behind x token none is term = (ValueTerm (TextValue token.0), (token.1, token.2))
unsided_said Wrong bytes behind x token none is term = absurd (no_sort x Other is refl term)

pub token_said_in : (dialect : Dialect) (sort : Sort) (bytes behind : List ℕ) (x : Symbol) → IsToken sort bytes behind
    → IsSymbolIn dialect sort bytes x → is_term x ≡ true → IsTermIn dialect bytes
token_said_in Sided sort bytes behind x token is term = token_said sort bytes behind x token is term
token_said_in Named sort bytes behind x token (inl is) term = (Variable is.0.1.0 is.0.1.1, is.0.1.2)
token_said_in Named sort bytes behind x token (inr is) term = token_said sort bytes behind x token is.1 term
token_said_in Unsided sort bytes behind x token (inl is) term = (Variable First bytes, (is.0.1, refl))
token_said_in Unsided sort bytes behind x token (inr (inl is)) term = absurd (no_sort x Other is.1 refl term)
token_said_in Unsided sort bytes behind x token (inr (inr is)) term = unsided_said sort bytes behind x token is.1 is.2 term

-- a word that says a term is one
not_sided : (bytes : List ℕ) → IsTermIn Unsided bytes → ¬ (IsSidedWord Word bytes)
not_sided bytes (Variable First name, says) sided = not_both Word bytes (refl, subst IsVariable (sym says.1) says.0) sided
not_sided bytes (Variable Second name, says) sided = absurd says
not_sided bytes (ValueTerm value, says) sided = sided_no_value Word bytes value says sided

sided_term : (bytes : List ℕ) → ¬ (IsBareWord Word bytes) → IsTermIn Unsided bytes → IsTerm bytes
sided_term bytes none (Variable First name, says) = absurd (none (refl, subst IsVariable (sym says.1) says.0))
sided_term bytes none (Variable Second name, says) = absurd says
sided_term bytes none (ValueTerm value, says) = (ValueTerm value, says)

pub term_word_in : (dialect : Dialect) (bytes : List ℕ) (x : Symbol) → IsTermIn dialect bytes → IsSymbolIn dialect Word bytes x → is_term x ≡ true
term_word_in Sided bytes x term is = term_word bytes x term is
term_word_in Named bytes x term (inl is) = ap is_term is.1
term_word_in Named bytes x term (inr is) = term_word bytes x term is.1
term_word_in Unsided bytes x term (inl is) = ap is_term is.1
term_word_in Unsided bytes x term (inr (inl is)) = absurd (not_sided bytes term is.0)
term_word_in Unsided bytes x term (inr (inr is)) = term_word bytes x (sided_term bytes is.0 term) is.2

-- the words true and false say their values
truth_from : (dialect : Dialect) (bytes : List ℕ) (value : Bool) → IsSymbolIn dialect Word bytes (LeafOf (Truth value))
    → SaysTermIn dialect bytes (ValueTerm (TruthValue value))
truth_from Sided bytes value is = (truth_said bytes value).0 is
truth_from Named bytes value (inl is) = let clash : LeafOf (Truth value) ≡ LeafOf Name = is.1 in cc
truth_from Named bytes value (inr is) = (truth_said bytes value).0 is.1
truth_from Unsided bytes value (inl is) = let clash : LeafOf (Truth value) ≡ Term = is.1 in cc
truth_from Unsided bytes value (inr (inl is)) = let clash : LeafOf (Truth value) ≡ Other = is.1 in cc
truth_from Unsided bytes value (inr (inr is)) = (truth_said bytes value).0 is.2

truth_of : (dialect : Dialect) (bytes : List ℕ) (value : Bool) → SaysTermIn dialect bytes (ValueTerm (TruthValue value))
    → IsSymbolIn dialect Word bytes (LeafOf (Truth value))
truth_of Sided bytes value says = (truth_said bytes value).1 says
truth_of Named bytes value says = inr (sided_no_value Word bytes (TruthValue value) says, (truth_said bytes value).1 says)
truth_of Unsided bytes value says =
    inr (inr (
      λ bare. bare_no_value bytes bare.1 (TruthValue value) says.0 says.1,
      sided_no_value Word bytes (TruthValue value) says,
      (truth_said bytes value).1 says,
    ))

pub truth_said_in : (dialect : Dialect) (bytes : List ℕ) (value : Bool)
    → (IsSymbolIn dialect Word bytes (LeafOf (Truth value)) → SaysTermIn dialect bytes (ValueTerm (TruthValue value)))
    × (SaysTermIn dialect bytes (ValueTerm (TruthValue value)) → IsSymbolIn dialect Word bytes (LeafOf (Truth value)))
truth_said_in dialect bytes value = (truth_from dialect bytes value, truth_of dialect bytes value)

-- a leaf that is a name is a variable with its side
no_name : (sort : Sort) (bytes : List ℕ) → ¬ (IsSymbol sort bytes (LeafOf Name))
no_name OpenToken bytes is = let clash : LeafOf Name ≡ Open = is in cc
no_name CloseToken bytes is = let clash : LeafOf Name ≡ Close = is in cc
no_name Word bytes is = is
no_name Text bytes is = let clash : LeafOf Name ≡ Term = is in cc
no_name Wrong bytes is = let clash : LeafOf Name ≡ Other = is in cc

pub name_said_in : (dialect : Dialect) (sort : Sort) (bytes : List ℕ) → IsSymbolIn dialect sort bytes (LeafOf Name)
    → (dialect ≡ Named) × IsSidedWord sort bytes
name_said_in Sided sort bytes is = absurd (no_name sort bytes is)
name_said_in Named sort bytes (inl is) = (refl, is.0)
name_said_in Named sort bytes (inr is) = absurd (no_name sort bytes is.1)
name_said_in Unsided sort bytes (inl is) = let clash : LeafOf Name ≡ Term = is.1 in cc
name_said_in Unsided sort bytes (inr (inl is)) = let clash : LeafOf Name ≡ Other = is.1 in cc
name_said_in Unsided sort bytes (inr (inr is)) = absurd (no_name sort bytes is.2)
