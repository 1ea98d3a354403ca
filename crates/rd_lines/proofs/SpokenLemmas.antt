-- Each symbol that formulas have is said by a word, but for a name where no word is one.
use Rattle.std.proofs.Common.{◌≡◌, ◌≢◌, ℕ, Bool, true, false, None, List, [], ◌∷◌, codes, refl, sym, ◌∙◌, inl, inr}
use Rattle.rd_ecl.specs.Variables.{IsVariable, is_variable}
use Rattle.rd_ecl.specs.declared.formulas.Side.TheVariants.{First}
use Rattle.rd_ecl.proofs.VariableLemmas.{variable_decides}
use Rattle.rd_grammar.specs.Grammar.{is_term}
use Rattle.rd_grammar.specs.declared.marks.Leaf.{Leaf}
use Rattle.rd_grammar.specs.declared.marks.Leaf.TheVariants.{Name, Truth}
use Rattle.rd_grammar.specs.declared.marks.Sign.{Sign}
use Rattle.rd_grammar.specs.declared.marks.Sign.TheVariants.{Equal, Different, Less, AtMost}
use Rattle.rd_grammar.specs.declared.marks.Symbol.{Symbol}
use Rattle.rd_grammar.specs.declared.marks.Symbol.TheVariants.{Open, Close, Not, And, Or, Leaf as LeafOf, Sign as SignOf, Term, Other}
use Rattle.rd_tokens.specs.declared.sorts.Sort.{Sort}
use Rattle.rd_tokens.specs.declared.sorts.Sort.TheVariants.{Open as OpenToken, Close as CloseToken, Word, Text}
use Rattle.rd_tokens.specs.declared.words.dialects.Dialect.{Dialect}
use Rattle.rd_tokens.specs.declared.words.dialects.Dialect.TheVariants.{Sided, Named, Unsided}
use Rattle.rd_tokens.specs.ReadingWords.{side_of, variable_of}
use Rattle.rd_tokens.specs.Words.{IsWord, IsSymbolIn, sign_word, truth_word}
use Rattle.rd_tokens.proofs.DialectLemmas.{symbol_is_in, name_said_in}
use Rattle.rd_tokens.proofs.TermLemmas.{no_variable}
use Rattle.rd_lines.specs.Lines.{LineWord, plain}

-- a variable
pub a_variable : IsVariable (codes "a")
a_variable = (variable_decides (codes "a")).0 refl

-- a word that is no variable, with a side or without one, is the same symbol whatever words may speak of
no_bare : (bytes : List ℕ) → is_variable bytes ≡ false → ¬ (IsVariable bytes)
no_bare bytes test is = let clash : false ≡ true = sym test ∙ (variable_decides bytes).1 is in cc

same_word : (dialect : Dialect) (bytes : List ℕ) (symbol : Symbol) → variable_of bytes ≡ None → is_variable bytes ≡ false → IsWord bytes symbol
    → IsSymbolIn dialect Word bytes symbol
same_word Sided bytes symbol none test is = is
same_word Named bytes symbol none test is = inr (λ sided. no_variable bytes none sided.1.0 sided.1.1 sided.1.2, is)
same_word Unsided bytes symbol none test is =
    inr (inr (λ bare. no_bare bytes test bare.1, λ sided. no_variable bytes none sided.1.0 sided.1.1 sided.1.2, is))

-- the words true and false
pub truth_is : (dialect : Dialect) (value : Bool) → IsSymbolIn dialect Word (truth_word value) (LeafOf (Truth value))
unfolding variable_of side_of
truth_is dialect true = same_word dialect (codes "true") (LeafOf (Truth true)) refl refl refl
truth_is dialect false = same_word dialect (codes "false") (LeafOf (Truth false)) refl refl refl

sign_is : (dialect : Dialect) (sign : Sign) → IsSymbolIn dialect Word (sign_word sign) (SignOf sign)
unfolding variable_of side_of
sign_is dialect Equal = same_word dialect (codes "=") (SignOf Equal) refl refl refl
sign_is dialect Different = same_word dialect (codes "!=") (SignOf Different) refl refl refl
sign_is dialect Less = same_word dialect (codes "<") (SignOf Less) refl refl refl
sign_is dialect AtMost = same_word dialect (codes "<=") (SignOf AtMost) refl refl refl

-- the symbol, and `true` for a name where no word is one
abbrev pub spoken_leaf : Leaf → Dialect → Leaf
spoken_leaf (Truth value) dialect = Truth value
spoken_leaf Name Sided = Truth true
spoken_leaf Name Named = Name
spoken_leaf Name Unsided = Truth true

abbrev pub spoken : Dialect → Symbol → Symbol
spoken dialect (LeafOf word) = LeafOf (spoken_leaf word dialect)
spoken dialect symbol = symbol

pub spoken_term : (dialect : Dialect) (symbol : Symbol) → is_term symbol ≡ true → is_term (spoken dialect symbol) ≡ true
spoken_term dialect (LeafOf word) is = refl
spoken_term dialect Term is = refl
spoken_term dialect Open is = absurd (cc)
spoken_term dialect Close is = absurd (cc)
spoken_term dialect Not is = absurd (cc)
spoken_term dialect And is = absurd (cc)
spoken_term dialect Or is = absurd (cc)
spoken_term dialect (SignOf sign) is = absurd (cc)
spoken_term dialect Other is = absurd (cc)

-- the symbol of a word stays
name_stays : (dialect : Dialect) → dialect ≡ Named → spoken_leaf Name dialect ≡ Name
name_stays Sided is = absurd (cc)
name_stays Named is = refl
name_stays Unsided is = absurd (cc)

pub stays : (dialect : Dialect) (sort : Sort) (bytes : List ℕ) (symbol : Symbol) → IsSymbolIn dialect sort bytes symbol
    → IsSymbolIn dialect sort bytes (spoken dialect symbol)
stays dialect sort bytes (LeafOf Name) is = rw (name_stays dialect (name_said_in dialect sort bytes is).0) is
stays dialect sort bytes (LeafOf (Truth value)) is = is
stays dialect sort bytes Term is = is
stays dialect sort bytes Open is = is
stays dialect sort bytes Close is = is
stays dialect sort bytes Not is = is
stays dialect sort bytes And is = is
stays dialect sort bytes Or is = is
stays dialect sort bytes (SignOf sign) is = is
stays dialect sort bytes Other is = is

-- a word that is the symbol
abbrev pub word_for : Symbol → LineWord
word_for Open = record { sort = OpenToken; bytes = 40 ∷ [] }
word_for Close = record { sort = CloseToken; bytes = 41 ∷ [] }
word_for Not = plain (codes "not")
word_for And = plain (codes "and")
word_for Or = plain (codes "or")
word_for (LeafOf (Truth value)) = plain (truth_word value)
word_for (LeafOf Name) = plain (codes "a@1")
word_for (SignOf sign) = plain (sign_word sign)
word_for Term = record { sort = Text; bytes = 34 ∷ 34 ∷ [] }
word_for Other = plain (codes "when")

name_is : (dialect : Dialect)
    → IsSymbolIn dialect (word_for (spoken dialect (LeafOf Name))).sort (word_for (spoken dialect (LeafOf Name))).bytes (spoken dialect (LeafOf Name))
name_is Sided = truth_is Sided true
name_is Named = inl ((refl, (First, codes "a", (a_variable, refl))), refl)
name_is Unsided = truth_is Unsided true

pub word_is : (dialect : Dialect) (symbol : Symbol) → symbol ≢ Other
    → IsSymbolIn dialect (word_for (spoken dialect symbol)).sort (word_for (spoken dialect symbol)).bytes (spoken dialect symbol)
unfolding variable_of side_of
word_is dialect Open said = symbol_is_in dialect OpenToken (40 ∷ [])
word_is dialect Close said = symbol_is_in dialect CloseToken (41 ∷ [])
word_is dialect Not said = same_word dialect (codes "not") Not refl refl refl
word_is dialect And said = same_word dialect (codes "and") And refl refl refl
word_is dialect Or said = same_word dialect (codes "or") Or refl refl refl
word_is dialect (LeafOf (Truth value)) said = truth_is dialect value
word_is dialect (LeafOf Name) said = name_is dialect
word_is dialect (SignOf sign) said = sign_is dialect sign
word_is dialect Term said = symbol_is_in dialect Text (34 ∷ 34 ∷ [])
word_is dialect Other said = absurd (said refl)
