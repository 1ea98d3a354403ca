-- The words of a formula: this project's profile.
use Rattle.std.specs.Prelude.{◌≡◌, ◌≢◌, ◌⊎◌, ℕ, Bool, true, false, Some, List, ◌++◌, length, codes, slice_get}
use Rattle.rd_base.specs.Spelling.{value_spelling, IsValue}
use Rattle.rd_ecl.specs.declared.formulas.Side.{Side}
use Rattle.rd_ecl.specs.declared.formulas.Side.TheVariants.{First, Second}
use Rattle.rd_ecl.specs.Variables.{IsVariable}
use Rattle.rd_tokens.specs.declared.sorts.Sort.{Sort}
use Rattle.rd_tokens.specs.declared.sorts.Sort.TheVariants.{Open as OpenToken, Close as CloseToken, Word, Text, Wrong}
use Rattle.rd_tokens.specs.declared.sorts.Token.{Token}
use Rattle.rd_tokens.specs.Tokens.{bytes_of}
use Rattle.rd_grammar.specs.declared.marks.Leaf.TheVariants.{Name, Truth}
use Rattle.rd_grammar.specs.declared.marks.Mark.{Mark}
use Rattle.rd_grammar.specs.declared.marks.Sign.{Sign}
use Rattle.rd_grammar.specs.declared.marks.Sign.TheVariants.{Equal, Different, Less, AtMost}
use Rattle.rd_grammar.specs.declared.marks.Symbol.{Symbol}
use Rattle.rd_grammar.specs.declared.marks.Symbol.TheVariants.{Open, Close, Not, And, Or, Leaf as LeafOf, Sign as SignOf, Term, Other}
use Rattle.rd_tokens.specs.declared.words.dialects.Dialect.{Dialect}
use Rattle.rd_tokens.specs.declared.words.dialects.Dialect.TheVariants.{Sided, Named, Unsided}
use Rattle.rd_tokens.specs.declared.words.terms.Said.{Said}
use Rattle.rd_tokens.specs.declared.words.terms.Said.TheVariants.{Variable, Value as ValueTerm}

-- how a variable's side is written, behind its name
abbrev pub side_mark : Side → List ℕ
side_mark First = codes "@1"
side_mark Second = codes "@2"

-- the bytes say the term: a variable with its side, or the one spelling of a value
abbrev pub SaysTerm : List ℕ → Said → Type 0
SaysTerm bytes (Variable side name) = IsVariable name × (bytes ≡ name ++ side_mark side)
SaysTerm bytes (ValueTerm value) = IsValue value × (bytes ≡ value_spelling value)

-- the bytes say a term
abbrev pub IsTerm : List ℕ → Type 0
IsTerm bytes = (said : Said) × SaysTerm bytes said

-- how a sign is written
abbrev pub sign_word : Sign → List ℕ
sign_word Equal = codes "="
sign_word Different = codes "!="
sign_word Less = codes "<"
sign_word AtMost = codes "<="

-- how a truth value is written
abbrev pub truth_word : Bool → List ℕ
truth_word true = codes "true"
truth_word false = codes "false"

-- the word is this symbol, one that formulas have
abbrev pub IsKnown : List ℕ → Symbol → Type 0
IsKnown bytes Open = ⊥
IsKnown bytes Close = ⊥
IsKnown bytes Not = bytes ≡ codes "not"
IsKnown bytes And = bytes ≡ codes "and"
IsKnown bytes Or = bytes ≡ codes "or"
IsKnown bytes (LeafOf (Truth value)) = bytes ≡ truth_word value
IsKnown bytes (LeafOf Name) = ⊥
IsKnown bytes (SignOf sign) = bytes ≡ sign_word sign
IsKnown bytes Term = IsTerm bytes × (bytes ≢ truth_word true) × (bytes ≢ truth_word false)
IsKnown bytes Other = ⊥

-- the word is this symbol: Other where it is none that formulas have
abbrev pub IsWord : List ℕ → Symbol → Type 0
IsWord bytes Other = (symbol : Symbol) → ¬ (IsKnown bytes symbol)
IsWord bytes symbol = IsKnown bytes symbol

-- a token with these bytes is this symbol
abbrev pub IsSymbol : Sort → List ℕ → Symbol → Type 0
IsSymbol OpenToken bytes symbol = symbol ≡ Open
IsSymbol CloseToken bytes symbol = symbol ≡ Close
IsSymbol Word bytes symbol = IsWord bytes symbol
IsSymbol Text bytes symbol = symbol ≡ Term
IsSymbol Wrong bytes symbol = symbol ≡ Other

-- ---- by what the words may speak of

-- the bytes say the term where variables have no side: each is of side 1
abbrev pub SaysUnsided : List ℕ → Said → Type 0
SaysUnsided bytes (Variable First name) = IsVariable name × (bytes ≡ name)
SaysUnsided bytes (Variable Second name) = ⊥
SaysUnsided bytes (ValueTerm value) = IsValue value × (bytes ≡ value_spelling value)

abbrev pub SaysTermIn : Dialect → List ℕ → Said → Type 0
SaysTermIn Sided bytes said = SaysTerm bytes said
SaysTermIn Named bytes said = SaysTerm bytes said
SaysTermIn Unsided bytes said = SaysUnsided bytes said

abbrev pub IsTermIn : Dialect → List ℕ → Type 0
IsTermIn dialect bytes = (said : Said) × SaysTermIn dialect bytes said

-- the token is a variable with its side
abbrev pub IsSidedWord : Sort → List ℕ → Type 0
IsSidedWord sort bytes = (sort ≡ Word) × ((side : Side) × (name : List ℕ) × SaysTerm bytes (Variable side name))

-- it is a variable without one
abbrev pub IsBareWord : Sort → List ℕ → Type 0
IsBareWord sort bytes = (sort ≡ Word) × IsVariable bytes

-- a token with these bytes is this symbol. Where names may be used, a variable with its side is a leaf, since it may be a name; in a
-- definition a variable without a side is a term, and one with a side is nothing that a formula has; all else is as it is above
abbrev pub IsSymbolIn : Dialect → Sort → List ℕ → Symbol → Type 0
IsSymbolIn Sided sort bytes symbol = IsSymbol sort bytes symbol
IsSymbolIn Named sort bytes symbol =
    (IsSidedWord sort bytes × (symbol ≡ LeafOf Name)) ⊎ (¬ (IsSidedWord sort bytes) × IsSymbol sort bytes symbol)
IsSymbolIn Unsided sort bytes symbol =
    (IsBareWord sort bytes × (symbol ≡ Term))
    ⊎ ((IsSidedWord sort bytes × (symbol ≡ Other))
    ⊎ (¬ (IsBareWord sort bytes) × ¬ (IsSidedWord sort bytes) × IsSymbol sort bytes symbol))

-- the mark of a token of the line, the token's number being its place
pub record IsMark (dialect : Dialect) (line : List ℕ) (place : ℕ) (token : Token) (mark : Mark) : Type 0 where
  pub symbol : IsSymbolIn dialect token.sort (bytes_of line token) mark.symbol
  pub number : mark.token ≡ place

-- the marks of tokens of the line: as many, and at each place the mark of the token there
pub record AreMarks (dialect : Dialect) (line : List ℕ) (tokens : List Token) (marks : List Mark) : Type 0 where
  pub count : length marks ≡ length tokens
  pub each : (place : ℕ) (token : Token) (mark : Mark) → slice_get tokens place ≡ Some token → slice_get marks place ≡ Some mark
      → IsMark dialect line place token mark
