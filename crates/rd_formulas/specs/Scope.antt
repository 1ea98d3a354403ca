-- The words of a formula's tokens, and its variables: this project's profile.
use Rattle.std.specs.Prelude.{◌≡◌, ℕ, ◌<◌, ◌≤◌, ◌+◌, List, [], length, slice_get, Some, option_map, unwrap_or, All, Contains, None, true}
use Rattle.rd_ecl.specs.declared.formulas.Side.{Side}
use Rattle.rd_ecl.specs.declared.formulas.Side.TheVariants.{First, Second}
use Rattle.rd_ecl.specs.Formulas.{Tree, truth as truth_tree}
use Rattle.rd_ecl.specs.Sides.{on_side}
use Rattle.rd_definitions.specs.Definitions.{Definition, IsDefined, formula_of}
use Rattle.rd_formulas.specs.declared.scope.Scope.{Scope}
use Rattle.rd_formulas.specs.declared.terms.Meant.{Meant}
use Rattle.rd_formulas.specs.declared.terms.Meant.TheVariants.{Slot, Value as ValueOf}
use Rattle.rd_formulas.specs.Meaning.{Gives, Related, Use, of_name, of_term}
use Rattle.rd_grammar.specs.Grammar.{ParsedTree, leaf, relation, negation, both, either}
use Rattle.rd_grammar.specs.declared.marks.Leaf.TheVariants.{Name, Truth}
use Rattle.rd_tokens.specs.declared.words.dialects.Dialect.TheVariants.{Named}
use Rattle.rd_tokens.specs.Tokens.{IsTokenOf, LiesIn, bytes_of}
use Rattle.rd_tokens.specs.declared.words.terms.Said.TheVariants.{Variable, Value as ValueSaid}
use Rattle.rd_tokens.specs.Words.{IsTermIn, SaysTermIn}
use Rattle.rd_base.specs.declared.limits.TheConstants.{MOST_ARGUMENTS}

-- the tokens are tokens of the line, the methods have at most 7 variables, and their definitions are of these
pub record IsScope (scope : Scope) : Type 0 where
  pub within : All (LiesIn scope.line.now) scope.tokens.now
  pub sorts : All (IsTokenOf scope.line.now) scope.tokens.now
  pub first : length scope.first.now ≤ MOST_ARGUMENTS + 1
  pub second : length scope.second.now ≤ MOST_ARGUMENTS + 1
  pub first_defined : All (IsDefined (length scope.first.now)) scope.first_definitions.now
  pub second_defined : All (IsDefined (length scope.second.now)) scope.second_definitions.now

-- the bytes of the token with this number; none where there is no such token
abbrev pub token_bytes_at : Scope → ℕ → List ℕ
token_bytes_at scope number = unwrap_or (option_map (bytes_of scope.line.now) (slice_get scope.tokens.now number)) []

-- where the token with this number begins, in bytes from 1; behind the line where there is no such token
abbrev pub place_in_scope : Scope → ℕ → ℕ
place_in_scope scope number = unwrap_or (option_map (λ token. token.place) (slice_get scope.tokens.now number)) (length scope.line.now + 1)

-- the variables of a side
abbrev pub variables_of : Scope → Side → List (List ℕ)
variables_of scope First = scope.first.now
variables_of scope Second = scope.second.now

-- the definitions of a side
abbrev pub definitions_of : Scope → Side → List Definition
definitions_of scope First = scope.first_definitions.now
definitions_of scope Second = scope.second_definitions.now

-- a token of this number is there, and is a term
abbrev pub IsTermAt : Scope → ℕ → Type 0
IsTermAt scope number = (number < length scope.tokens.now) × IsTermIn scope.dialect (token_bytes_at scope number)

-- it is a variable
abbrev pub IsVariableAt : Scope → ℕ → Type 0
IsVariableAt scope number = (side : Side) × (name : List ℕ) × SaysTermIn scope.dialect (token_bytes_at scope number) (Variable side name)

-- it is a variable that isn't one of its side's method
abbrev pub IsUnknown : Scope → ℕ → Type 0
IsUnknown scope number =
    (side : Side) × (name : List ℕ) × SaysTermIn scope.dialect (token_bytes_at scope number) (Variable side name)
    × ¬ (Contains (variables_of scope side) name)

-- a relation has no variable
abbrev pub IsBare : Scope → Related → Type 0
IsBare scope asked = ¬ (IsVariableAt scope asked.left) × ¬ (IsVariableAt scope asked.right)

-- what it means: a slot, which its variable names, or a value
abbrev pub MeansAt : Scope → ℕ → Meant → Type 0
MeansAt scope number (Slot side slot) =
    (name : List ℕ) × SaysTermIn scope.dialect (token_bytes_at scope number) (Variable side name) × (slice_get (variables_of scope side) slot ≡ Some name)
MeansAt scope number (ValueOf value) = SaysTermIn scope.dialect (token_bytes_at scope number) (ValueSaid value)

-- a token of this number is there, and is a variable with its side where names may be used
abbrev pub IsNameAt : Scope → ℕ → Type 0
IsNameAt scope number = (scope.dialect ≡ Named) × (number < length scope.tokens.now) × IsVariableAt scope number

-- it is a name that isn't a definition of its side's method
abbrev pub IsUnknownName : Scope → ℕ → Type 0
IsUnknownName scope number =
    (side : Side) × (name : List ℕ) × SaysTermIn scope.dialect (token_bytes_at scope number) (Variable side name)
    × (formula_of (definitions_of scope side) name ≡ None)

-- a used variable or name is unknown
abbrev pub IsUnknownUse : Scope → Use → Type 0
IsUnknownUse scope (of_term number) = IsUnknown scope number
IsUnknownUse scope (of_name number) = IsUnknownName scope number

-- what a used name stands for: the formula that its side's method has by this name, on that side
abbrev pub NameStandsFor : Scope → ℕ → Tree → Type 0
NameStandsFor scope number formula =
    (side : Side) × (name : List ℕ) × (defined : Tree) × SaysTermIn scope.dialect (token_bytes_at scope number) (Variable side name)
    × (formula_of (definitions_of scope side) name ≡ Some defined) × (formula ≡ on_side side defined)

-- the formula that was read
abbrev pub SaysTree : Scope → ParsedTree → Tree → Type 0
SaysTree scope read formula = Gives (MeansAt scope) (NameStandsFor scope) read formula

-- the same with `true` where a name is used
abbrev pub IsTruth : ℕ → Tree → Type 0
IsTruth number formula = formula ≡ truth_tree true

abbrev pub Outlines : Scope → ParsedTree → Tree → Type 0
Outlines scope read formula = Gives (MeansAt scope) IsTruth read formula

-- each term and each used name of the formula that was read is one
abbrev pub HasTerms : Scope → ParsedTree → Type 0
HasTerms scope (leaf (Truth value) token) = Unit {0}
HasTerms scope (leaf Name token) = IsNameAt scope token
HasTerms scope (relation left sign token right) = IsTermAt scope left × IsTermAt scope right
HasTerms scope (negation token f) = HasTerms scope f
HasTerms scope (both f token g) = HasTerms scope f × HasTerms scope g
HasTerms scope (either f token g) = HasTerms scope f × HasTerms scope g

-- each term and each used name has a meaning, and each relation a variable
abbrev pub IsReady : Scope → ParsedTree → Type 0
IsReady scope (leaf (Truth value) token) = Unit {0}
IsReady scope (leaf Name token) = ¬ (IsUnknownName scope token)
IsReady scope (relation left sign token right) =
    ¬ (IsUnknown scope left) × ¬ (IsUnknown scope right) × ¬ (IsBare scope (record { sign = token; left = left; right = right }))
IsReady scope (negation token f) = IsReady scope f
IsReady scope (both f token g) = IsReady scope f × IsReady scope g
IsReady scope (either f token g) = IsReady scope f × IsReady scope g
