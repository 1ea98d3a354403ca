-- The parts of lines as they are read. Nobody has to believe them: the reader's contract speaks of right lines alone.
use Rattle.std.specs.Prelude.{◌≡◌, ◌≢◌, ◌+◌, ◌⊎◌, ℕ, nat_eq, List, [], ◌∷◌, ◌++◌, map, codes, if◌then◌else◌}
use Rattle.std.specs.Cmp.Lexicographic.{pointwise}
use Rattle.std.specs.List.{AllByRecursion}
use Rattle.rd_base.specs.Names.{IsName}
use Rattle.rd_ecl.specs.Variables.{IsVariable}
use Rattle.rd_grammar.specs.Grammar.{ParsedTree, MarksSay, disj}
use Rattle.rd_grammar.specs.declared.parsed.MarksRefused.{MarksRefused}
use Rattle.rd_grammar.specs.declared.parsed.MarksRefused.TheVariants.{Syntax, NoMemory}
use Rattle.rd_grammar.specs.declared.marks.Mark.{Mark}
use Rattle.rd_lines.specs.declared.forms.FormRefused.{FormRefused}
use Rattle.rd_lines.specs.declared.forms.FormRefused.TheVariants.{Syntax as SyntaxOfLine, NoMemory as NoMemoryForLine}
use Rattle.rd_lines.specs.declared.forms.Stage.{Stage}
use Rattle.rd_lines.specs.declared.forms.Stage.TheVariants.{Outside, Methods, Definitions, Defaulted}
use Rattle.rd_lines.specs.declared.forms.Version.{Version}
use Rattle.rd_lines.specs.declared.forms.Version.TheVariants.{Two}
use Rattle.rd_lines.specs.declared.spec_lines.Head.{Head}
use Rattle.rd_lines.specs.declared.spec_lines.Head.TheVariants.{Kind, Method, Commute, Define, Default}
use Rattle.rd_lines.specs.Lines.{LineWord, plain, words_of, AreMarksFrom, IsOutOfOrder, IsWrongBehind}
use Rattle.rd_tokens.specs.declared.sorts.Token.{Token}
use Rattle.rd_tokens.specs.declared.words.dialects.Dialect.{Dialect}

-- a definition, and a default, may stand at the stage
abbrev pub MayDefine : Version → Stage → Type 0
MayDefine version stage = (version ≡ Two) × ((stage ≡ Methods) ⊎ (stage ≡ Definitions))

abbrev pub MayDefault : Version → Stage → Type 0
MayDefault version stage = (version ≡ Two) × ((stage ≡ Methods) ⊎ ((stage ≡ Definitions) ⊎ (stage ≡ Defaulted)))

-- the word begins no right line
pub record BeginsNothing (version : Version) (stage : Stage) (word : LineWord) : Type 0 where
  pub no_kind : word ≢ plain (codes "kind")
  pub no_method : stage ≡ Methods → word ≢ plain (codes "method")
  pub no_commute : stage ≢ Outside → word ≢ plain (codes "commute")
  pub no_define : MayDefine version stage → word ≢ plain (codes "define")
  pub no_default : MayDefault version stage → word ≢ plain (codes "default")

-- the word begins such a line, which may stand at the stage
abbrev pub BeginsLine : Version → Stage → LineWord → Head → Type 0
BeginsLine version stage word Kind = word ≡ plain (codes "kind")
BeginsLine version stage word Method = (stage ≡ Methods) × (word ≡ plain (codes "method"))
BeginsLine version stage word Commute = (stage ≢ Outside) × (word ≡ plain (codes "commute"))
BeginsLine version stage word Define = MayDefine version stage × (word ≡ plain (codes "define"))
BeginsLine version stage word Default = MayDefault version stage × (word ≡ plain (codes "default"))

-- the first word is no variable
abbrev pub BeginsNoVariable : List LineWord → Type 0
BeginsNoVariable [] = Unit {0}
BeginsNoVariable (word ∷ words) = (name : List ℕ) → IsVariable name → word ≢ plain name

-- the variables in front of other tokens
pub record AreInFront (line : List ℕ) (tokens behind : List Token) (names : List (List ℕ)) : Type 0 where
  pub each : AllByRecursion IsVariable names
  pub written : words_of line tokens ≡ map plain names ++ words_of line behind
  pub ends : BeginsNoVariable (words_of line behind)

-- what stands behind a method's arguments
pub record SaysResult (words : List LineWord) (result : List ℕ) : Type 0 where
  pub is : IsVariable result
  pub written : words ≡ plain (codes "->") ∷ plain result ∷ []

-- what stands behind `when`
pub record WordsSayFormula (dialect : Dialect) (words : List LineWord) (formula : ParsedTree) : Type 0 where
  pub marks : List Mark
  pub marked : AreMarksFrom dialect 0 words marks
  pub says : MarksSay disj marks formula

-- what a refusal says of what stands behind `when`
abbrev pub IsRefusedBehindWhen : Dialect → List LineWord → MarksRefused → Type 0
IsRefusedBehindWhen dialect words (Syntax count) = IsWrongBehind (WordsSayFormula dialect) words count
IsRefusedBehindWhen dialect words NoMemory = Unit {0}

-- the number of words before the first wrong one
abbrev pub count_of : MarksRefused → ℕ
count_of (Syntax count) = count
count_of NoMemory = 0

-- the same refusal, of the words behind `when`, as one of the line
abbrev pub behind_when : MarksRefused → FormRefused
behind_when (Syntax count) = SyntaxOfLine (4 + count)
behind_when NoMemory = NoMemoryForLine

-- the names behind the first that is this one
abbrev pub names_behind : List ℕ → List (List ℕ) → List (List ℕ)
names_behind name [] = []
names_behind name (other ∷ others) = if pointwise nat_eq other name then others else names_behind name others

-- two methods in their order and `when`, in front of other tokens
pub record IsPairInFront (methods : List (List ℕ)) (line : List ℕ) (tokens behind : List Token) (first second : List ℕ) : Type 0 where
  pub named_first : IsName first
  pub named_second : IsName second
  pub order : ¬ (IsOutOfOrder methods first second)
  pub written : words_of line tokens ≡ plain first ∷ plain second ∷ plain (codes "when") ∷ words_of line behind

-- a method, a defined name and `when`, in front of other tokens
pub record IsDefinitionInFront (line : List ℕ) (tokens behind : List Token) (owner name : List ℕ) : Type 0 where
  pub named : IsName owner
  pub is_variable : IsVariable name
  pub written : words_of line tokens ≡ plain owner ∷ plain name ∷ plain (codes "when") ∷ words_of line behind
