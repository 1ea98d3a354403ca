-- The lines of a specification's text: this project's profile.
use Rattle.std.specs.Prelude.{◌≡◌, ◌≢◌, ◌≤◌, ◌⊎◌, ℕ, suc, Bool, List, [], ◌∷◌, ◌++◌, length, map, take, drop, codes, Contains}
use Rattle.std.specs.List.{AllByRecursion}
use Rattle.rd_base.specs.Names.{IsName}
use Rattle.rd_ecl.specs.Variables.{IsVariable}
use Rattle.rd_grammar.specs.FirstWrong.{WrongAt}
use Rattle.rd_grammar.specs.Grammar.{ParsedTree, MarksSay, disj, parsed_tree}
use Rattle.rd_grammar.specs.declared.marks.Mark.{Mark}
use Rattle.rd_lines.specs.declared.forms.Form.{Form}
use Rattle.rd_lines.specs.declared.forms.Form.TheVariants.{Kind, Method, Commute, Define, Default}
use Rattle.rd_lines.specs.declared.forms.FormRefused.{FormRefused}
use Rattle.rd_lines.specs.declared.forms.FormRefused.TheVariants.{Syntax, NoMemory}
use Rattle.rd_lines.specs.declared.forms.Stage.{Stage}
use Rattle.rd_lines.specs.declared.forms.Stage.TheVariants.{Outside, Methods, Definitions, Defaulted}
use Rattle.rd_lines.specs.declared.forms.Version.{Version}
use Rattle.rd_lines.specs.declared.forms.Version.TheVariants.{One, Two}
use Rattle.rd_tokens.specs.declared.sorts.Sort.{Sort}
use Rattle.rd_tokens.specs.declared.sorts.Sort.TheVariants.{Word as PlainWord}
use Rattle.rd_tokens.specs.declared.sorts.Token.{Token}
use Rattle.rd_tokens.specs.Tokens.{bytes_of}
use Rattle.rd_tokens.specs.declared.words.dialects.Dialect.{Dialect}
use Rattle.rd_tokens.specs.declared.words.dialects.Dialect.TheVariants.{Sided, Named, Unsided}
use Rattle.rd_tokens.specs.Words.{IsSymbolIn, truth_word}
use Rattle.rd_base.specs.declared.limits.TheConstants.{MOST_TOKENS}

-- a token of a line without its place
pub record LineWord : Type 0 where
  pub sort : Sort
  pub bytes : List ℕ

-- the words of tokens of the line
abbrev pub word_at : List ℕ → Token → LineWord
word_at line token = record { sort = token.sort; bytes = bytes_of line token }

abbrev pub words_of : List ℕ → List Token → List LineWord
words_of line tokens = map (word_at line) tokens

-- a run of visible bytes
abbrev pub plain : List ℕ → LineWord
plain bytes = record { sort = PlainWord; bytes = bytes }

-- what a line says
pub data SaidForm : Type 0 where
  -- a kind's name
  kind : List ℕ → SaidForm
  -- a method's name, its arguments and its result
  method : List ℕ → List (List ℕ) → List ℕ → SaidForm
  -- the two methods and the formula by which they commute
  commute : List ℕ → List ℕ → ParsedTree → SaidForm
  -- a method, a name, and the formula that the name stands for
  define : List ℕ → List ℕ → ParsedTree → SaidForm
  -- the formula of each pair without a line
  default : Bool → SaidForm

abbrev pub said_of : Form → SaidForm
said_of (Kind name) = kind name
said_of (Method name arguments result) = method name arguments result
said_of (Commute first second formula) = commute first second (parsed_tree formula)
said_of (Define owner name formula) = define owner name (parsed_tree formula)
said_of (Default value) = default value

-- the marks of words, numbered from this number
abbrev pub AreMarksFrom : Dialect → ℕ → List LineWord → List Mark → Type 0
AreMarksFrom dialect number [] [] = Unit {0}
AreMarksFrom dialect number (word ∷ words) (mark ∷ marks) =
    IsSymbolIn dialect word.sort word.bytes mark.symbol × (mark.token ≡ number) × AreMarksFrom dialect (suc number) words marks
AreMarksFrom dialect number words marks = ⊥

-- what the formula of a pair may speak of
abbrev pub dialect_of : Version → Dialect
dialect_of One = Sided
dialect_of Two = Named

-- of two methods, the second is declared before the first
abbrev pub IsOutOfOrder : List (List ℕ) → List ℕ → List ℕ → Type 0
IsOutOfOrder methods first second =
    (before : List (List ℕ)) × (behind : List (List ℕ)) × (methods ≡ before ++ second ∷ behind) × Contains behind first × (first ≢ second)

-- a kind: `kind K`
pub record IsKindLine (words : List LineWord) (name : List ℕ) : Type 0 where
  pub named : IsName name
  pub written : words ≡ plain (codes "kind") ∷ plain name ∷ []

-- a method, its arguments and its result: `method M V V -> V`, before any pair of its kind
pub record IsMethodLine (stage : Stage) (words : List LineWord) (name : List ℕ) (arguments : List (List ℕ)) (result : List ℕ) : Type 0 where
  pub stands : stage ≡ Methods
  pub named : IsName name
  pub each_argument : AllByRecursion IsVariable arguments
  pub gives : IsVariable result
  pub written : words ≡ plain (codes "method") ∷ plain name ∷ (map plain arguments ++ plain (codes "->") ∷ plain result ∷ [])

-- a pair: `commute M M when FORMULA`, in a kind, with its methods in their order
pub record IsCommuteLine (version : Version) (stage : Stage) (methods : List (List ℕ)) (words : List LineWord) (first second : List ℕ) (formula : ParsedTree) : Type 0 where
  pub stands : stage ≢ Outside
  pub named_first : IsName first
  pub named_second : IsName second
  pub order : ¬ (IsOutOfOrder methods first second)
  pub behind : List LineWord
  pub marks : List Mark
  pub written : words ≡ plain (codes "commute") ∷ plain first ∷ plain second ∷ plain (codes "when") ∷ behind
  pub marked : AreMarksFrom (dialect_of version) 0 behind marks
  pub says : MarksSay disj marks formula

-- a definition, in version 2: `define M N when FORMULA`, behind the methods of its kind; its variables have no side
pub record IsDefineLine (version : Version) (stage : Stage) (words : List LineWord) (owner name : List ℕ) (formula : ParsedTree) : Type 0 where
  pub second_version : version ≡ Two
  pub stands : (stage ≡ Methods) ⊎ (stage ≡ Definitions)
  pub named : IsName owner
  pub is_variable : IsVariable name
  pub behind : List LineWord
  pub marks : List Mark
  pub written : words ≡ plain (codes "define") ∷ plain owner ∷ plain name ∷ plain (codes "when") ∷ behind
  pub marked : AreMarksFrom Unsided 0 behind marks
  pub says : MarksSay disj marks formula

-- a default, in version 2: `default true` or `default false`, behind the definitions of its kind; one more may stand behind it, where it
-- is a repeat
pub record IsDefaultLine (version : Version) (stage : Stage) (words : List LineWord) (value : Bool) : Type 0 where
  pub second_version : version ≡ Two
  pub stands : (stage ≡ Methods) ⊎ ((stage ≡ Definitions) ⊎ (stage ≡ Defaulted))
  pub written : words ≡ plain (codes "default") ∷ plain (truth_word value) ∷ []

-- the words are a right line of the version at this stage, behind these methods of the kind, and say this
abbrev pub RightLine : Version → Stage → List (List ℕ) → List LineWord → SaidForm → Type 0
RightLine version stage methods words (kind name) = IsKindLine words name
RightLine version stage methods words (method name arguments result) = IsMethodLine stage words name arguments result
RightLine version stage methods words (commute first second formula) = IsCommuteLine version stage methods words first second formula
RightLine version stage methods words (define owner name formula) = IsDefineLine version stage words owner name formula
RightLine version stage methods words (default value) = IsDefaultLine version stage words value

-- the line begins as one of a kind
abbrev pub BeginsKind : List LineWord → Type 0
BeginsKind words = (behind : List LineWord) × (words ≡ plain (codes "kind") ∷ behind)

-- the first word of a line whose formula's words are counted: that of a pair, and in version 2 that of a definition
abbrev pub CountsTokens : Version → LineWord → Type 0
CountsTokens One word = word ≡ plain (codes "commute")
CountsTokens Two word = (word ≡ plain (codes "commute")) ⊎ (word ≡ plain (codes "define"))

-- a formula has at most 512 words
pub record HasFewWords (version : Version) (words : List LineWord) : Type 0 where
  pub few : (head first second : LineWord) (behind : List LineWord) → CountsTokens version head
      → words ≡ head ∷ first ∷ second ∷ plain (codes "when") ∷ behind
      → length behind ≤ MOST_TOKENS

-- the first wrong word has so many words before it; all of them where the line ends too early
abbrev pub IsWrongBehind : {R : Type 0} → (List LineWord → R → Type 0) → List LineWord → ℕ → Type 0
IsWrongBehind MarksSay words count = (count ≤ length words) × WrongAt MarksSay (take count words) (drop count words)

-- what a refusal says of the words; want of memory says nothing
abbrev pub IsFormRefused : Version → Stage → List (List ℕ) → List LineWord → FormRefused → Type 0
IsFormRefused version stage methods words (Syntax count) = IsWrongBehind (RightLine version stage methods) words count
IsFormRefused version stage methods words NoMemory = Unit {0}
