-- What the text of a specification says, read aloud: its header, and then for each kind its name, its methods, in version 2 its
-- definitions and its default, and its pairs: this project's profile.
use Rattle.std.specs.Prelude.{◌≡◌, ◌≤◌, ◌<◌, ◌⊎◌, ℕ, Bool, List, [], ◌∷◌, ◌++◌, length, map, flat_map, Option, Some, None, All, AllPairs, Contains}
use Rattle.std.specs.List.{AllZip}
use Rattle.rd_base.specs.declared.limits.TheConstants.{MOST_LEVELS, MOST_NODES}
use Rattle.rd_definitions.specs.Definitions.{Definition, names_defined}
use Rattle.rd_ecl.specs.declared.kinds.Method.{Method}
use Rattle.rd_ecl.specs.Formulas.{Tree, levels, nodes, truth}
use Rattle.rd_ecl.specs.Specified.{SpecifiedKind, formula_at, names_of}
use Rattle.rd_grammar.specs.Grammar.{ParsedTree}
use Rattle.rd_lines.specs.declared.forms.Stage.TheVariants.{Definitions, Methods, Pairs}
use Rattle.rd_lines.specs.declared.forms.Version.{Version}
use Rattle.rd_lines.specs.Lines.{HasFewWords, IsCommuteLine, IsDefaultLine, IsDefineLine, IsKindLine, IsMethodLine, words_of}
use Rattle.rd_open_kind.specs.Opened.{Opened, definitions_at, with_definition}
use Rattle.rd_pairs.specs.PairCauses.{SaysDefinition, SaysPair, variables_of_method}
use Rattle.rd_reading.specs.Causes.{header_words}
use Rattle.rd_reading.specs.Texts.{AreLines, IsSkipped}
use Rattle.rd_tokens.specs.declared.sorts.Token.{Token}
use Rattle.rd_tokens.specs.Tokens.{AreTokens}

-- ---- one line

-- the line is `rdspec 1` or `rdspec 2`
pub record IsHeaderLine (version : Version) (line : List ℕ) : Type 0 where
  pub tokens : List Token
  pub cut : AreTokens line tokens
  pub written : words_of line tokens ≡ header_words version

-- the line is `kind NAME`
pub record SaysKind (line name : List ℕ) : Type 0 where
  pub tokens : List Token
  pub cut : AreTokens line tokens
  pub written : IsKindLine (words_of line tokens) name

-- the line is `method NAME ARGUMENTS -> RESULT`, and the variables of the method are its arguments and its result
pub record SaysMethod (line : List ℕ) (method : Method) : Type 0 where
  pub arguments : List (List ℕ)
  pub result : List ℕ
  pub variables : method.variables ≡ arguments ++ result ∷ []
  pub tokens : List Token
  pub cut : AreTokens line tokens
  pub written : IsMethodLine Methods (words_of line tokens) method.name arguments result

-- two methods of a kind, by their numbers, and the formula by which their calls commute
pub record SaidPair : Type 0 where
  pub first : ℕ
  pub second : ℕ
  pub formula : Tree

-- a name for a formula of the method with this number
pub record SaidDefinition : Type 0 where
  pub method : ℕ
  pub definition : Definition

-- the line is `define METHOD NAME when FORMULA`, in version 2, with at most 512 tokens behind `when`: it names a method of the kind, and
-- says the formula of its variables, which is within the limits
pub record SaysDefinitionOf (version : Version) (kind : SpecifiedKind) (line : List ℕ) (said : SaidDefinition) : Type 0 where
  pub owner : List ℕ
  pub read : ParsedTree
  pub tokens : List Token
  pub cut : AreTokens line tokens
  pub written : IsDefineLine version Definitions (words_of line tokens) owner said.definition.name read
  pub few : HasFewWords version (words_of line tokens)
  pub says : SaysDefinition kind line tokens owner read said.method said.definition.formula
  pub nodes : nodes said.definition.formula ≤ MOST_NODES
  pub levels : levels said.definition.formula ≤ MOST_LEVELS

-- the line is `default true` or `default false`, in version 2
pub record SaysDefault (version : Version) (line : List ℕ) (value : Bool) : Type 0 where
  pub tokens : List Token
  pub cut : AreTokens line tokens
  pub written : IsDefaultLine version Definitions (words_of line tokens) value

-- the line is `commute FIRST SECOND when FORMULA`, with at most 512 tokens behind `when`: it names the two methods of the kind, and
-- says the formula of their variables, with the names of these definitions expanded
pub record SaysPairOf (version : Version) (opened : Opened) (line : List ℕ) (pair : SaidPair) : Type 0 where
  pub first : List ℕ
  pub second : List ℕ
  pub read : ParsedTree
  pub tokens : List Token
  pub cut : AreTokens line tokens
  pub written : IsCommuteLine version Pairs (names_of opened.kind.methods) (words_of line tokens) first second read
  pub few : HasFewWords version (words_of line tokens)
  pub says : SaysPair version opened line tokens first second read pair.first pair.second pair.formula

-- ---- one kind

-- the kind before a definition
abbrev pub without_definitions : SpecifiedKind → Opened
without_definitions kind = record { kind = kind; defined = map (λ method. []) kind.methods; default = None }

-- the name is no variable of the method, and none that is defined for it
abbrev pub IsNewName : Opened → ℕ → List ℕ → Type 0
IsNewName opened m name = ¬ (Contains (variables_of_method opened.kind m) name) × ¬ (Contains (names_defined (definitions_at opened.defined m)) name)

-- the definitions, one after another, each with a new name
pub data Defines : Opened → List SaidDefinition → Opened → Type 0 where
  none_more : {opened : Opened} → Defines opened [] opened
  one_more : {opened last : Opened} (said : SaidDefinition) {more : List SaidDefinition} → IsNewName opened said.method said.definition.name
      → Defines (with_definition opened said.method said.definition) more last → Defines opened (said ∷ more) last

-- these are the pairs of the kind's methods that have a line, each once, with the kind's formulas; each other pair has the default
pub record AreItsPairs (kind : SpecifiedKind) (default : Option Bool) (pairs : List SaidPair) : Type 0 where
  pub formulas : All (λ pair. formula_at kind pair.first pair.second ≡ Some pair.formula) pairs
  pub each : (first second : ℕ) → first ≤ second → second < length kind.methods
      → ((formula : Tree) × Contains pairs (record { first = first; second = second; formula = formula }))
      ⊎ ((value : Bool) × (default ≡ Some value) × (formula_at kind first second ≡ Some (truth value)))
  pub once : AllPairs (λ pair other. ¬ ((pair.first ≡ other.first) × (pair.second ≡ other.second))) pairs

-- the line of a default, where there is one
abbrev pub SaysDefaults : Version → List (List ℕ) → Option Bool → Type 0
SaysDefaults version lines None = lines ≡ []
SaysDefaults version lines (Some value) = (line : List ℕ) × (lines ≡ line ∷ []) × SaysDefault version line value

-- the lines of a kind: one with its name, one for each method in their order, in version 2 its definitions and at most one default, and
-- then its pairs
pub record IsBlock (version : Version) (lines : List (List ℕ)) (kind : SpecifiedKind) : Type 0 where
  pub head : List ℕ
  pub method_lines : List (List ℕ)
  pub definition_lines : List (List ℕ)
  pub default_lines : List (List ℕ)
  pub pair_lines : List (List ℕ)
  pub parts : lines ≡ head ∷ (method_lines ++ (definition_lines ++ (default_lines ++ pair_lines)))
  pub name : SaysKind head kind.name
  pub methods : AllZip SaysMethod method_lines kind.methods
  pub definitions : List SaidDefinition
  pub defines : AllZip (SaysDefinitionOf version kind) definition_lines definitions
  pub opened : Opened
  pub defined : Defines (without_definitions kind) definitions opened
  pub default : Option Bool
  pub defaults : SaysDefaults version default_lines default
  pub pairs : List SaidPair
  pub says : AllZip (SaysPairOf version opened) pair_lines pairs
  pub all : AreItsPairs kind default pairs

-- ---- a text

-- the lines without those that say nothing
pub data WithoutSkipped : List (List ℕ) → List (List ℕ) → Type 0 where
  none_left : WithoutSkipped [] []
  passed_over : {line : List ℕ} {lines kept : List (List ℕ)} → IsSkipped line → WithoutSkipped lines kept → WithoutSkipped (line ∷ lines) kept
  kept_first : {line : List ℕ} {lines kept : List (List ℕ)} → ¬ (IsSkipped line) → WithoutSkipped lines kept → WithoutSkipped (line ∷ lines) (line ∷ kept)

-- the text is a header and a block for each of these kinds, in their order
pub record IsOfBlocks (text : List ℕ) (kinds : List SpecifiedKind) : Type 0 where
  pub lines : List (List ℕ)
  pub cut : AreLines text lines
  pub version : Version
  pub header : List ℕ
  pub blocks : List (List (List ℕ))
  pub parts : WithoutSkipped lines (header ∷ flat_map (λ block. block) blocks)
  pub begins : IsHeaderLine version header
  pub each : AllZip (IsBlock version) blocks kinds
