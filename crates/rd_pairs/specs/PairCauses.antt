-- Why the line of a pair, or of a definition, is refused: this project's profile. Each cause is defined apart from the others, with the
-- place of the leftmost token that has it.
use Rattle.std.specs.Prelude.{◌≡◌, ◌<◌, ◌⊎◌, ℕ, List, [], length, drop, slice_get, unwrap_or, option_map, Contains, Some, IsSome}
use Rattle.rd_base.specs.declared.limits.LimitName.TheVariants.{Nodes, FormulaDepth, Predicates}
use Rattle.rd_base.specs.declared.limits.TheConstants.{MOST_LEVELS, MOST_NODES, MOST_PREDICATES}
use Rattle.rd_ecl.specs.Formulas.{Tree, nodes, levels}
use Rattle.rd_ecl.specs.Specified.{SpecifiedKind, formula_at, method_predicates, names_of, with_pair}
use Rattle.rd_definitions.specs.Definitions.{names_defined}
use Rattle.rd_open_kind.specs.Opened.{Opened, definitions_at}
use Rattle.rd_lines.specs.declared.forms.Version.{Version}
use Rattle.rd_lines.specs.Lines.{dialect_of}
use Rattle.rd_tokens.specs.declared.words.dialects.Dialect.TheVariants.{Unsided}
use Rattle.rd_formulas.specs.declared.reading.FormulaRefused.{FormulaRefused}
use Rattle.rd_formulas.specs.declared.reading.FormulaRefused.TheVariants as formula
use Rattle.rd_formulas.specs.declared.scope.Scope.{Scope}
use Rattle.rd_formulas.specs.Reading.{IsTroubled}
use Rattle.rd_formulas.specs.Scope.{SaysTree}
use Rattle.rd_grammar.specs.Grammar.{ParsedTree}
use Rattle.rd_pairs.specs.Causes.{place_at}
use Rattle.rd_pairs.specs.declared.spec_causes.SpecCause.{SpecCause}
use Rattle.rd_pairs.specs.declared.spec_causes.SpecCause.TheVariants.{UnknownMethod, UnknownVariable, NoVariable, OutsideFragment, Duplicate, Limit}
use Rattle.rd_tokens.specs.declared.sorts.Token.{Token}

-- the methods with these names have these numbers in the kind
pub record AreNumbers (kind : SpecifiedKind) (first second : List ℕ) (m n : ℕ) : Type 0 where
  pub first_name : slice_get (names_of kind.methods) m ≡ Some first
  pub second_name : slice_get (names_of kind.methods) n ≡ Some second

-- the variables of the method with this number; none where no method has it
abbrev pub variables_of_method : SpecifiedKind → ℕ → List (List ℕ)
variables_of_method kind number = unwrap_or (option_map (λ method. method.variables) (slice_get kind.methods number)) []

-- the words behind `when` of a pair's line, with the variables and definitions of two methods
abbrev pub scope_of : Version → Opened → List ℕ → List Token → ℕ → ℕ → Scope
scope_of version opened line tokens m n = record {
  dialect = dialect_of version;
  line = record { ref_ptr = (0, 0); now = line };
  tokens = record { ref_ptr = (0, 0); now = drop 4 tokens };
  first = record { ref_ptr = (0, 0); now = variables_of_method opened.kind m };
  second = record { ref_ptr = (0, 0); now = variables_of_method opened.kind n };
  first_definitions = record { ref_ptr = (0, 0); now = definitions_at opened.defined m };
  second_definitions = record { ref_ptr = (0, 0); now = definitions_at opened.defined n };
}

-- those of a definition, whose variables have no side; no definition is used in it
abbrev pub definition_scope : SpecifiedKind → List ℕ → List Token → ℕ → Scope
definition_scope kind line tokens m = record {
  dialect = Unsided;
  line = record { ref_ptr = (0, 0); now = line };
  tokens = record { ref_ptr = (0, 0); now = drop 4 tokens };
  first = record { ref_ptr = (0, 0); now = variables_of_method kind m };
  second = record { ref_ptr = (0, 0); now = variables_of_method kind m };
  first_definitions = record { ref_ptr = (0, 0); now = [] };
  second_definitions = record { ref_ptr = (0, 0); now = [] };
}

-- the methods of the pair are known, and its formula is this, with the names expanded
pub record SaysPair (version : Version) (opened : Opened) (line : List ℕ) (tokens : List Token) (first second : List ℕ) (read : ParsedTree) (m n : ℕ) (formula : Tree) : Type 0 where
  pub numbers : AreNumbers opened.kind first second m n
  pub says : SaysTree (scope_of version opened line tokens m n) read formula

-- the method of the definition is known, and its formula is this
pub record SaysDefinition (kind : SpecifiedKind) (line : List ℕ) (tokens : List Token) (owner : List ℕ) (read : ParsedTree) (m : ℕ) (formula : Tree) : Type 0 where
  pub number : slice_get (names_of kind.methods) m ≡ Some owner
  pub says : SaysTree (definition_scope kind line tokens m) read formula

-- ---- a line with a formula. The two forms of such lines differ in what makes a method unknown, in the numbers of the methods of the two
-- sides, in the words behind `when`, in what is there already, and in what counts predicates

module _ (Unknown : ℕ → Type 0) (Methods : ℕ → ℕ → Type 0) (scope : ℕ → ℕ → Scope) (Taken : ℕ → ℕ → ℕ → Type 0) (Many : ℕ → ℕ → Tree → Type 0) (line : List ℕ) (tokens : List Token) (read : ParsedTree) where
  -- the formula, whose methods are known, is troubled by this; variables, names, relations and the fragment are defined with formulas
  abbrev pub FormulaHas : FormulaRefused → Type 0
  FormulaHas refused = (m : ℕ) × (n : ℕ) × Methods m n × IsTroubled (scope m n) read refused

  -- the formula, with the names expanded, is too large in this way; the place is that of the word `when`
  abbrev pub FormulaPasses : (ℕ → ℕ → Tree → Type 0) → ℕ → Type 0
  FormulaPasses Large place =
      (m : ℕ) × (n : ℕ) × (f : Tree) × Methods m n × SaysTree (scope m n) read f × Large m n f × (place ≡ place_at line tokens 3)

  abbrev pub FormulaLineHas : SpecCause → ℕ → Type 0
  FormulaLineHas UnknownMethod place = Unknown place
  FormulaLineHas UnknownVariable place = FormulaHas (formula.UnknownVariable place)
  FormulaLineHas NoVariable place = FormulaHas (formula.NoVariable place)
  FormulaLineHas (OutsideFragment reason) place = FormulaHas (formula.OutsideFragment place reason)
  FormulaLineHas Duplicate place = (m : ℕ) × (n : ℕ) × Methods m n × Taken m n place
  FormulaLineHas (Limit Nodes number) place = FormulaPasses (λ m n f. MOST_NODES < nodes f) place × (number ≡ MOST_NODES)
  FormulaLineHas (Limit FormulaDepth number) place = FormulaPasses (λ m n f. MOST_LEVELS < levels f) place × (number ≡ MOST_LEVELS)
  FormulaLineHas (Limit Predicates number) place = FormulaPasses Many place × (number ≡ MOST_PREDICATES)
  FormulaLineHas cause place = ⊥

-- ---- a pair

-- one of the two methods is unknown
abbrev pub IsUnknownAt : List (List ℕ) → List ℕ → List ℕ → List ℕ → List Token → ℕ → Type 0
IsUnknownAt methods first second line tokens place =
    (¬ (Contains methods first) × (place ≡ place_at line tokens 1))
    ⊎ (Contains methods first × ¬ (Contains methods second) × (place ≡ place_at line tokens 2))

-- the pair has a line already
abbrev pub IsPaired : SpecifiedKind → List ℕ → List Token → ℕ → ℕ → ℕ → Type 0
IsPaired kind line tokens m n place = IsSome (formula_at kind m n) × (place ≡ place_at line tokens 1)

-- with the formula, a method of the pair has more than 5 distinct relations on its side alone
abbrev pub HasManyPredicates : SpecifiedKind → ℕ → ℕ → Tree → Type 0
HasManyPredicates kind m n f =
    (MOST_PREDICATES < length (method_predicates (with_pair kind m n f) m))
    ⊎ (MOST_PREDICATES < length (method_predicates (with_pair kind m n f) n))

abbrev pub PairHas : Version → Opened → List ℕ → List Token → List ℕ → List ℕ → ParsedTree → SpecCause → ℕ → Type 0
PairHas version opened line tokens first second read cause place =
    FormulaLineHas (IsUnknownAt (names_of opened.kind.methods) first second line tokens) (AreNumbers opened.kind first second)
    (scope_of version opened line tokens) (IsPaired opened.kind line tokens) (HasManyPredicates opened.kind) line tokens read cause place

-- ---- a definition

-- its method is unknown
abbrev pub IsUnknownOwner : SpecifiedKind → List ℕ → List ℕ → List Token → ℕ → Type 0
IsUnknownOwner kind owner line tokens place = ¬ (Contains (names_of kind.methods) owner) × (place ≡ place_at line tokens 1)

-- the method with this name has this number, on both sides
abbrev pub IsNumberOf : SpecifiedKind → List ℕ → ℕ → ℕ → Type 0
IsNumberOf kind owner m n = (slice_get (names_of kind.methods) m ≡ Some owner) × (n ≡ m)

-- the name is a variable or a definition of the method already
abbrev pub IsDefinedAt : Opened → List ℕ → List Token → List ℕ → ℕ → ℕ → ℕ → Type 0
IsDefinedAt opened line tokens name m n place =
    (Contains (variables_of_method opened.kind m) name ⊎ Contains (names_defined (definitions_at opened.defined m)) name)
    × (place ≡ place_at line tokens 2)

-- no predicate is counted
abbrev pub DefinitionHas : Opened → List ℕ → List Token → List ℕ → List ℕ → ParsedTree → SpecCause → ℕ → Type 0
DefinitionHas opened line tokens owner name read cause place =
    FormulaLineHas (IsUnknownOwner opened.kind owner line tokens) (IsNumberOf opened.kind owner) (λ m n. definition_scope opened.kind line tokens m)
    (IsDefinedAt opened line tokens name) (λ m n f. ⊥) line tokens read cause place
