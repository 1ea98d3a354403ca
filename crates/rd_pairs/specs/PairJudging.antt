-- The lines of pairs and definitions as they are judged. Nobody has to believe these: the public contract speaks of causes alone.
use Rattle.std.specs.Prelude.{◌≡◌, ◌<◌, ◌≤◌, ℕ, List, []}
use Rattle.rd_base.specs.declared.limits.LimitName.TheVariants.{Nodes, FormulaDepth}
use Rattle.rd_pairs.specs.declared.spec_causes.Fault.{Fault}
use Rattle.rd_pairs.specs.declared.spec_causes.SpecCause.{SpecCause}
use Rattle.rd_pairs.specs.declared.spec_causes.SpecCause.TheVariants.{UnknownMethod, UnknownVariable, NoVariable, OutsideFragment, Limit}
use Rattle.rd_pairs.specs.PairCauses.{IsUnknownAt}
use Rattle.rd_pairs.specs.Causes.{place_at}
use Rattle.rd_ecl.specs.declared.kinds.Method.{Method}
use Rattle.rd_ecl.specs.Formulas.{Tree, levels, nodes}
use Rattle.rd_ecl.specs.Specified.{SpecifiedKind, names_of}
use Rattle.rd_formulas.specs.declared.scope.Scope.{Scope}
use Rattle.rd_formulas.specs.Scope.{SaysTree}
use Rattle.rd_formulas.specs.declared.reading.FormulaRefused.{FormulaRefused}
use Rattle.rd_formulas.specs.declared.reading.FormulaRefused.TheVariants as formula
use Rattle.rd_grammar.specs.Grammar.{ParsedTree}
use Rattle.rd_tokens.specs.declared.sorts.Token.{Token}
use Rattle.rd_pairs.specs.declared.refused.SpecLineRefused.{SpecLineRefused}
use Rattle.rd_pairs.specs.declared.refused.SpecLineRefused.TheVariants.{Fault as Faulted, NoMemory}
use Rattle.rd_base.specs.declared.limits.TheConstants.{MOST_LEVELS, MOST_NODES}

-- a kind with these methods
abbrev pub kind_with : List Method → SpecifiedKind
kind_with methods = record { name = []; methods = methods; pairs = [] }

-- the scopes are alike in all that is said of them
pub record IsSameScope (scope other : Scope) : Type 0 where
  pub dialect : scope.dialect ≡ other.dialect
  pub line : scope.line.now ≡ other.line.now
  pub tokens : scope.tokens.now ≡ other.tokens.now
  pub first : scope.first.now ≡ other.first.now
  pub second : scope.second.now ≡ other.second.now
  pub first_definitions : scope.first_definitions.now ≡ other.first_definitions.now
  pub second_definitions : scope.second_definitions.now ≡ other.second_definitions.now

-- one of the two methods is unknown
abbrev pub IsUnknownFault : List Method → List ℕ → List ℕ → List ℕ → List Token → Fault → Type 0
IsUnknownFault methods first second line tokens fault =
    (fault.cause ≡ UnknownMethod) × IsUnknownAt (names_of methods) first second line tokens fault.place

-- the refusal of a formula as one of its line; no formula is wrong by the grammar
abbrev pub refusal_of : FormulaRefused → SpecLineRefused
refusal_of (formula.Syntax place) = NoMemory
refusal_of (formula.UnknownVariable place) = Faulted (record { place = place; cause = UnknownVariable })
refusal_of (formula.NoVariable place) = Faulted (record { place = place; cause = NoVariable })
refusal_of (formula.OutsideFragment place reason) = Faulted (record { place = place; cause = OutsideFragment reason })
refusal_of formula.NoMemory = NoMemory

-- the formula, with its names expanded, passes this limit, and none before it
abbrev pub IsFirstLarge : Scope → ParsedTree → SpecCause → Type 0
IsFirstLarge scope read (Limit Nodes number) = ((f : Tree) → SaysTree scope read f → MOST_NODES < nodes f) × (number ≡ MOST_NODES)
IsFirstLarge scope read (Limit FormulaDepth number) =
    ((f : Tree) → SaysTree scope read f → (nodes f ≤ MOST_NODES) × (MOST_LEVELS < levels f)) × (number ≡ MOST_LEVELS)
IsFirstLarge scope read cause = ⊥

-- it passes none
abbrev pub NoneLarge : Scope → ParsedTree → Type 0
NoneLarge scope read = (f : Tree) → SaysTree scope read f → (nodes f ≤ MOST_NODES) × (levels f ≤ MOST_LEVELS)

-- a refusal says that it passes one; want of memory says nothing
abbrev pub IsRefusedLarge : Scope → List ℕ → List Token → ParsedTree → SpecLineRefused → Type 0
IsRefusedLarge scope line tokens read (Faulted fault) = IsFirstLarge scope read fault.cause × (fault.place ≡ place_at line tokens 3)
IsRefusedLarge scope line tokens read NoMemory = Unit {0}
