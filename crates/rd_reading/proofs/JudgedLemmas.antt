-- A line with a formula has a first cause to refuse it, or none.
use Rattle.std.proofs.Common.{◌≡◌, ℕ, List, Option, Some, None, refl, ◌⊎◌, inl, inr}
use Rattle.std.specs.Prelude.{Contains, slice_get}
use Rattle.std.proofs.lemmas.Bool.{cases_lt}
use Rattle.rd_base.specs.declared.limits.LimitName.TheVariants.{FormulaDepth, Nodes, Predicates}
use Rattle.rd_base.specs.declared.limits.TheConstants.{MOST_LEVELS, MOST_NODES, MOST_PREDICATES}
use Rattle.rd_definitions.specs.Definitions.{names_defined}
use Rattle.rd_ecl.specs.Formulas.{Tree, levels, nodes}
use Rattle.rd_ecl.specs.Specified.{IsDraft, formula_at, names_of}
use Rattle.rd_ecl.specs.Variables.{is_one_of}
use Rattle.rd_ecl.proofs.VariableLemmas.{among_decides}
use Rattle.rd_formulas.specs.declared.reading.FormulaRefused.TheVariants as formula
use Rattle.rd_formulas.specs.declared.scope.Scope.{Scope}
use Rattle.rd_formulas.specs.Scope.{HasTerms, SaysTree}
use Rattle.rd_grammar.specs.Grammar.{ParsedTree}
use Rattle.rd_lines.specs.declared.forms.Stage.{Stage}
use Rattle.rd_lines.specs.declared.forms.Version.{Version}
use Rattle.rd_lines.specs.Lines.{IsCommuteLine, IsDefineLine, words_of}
use Rattle.rd_open_kind.specs.Opened.{AreItsDefinitions, Opened, definitions_at}
use Rattle.rd_pairs.specs.Causes.{HasNone, IsFirstOf, place_at}
use Rattle.rd_pairs.specs.PairCauses.{AreNumbers, DefinitionHas, FormulaLineHas, HasManyPredicates, IsDefinedAt, IsNumberOf, IsPaired, IsUnknownAt, IsUnknownOwner, PairHas, SaysDefinition, SaysPair, definition_scope, scope_of, variables_of_method}
use Rattle.rd_pairs.specs.declared.spec_causes.SpecCause.{SpecCause}
use Rattle.rd_pairs.specs.declared.spec_causes.SpecCause.TheVariants.{Duplicate, Limit, NoVariable, OutsideFragment, UnknownMethod, UnknownVariable}
use Rattle.rd_pairs.proofs.DefinitionLemmas.{definition_numbers, definition_terms, owner_different}
use Rattle.rd_pairs.proofs.FormLemmas.{definition_formula, pair_formula}
use Rattle.rd_pairs.proofs.JudgeLemmas.{HasNumbers, IsRight, levels_first, many_first, nodes_first, none_wrong, refused_first, taken_first, unknown_first}
use Rattle.rd_pairs.proofs.MeaningLemmas.{one_formula}
use Rattle.rd_pairs.proofs.NumberLemmas.{AreDifferent, contained}
use Rattle.rd_pairs.proofs.PairLemmas.{first_different, many_or, pair_numbers, pair_terms, second_different, set_not}
use Rattle.rd_tokens.specs.declared.sorts.Token.{Token}
use Rattle.rd_tokens.specs.Tokens.{IsTokenOf, LiesIn}
use Rattle.std.specs.Prelude.{All}
use Rattle.rd_reading.proofs.FormLemmas.{decided}
use Rattle.rd_reading.proofs.TroubleLemmas.{IsTroubledBy, by_bare, by_outside, by_variable, contained_at, troubled_or}

-- there is a first of such causes
abbrev pub HasFirst : (SpecCause → ℕ → Type 0) → Type 0
HasFirst H = (cause : SpecCause) × (place : ℕ) × IsFirstOf H cause place

-- whose numbers are known
module _ (Unknown : ℕ → Type 0) (Methods : ℕ → ℕ → Type 0) (scope : ℕ → ℕ → Scope) (Taken : ℕ → ℕ → ℕ → Type 0) (Many : ℕ → ℕ → Tree → Type 0)
    (line : List ℕ) (tokens : List Token) (read : ParsedTree) (m n : ℕ) (numbers : HasNumbers Unknown Methods m n) (terms : HasTerms (scope m n) read)
    (first : AreDifferent (scope m n).first.now) (second : AreDifferent (scope m n).second.now)
    (taken_or : ((place : ℕ) × Taken m n place) ⊎ ((place : ℕ) → ¬ (Taken m n place))) (many : (f : Tree) → Many m n f ⊎ ¬ (Many m n f)) where
  abbrev Wrong : SpecCause → ℕ → Type 0
  Wrong cause place = FormulaLineHas Unknown Methods scope Taken Many line tokens read cause place

  troubled : IsTroubledBy (scope m n) read → HasFirst Wrong
  troubled (by_variable place is) =
      (UnknownVariable, place, refused_first Unknown Methods scope Taken Many line tokens read m n numbers (formula.UnknownVariable place) is)
  troubled (by_bare place is) = (NoVariable, place, refused_first Unknown Methods scope Taken Many line tokens read m n numbers (formula.NoVariable place) is)
  troubled (by_outside place reason is) =
      (OutsideFragment reason, place, refused_first Unknown Methods scope Taken Many line tokens read m n numbers (formula.OutsideFragment place reason) is)

  -- its formula, where there is no cause
  abbrev IsClean : Type 0
  IsClean = (f : Tree) × SaysTree (scope m n) read f × HasNone Wrong

  judged_right : (f : Tree) → IsRight (scope m n) read f → HasFirst Wrong ⊎ IsClean
  judged_right f right = elim taken_or [
    | inl taken ↦ inl (Duplicate, taken.0, taken_first Unknown Methods scope Taken Many line tokens read m n numbers f right taken.0 taken.1)
    | inr free ↦ elim (cases_lt MOST_NODES (nodes f)) [
      | inl large ↦
          inl (Limit Nodes MOST_NODES, place_at line tokens 3, nodes_first Unknown Methods scope Taken Many line tokens read m n numbers f right free large)
      | inr few ↦ elim (cases_lt MOST_LEVELS (levels f)) [
        | inl deep ↦
            inl (
              Limit FormulaDepth MOST_LEVELS,
              place_at line tokens 3,
              levels_first Unknown Methods scope Taken Many line tokens read m n numbers f right free few deep,
            )
        | inr shallow ↦ elim (many f) [
          | inl over ↦
              inl (
                Limit Predicates MOST_PREDICATES,
                place_at line tokens 3,
                many_first Unknown Methods scope Taken Many line tokens read m n numbers f right free few shallow over,
              )
          | inr room ↦ inr (f, right.says, none_wrong Unknown Methods scope Taken Many line tokens read m n numbers f right free few shallow room)
        ]
      ]
    ]
  ]

  judged_formula : HasFirst Wrong ⊎ IsClean
  judged_formula = elim (troubled_or (scope m n) read terms) [
    | inl is ↦ inl (troubled is)
    | inr found ↦
        judged_right found.0
        (record { says = found.1; inside = found.2; one = λ g says. one_formula (scope m n) first second read g found.0 says found.1 })
  ]

number_or : (names : List (List ℕ)) (name : List ℕ) → ((i : ℕ) × (slice_get names i ≡ Some name)) ⊎ ¬ (Contains names name)
number_or names name = elim (decided (is_one_of name names) (among_decides name names)) [
  | inl among ↦ inl (contained_at names name among)
  | inr lacks ↦ inr lacks
]

-- ---- a pair

-- the pair that is said, with its numbers and its formula
pub record IsCleanPair (version : Version) (opened : Opened) (line : List ℕ) (tokens : List Token) (first second : List ℕ) (read : ParsedTree) : Type 0 where
  pub left : ℕ
  pub right : ℕ
  pub tree : Tree
  pub says : SaysPair version opened line tokens first second read left right tree
  pub clean : HasNone (PairHas version opened line tokens first second read)

module _ (version : Version) (opened : Opened) (line : List ℕ) (tokens : List Token) (within : All (LiesIn line) tokens) (sorts : All (IsTokenOf line) tokens)
    (draft : IsDraft opened.kind) (definitions : AreItsDefinitions opened.kind opened.defined) (stage : Stage) (first second : List ℕ) (read : ParsedTree)
    (right : IsCommuteLine version stage (names_of opened.kind.methods) (words_of line tokens) first second read) where
  PairCauses : SpecCause → ℕ → Type 0
  PairCauses cause place = PairHas version opened line tokens first second read cause place

  paired_or : (m n : ℕ) → ((place : ℕ) × IsPaired opened.kind line tokens m n place) ⊎ ((place : ℕ) → ¬ (IsPaired opened.kind line tokens m n place))
  paired_or m n = by (formula_at opened.kind m n) refl where
    by : (o : Option Tree) → formula_at opened.kind m n ≡ o
        → ((place : ℕ) × IsPaired opened.kind line tokens m n place) ⊎ ((place : ℕ) → ¬ (IsPaired opened.kind line tokens m n place))
    by (Some g) is = inl (place_at line tokens 1, (rw is refl, refl))
    by None is = inr (λ place paired. set_not (formula_at opened.kind m n) is paired.0)

  judged_numbers : (m n : ℕ) → AreNumbers opened.kind first second m n
      → HasFirst (PairHas version opened line tokens first second read) ⊎ IsCleanPair version opened line tokens first second read
  judged_numbers m n are =
      let form = pair_formula version stage (names_of opened.kind.methods) line tokens first second read within sorts right in
      elim (judged_formula (IsUnknownAt (names_of opened.kind.methods) first second line tokens) (AreNumbers opened.kind first second)
      (scope_of version opened line tokens) (IsPaired opened.kind line tokens) (HasManyPredicates opened.kind) line tokens read m n
      (pair_numbers version opened line tokens first second read draft m n are)
      (pair_terms version opened line tokens first second read draft m n are definitions form)
      (first_different version opened line tokens first second read draft m n are) (second_different version opened line tokens first second read draft m n are)
      (paired_or m n) (λ f. many_or opened.kind m n f)) [
        | inl cause ↦ inl cause
        | inr clean ↦ inr (record { left = m; right = n; tree = clean.0; says = record { numbers = are; says = clean.1 }; clean = clean.2 })
      ]

  unknown : (place : ℕ) → IsUnknownAt (names_of opened.kind.methods) first second line tokens place → HasFirst (PairHas version opened line tokens first second read)
  unknown place is = (
    UnknownMethod,
    place,
    unknown_first (IsUnknownAt (names_of opened.kind.methods) first second line tokens) (AreNumbers opened.kind first second)
        (scope_of version opened line tokens) (IsPaired opened.kind line tokens) (HasManyPredicates opened.kind) line tokens read place is,
  )

  pub judged_pair : HasFirst (PairHas version opened line tokens first second read) ⊎ IsCleanPair version opened line tokens first second read
  judged_pair = elim (number_or (names_of opened.kind.methods) first) [
    | inl one ↦ elim (number_or (names_of opened.kind.methods) second) [
      | inl other ↦ judged_numbers one.0 other.0 (record { first_name = one.1; second_name = other.1 })
      | inr lacks ↦ inl (unknown (place_at line tokens 2) (inr (contained (names_of opened.kind.methods) first one.0 one.1, lacks, refl)))
    ]
    | inr lacks ↦ inl (unknown (place_at line tokens 1) (inl (lacks, refl)))
  ]

-- ---- a definition

pub record IsCleanDefinition (opened : Opened) (line : List ℕ) (tokens : List Token) (owner name : List ℕ) (read : ParsedTree) : Type 0 where
  pub number : ℕ
  pub tree : Tree
  pub says : SaysDefinition opened.kind line tokens owner read number tree
  pub clean : HasNone (DefinitionHas opened line tokens owner name read)

module _ (version : Version) (opened : Opened) (line : List ℕ) (tokens : List Token) (within : All (LiesIn line) tokens) (sorts : All (IsTokenOf line) tokens)
    (draft : IsDraft opened.kind) (stage : Stage) (owner name : List ℕ) (read : ParsedTree)
    (right : IsDefineLine version stage (words_of line tokens) owner name read) where
  defined_or : (m n : ℕ) → ((place : ℕ) × IsDefinedAt opened line tokens name m n place) ⊎ ((place : ℕ) → ¬ (IsDefinedAt opened line tokens name m n place))
  defined_or m n = elim (decided (is_one_of name (variables_of_method opened.kind m)) (among_decides name (variables_of_method opened.kind m))) [
    | inl variable ↦ inl (place_at line tokens 2, (inl variable, refl))
    | inr no_variable ↦
        elim (decided (is_one_of name (names_defined (definitions_at opened.defined m))) (among_decides name (names_defined (definitions_at opened.defined m)))) [
          | inl there ↦ inl (place_at line tokens 2, (inr there, refl))
          | inr new ↦ inr (by no_variable new)
        ]
  ] where
    by : ¬ (Contains (variables_of_method opened.kind m) name) → ¬ (Contains (names_defined (definitions_at opened.defined m)) name) → (place : ℕ)
        → ¬ (IsDefinedAt opened line tokens name m n place)
    by no_variable new place (inl is, at) = no_variable is
    by no_variable new place (inr is, at) = new is

  judged_owner : (m : ℕ) → slice_get (names_of opened.kind.methods) m ≡ Some owner
      → HasFirst (DefinitionHas opened line tokens owner name read) ⊎ IsCleanDefinition opened line tokens owner name read
  judged_owner m is =
      let form = definition_formula version stage line tokens owner name read within sorts right in
      elim (judged_formula (IsUnknownOwner opened.kind owner line tokens) (IsNumberOf opened.kind owner) (λ i j. definition_scope opened.kind line tokens i)
      (IsDefinedAt opened line tokens name) (λ i j f. ⊥) line tokens read m m (definition_numbers opened line tokens owner name read draft m is)
      (definition_terms opened line tokens owner name read draft m is form) (owner_different opened line tokens owner name read draft m is)
      (owner_different opened line tokens owner name read draft m is) (defined_or m m) (λ f. inr (λ none. none))) [
        | inl cause ↦ inl cause
        | inr clean ↦ inr (record { number = m; tree = clean.0; says = record { number = is; says = clean.1 }; clean = clean.2 })
      ]

  pub judged_definition : HasFirst (DefinitionHas opened line tokens owner name read) ⊎ IsCleanDefinition opened line tokens owner name read
  judged_definition = elim (number_or (names_of opened.kind.methods) owner) [
    | inl one ↦ judged_owner one.0 one.1
    | inr lacks ↦
        inl (
          UnknownMethod,
          place_at line tokens 1,
          unknown_first (IsUnknownOwner opened.kind owner line tokens) (IsNumberOf opened.kind owner) (λ i j. definition_scope opened.kind line tokens i)
              (IsDefinedAt opened line tokens name) (λ i j f. ⊥) line tokens read (place_at line tokens 1) (lacks, refl),
        )
  ]
