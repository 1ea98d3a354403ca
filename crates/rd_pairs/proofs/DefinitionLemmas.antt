-- The first thing that is wrong with the line of a definition.
use Rattle.std.proofs.Common.{◌≡◌, ℕ, ◌<◌, Bor, Bool, true, false, List, length, Option, Some, None, refl, sym, ◌∙◌, subst, inl, inr, true≢false}
use Rattle.std.specs.Prelude.{Contains, IfNone, IfSome, IsTrue, is_some, slice_get, ◌⊎◌}
use Rattle.std.proofs.lemmas.Option.{none-some}
use Rattle.rd_definitions.specs.Definitions.{Definition, IsDefined, formula_of, names_defined}
use Rattle.rd_definitions.proofs.DefinitionLemmas.{none_if_unnamed, unnamed_if_none}
use Rattle.rd_ecl.specs.declared.formulas.Formula.{Formula}
use Rattle.rd_ecl.specs.declared.kinds.Method.{Method}
use Rattle.rd_ecl.specs.Formulas.{InFragment, Tree, tree_of}
use Rattle.rd_ecl.specs.Specified.{IsDraft, SpecifiedKind, names_of, slots_at}
use Rattle.rd_ecl.specs.Variables.{is_one_of}
use Rattle.rd_ecl.proofs.VariableLemmas.{among_decides}
use Rattle.rd_formulas.specs.declared.reading.FormulaRefused.{FormulaRefused}
use Rattle.rd_formulas.specs.declared.scope.Scope.{Scope}
use Rattle.rd_formulas.specs.Reading.{IsTroubled}
use Rattle.rd_formulas.specs.Scope.{HasTerms, IsReady, IsScope, Outlines, SaysTree}
use Rattle.rd_formulas.proofs.BuildingLemmas.{given_of}
use Rattle.rd_formulas.proofs.ReadingLemmas.{has_terms}
use Rattle.rd_formulas.proofs.SayingLemmas.{says_some, unsided_alone}
use Rattle.rd_grammar.specs.Grammar.{ParsedTree}
use Rattle.rd_open_kind.specs.Opened.{Opened, definitions_at}
use Rattle.rd_pairs.specs.declared.refused.SpecLineRefused.{SpecLineRefused}
use Rattle.rd_pairs.specs.declared.spec_causes.SpecCause.{SpecCause}
use Rattle.rd_pairs.specs.declared.spec_causes.SpecCause.TheVariants.{Duplicate, UnknownMethod}
use Rattle.rd_pairs.specs.Causes.{HasNone, IsFirstOf, IsSpecLineRefused, place_at}
use Rattle.rd_pairs.specs.PairCauses.{DefinitionHas, IsDefinedAt, IsNumberOf, IsUnknownOwner, SaysDefinition, definition_scope, variables_of_method}
use Rattle.rd_pairs.specs.PairJudging.{IsSameScope, IsRefusedLarge, NoneLarge, refusal_of}
use Rattle.rd_pairs.proofs.FormLemmas.{HasFormula}
use Rattle.rd_pairs.proofs.JudgeLemmas.{HasNumbers, IsRight, clean_few, clean_inside, clean_shallow, large_first, none_wrong, refused_first, taken_first, unknown_first}
use Rattle.rd_pairs.proofs.MeaningLemmas.{given_values}
use Rattle.rd_pairs.proofs.NumberLemmas.{AreDifferent, contained, number_within, one_place}
use Rattle.rd_pairs.proofs.PairLemmas.{said_right}
use Rattle.rd_pairs.proofs.ScopeLemmas.{definition_is_scope, moved, slots_are, variables_are}
use Rattle.rd_tokens.specs.declared.sorts.Token.{Token}
use Rattle.rd_tokens.specs.declared.words.dialects.Dialect.TheVariants.{Unsided}

-- a name that isn't one of these variables is there already where it stands for a formula
named_if_some : (ds : List Definition) (name : List ℕ) (f : Tree) → formula_of ds name ≡ Some f → Contains (names_defined ds) name
named_if_some ds name f found = by (is_one_of name (names_defined ds)) refl where
  by : (test : Bool) → is_one_of name (names_defined ds) ≡ test → Contains (names_defined ds) name
  by true is = (among_decides name (names_defined ds)).0 is
  by false is =
      let none = none_if_unnamed ds name (λ there. true≢false (sym ((among_decides name (names_defined ds)).1 there) ∙ is)) in
      absurd (none-some f (sym none ∙ found))

pub defined_if : (found : Option (Bor Formula)) (ds : List Definition) (variables : List (List ℕ)) (name : List ℕ)
    → IfSome found (λ formula. formula_of ds name ≡ Some (tree_of formula.now)) → IfNone found (formula_of ds name ≡ None) → ¬ (Contains variables name)
    → (IsTrue (is_some found) → Contains variables name ⊎ Contains (names_defined ds) name)
    × (Contains variables name ⊎ Contains (names_defined ds) name → IsTrue (is_some found))
defined_if None ds variables name some none lacks = (
  (λ is. absurd (cc)),
  λ there. elim there [
    | inl variable ↦ absurd (lacks variable)
    | inr defined ↦ absurd (unnamed_if_none ds name none defined)
  ],
)
defined_if (Some f) ds variables name some none lacks = ((λ is. inr (named_if_some ds name (tree_of f.now) some)), λ there. refl)

-- the number of a method, as that of a kind that is being made
pub number_is : (kind : SpecifiedKind) (methods : List Method) (owner : List ℕ) (m : ℕ) → methods ≡ kind.methods → slice_get (names_of methods) m ≡ Some owner
    → slice_get (names_of kind.methods) m ≡ Some owner
number_is kind methods owner m same is = subst (λ (ms : List Method). slice_get (names_of ms) m ≡ Some owner) same is

module _ (opened : Opened) (line : List ℕ) (tokens : List Token) (owner name : List ℕ) (read : ParsedTree) where
  abbrev Unknown : ℕ → Type 0
  Unknown place = IsUnknownOwner opened.kind owner line tokens place

  abbrev Numbers : ℕ → ℕ → Type 0
  Numbers i j = IsNumberOf opened.kind owner i j

  abbrev Taken : ℕ → ℕ → ℕ → Type 0
  Taken i j place = IsDefinedAt opened line tokens name i j place

  abbrev Many : ℕ → ℕ → Tree → Type 0
  Many i j f = ⊥

  abbrev ScopeOf : ℕ → ℕ → Scope
  ScopeOf i j = definition_scope opened.kind line tokens i

  abbrev Wrong : SpecCause → ℕ → Type 0
  Wrong cause place = DefinitionHas opened line tokens owner name read cause place

  -- the name is a variable or a definition of the method already
  abbrev pub IsThere : ℕ → Type 0
  IsThere number = Contains (variables_of_method opened.kind number) name ⊎ Contains (names_defined (definitions_at opened.defined number)) name

  -- a method that is unknown is told first
  pub owner_unknown : (methods : List Method) → methods ≡ opened.kind.methods → ¬ (Contains (names_of methods) owner)
      → IsFirstOf Wrong UnknownMethod (place_at line tokens 1)
  owner_unknown methods same lacks =
      unknown_first Unknown Numbers ScopeOf Taken Many line tokens read (place_at line tokens 1)
      (subst (λ (ms : List Method). ¬ (Contains (names_of ms) owner)) same lacks, refl)

  module _ (draft : IsDraft opened.kind) (m : ℕ) (is : slice_get (names_of opened.kind.methods) m ≡ Some owner) where
    one_number : (i j : ℕ) → Numbers i j → (i ≡ m) × (j ≡ m)
    one_number i j (here, same) =
        let one = one_place (names_of opened.kind.methods) owner i m draft.methods.different here is in
        (one, same ∙ one)

    pub definition_numbers : HasNumbers Unknown Numbers m m
    definition_numbers = record {
      known = λ place unknown. unknown.0 (contained (names_of opened.kind.methods) owner m is);
      are = (is, refl);
      one = one_number;
    }

    pub owner_known : m < length opened.kind.methods
    owner_known = number_within opened.kind.methods owner m is

    pub owner_different : AreDifferent (ScopeOf m m).first.now
    owner_different = (variables_are opened.kind.methods m draft.methods owner_known).different

    -- what is wrong with the formula is told first
    pub definition_refused : (scope : Scope) → IsSameScope scope (ScopeOf m m) → (refused : FormulaRefused) → IsTroubled scope read refused
        → IsSpecLineRefused Wrong (refusal_of refused)
    definition_refused scope alike refused troubled =
        refused_first Unknown Numbers ScopeOf Taken Many line tokens read m m definition_numbers refused
        (moved (λ (s : Scope). IsTroubled s read refused) scope (ScopeOf m m) alike troubled)

    module _ (form : HasFormula Unsided line tokens read) where
      pub definition_scoped : IsScope (ScopeOf m m)
      definition_scoped = definition_is_scope opened line tokens form.within form.sorts draft m owner_known

      pub definition_terms : HasTerms (ScopeOf m m) read
      definition_terms = has_terms (ScopeOf m m) form.marks read definition_scoped form.marked form.says

      -- a line that is clean says what may be defined
      module _ (f : Tree) (says : SaysTree (ScopeOf m m) read f) (clean : HasNone Wrong) where
        pub definition_may : IsDefined (slots_at opened.kind.methods m) (record { name = name; formula = f })
        definition_may =
            let of = given_of (ScopeOf m m) read f definition_scoped says in
            record {
              pair = record {
                fits = rw (← slots_are opened.kind m) of.0;
                slots = of.1;
                values = given_values (ScopeOf m m) read f definition_scoped says;
                inside = clean_inside Unknown Numbers ScopeOf Taken Many line tokens read clean m m (is, refl) f says;
                few = clean_few Unknown Numbers ScopeOf Taken Many line tokens read clean m m (is, refl) f says;
                shallow = clean_shallow Unknown Numbers ScopeOf Taken Many line tokens read clean m m (is, refl) f says;
              };
              alone = unsided_alone (ScopeOf m m) read f refl definition_terms says;
            }

        pub definition_new : formula_of (definitions_at opened.defined m) name ≡ None
        definition_new =
            none_if_unnamed (definitions_at opened.defined m) name
            (λ there. clean Duplicate (place_at line tokens 2) (m, m, (is, refl), (inr there, refl)))

      -- the formula alone is right, by its outline in a scope that is alike
      module _ (scope : Scope) (alike : IsSameScope scope (ScopeOf m m)) (outline : Tree) (outlines : Outlines scope read outline) (inside : InFragment outline)
          (ready : IsReady scope read) where
        outlined_here : Outlines (ScopeOf m m) read outline
        outlined_here = moved (λ (s : Scope). Outlines s read outline) scope (ScopeOf m m) alike outlines

        right_if : (f : Tree) → SaysTree (ScopeOf m m) read f → IsRight (ScopeOf m m) read f
        right_if f says = said_right (ScopeOf m m) read f outline definition_scoped owner_different owner_different says outlined_here inside

        right_some : (f : Tree) × IsRight (ScopeOf m m) read f
        right_some =
            let (f, says) = says_some (ScopeOf m m) read definition_terms (moved (λ (s : Scope). IsReady s read) scope (ScopeOf m m) alike ready) in
            (f, right_if f says)

        -- a name that is there is told before what is too large
        pub definition_taken : IsThere m → IsFirstOf Wrong Duplicate (place_at line tokens 2)
        definition_taken there =
            let (f, right) = right_some in
            taken_first Unknown Numbers ScopeOf Taken Many line tokens read m m definition_numbers f right (place_at line tokens 2) (there, refl)

        module _ (none : ¬ (IsThere m)) where
          free : (place : ℕ) → ¬ (Taken m m place)
          free place (there, is) = none there

          -- then the first limit that is passed
          pub definition_large : (refused : SpecLineRefused) → IsRefusedLarge scope line tokens read refused → IsSpecLineRefused Wrong refused
          definition_large refused large =
              let (f, right) = right_some in
              large_first Unknown Numbers ScopeOf Taken Many line tokens read m m definition_numbers f right free refused
              (moved (λ (s : Scope). IsRefusedLarge s line tokens read refused) scope (ScopeOf m m) alike large)

          module _ (f : Tree) (told : SaysTree scope read f) (small : NoneLarge scope read) where
            pub definition_says_here : SaysTree (ScopeOf m m) read f
            definition_says_here = moved (λ (s : Scope). SaysTree s read f) scope (ScopeOf m m) alike told

            pub definition_says : SaysDefinition opened.kind line tokens owner read m f
            definition_says = record { number = is; says = definition_says_here }

            pub definition_clean : HasNone Wrong
            definition_clean =
                none_wrong Unknown Numbers ScopeOf Taken Many line tokens read m m definition_numbers f (right_if f definition_says_here) free
                (small f told).0 (small f told).1 (λ many. many)
