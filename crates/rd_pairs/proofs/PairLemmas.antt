-- The first thing that is wrong with the line of a pair.
use Rattle.std.proofs.Common.{◌≡◌, ℕ, ◌<◌, ◌≤◌, List, length, Option, Some, None, refl, sym, subst, arith, false, inl, inr}
use Rattle.std.specs.Prelude.{IsSome, is_some, slice_get, ◌⊎◌}
use Rattle.std.proofs.lemmas.Bool.{cases_lt}
use Rattle.rd_base.specs.declared.limits.LimitName.TheVariants.{Predicates}
use Rattle.rd_base.specs.declared.limits.TheConstants.{MOST_PREDICATES}
use Rattle.rd_ecl.specs.declared.kinds.Method.{Method}
use Rattle.rd_ecl.specs.Formulas.{InFragment, Tree}
use Rattle.rd_ecl.specs.Specified.{IsDraft, MayPair, SpecifiedKind, formula_at, method_predicates, names_of, with_pair}
use Rattle.rd_formulas.specs.declared.reading.FormulaRefused.{FormulaRefused}
use Rattle.rd_formulas.specs.declared.scope.Scope.{Scope}
use Rattle.rd_formulas.specs.Reading.{IsTroubled}
use Rattle.rd_formulas.specs.Scope.{HasTerms, IsReady, IsScope, Outlines, SaysTree}
use Rattle.rd_formulas.proofs.BuildingLemmas.{given_of}
use Rattle.rd_formulas.proofs.OutlineLemmas.{inside_alike}
use Rattle.rd_formulas.proofs.ReadingLemmas.{has_terms}
use Rattle.rd_formulas.proofs.SayingLemmas.{says_some}
use Rattle.rd_grammar.specs.Grammar.{ParsedTree}
use Rattle.rd_lines.specs.declared.forms.Version.{Version}
use Rattle.rd_lines.specs.Lines.{IsOutOfOrder, dialect_of}
use Rattle.rd_open_kind.specs.Opened.{AreItsDefinitions, Opened}
use Rattle.rd_pairs.specs.declared.refused.SpecLineRefused.{SpecLineRefused}
use Rattle.rd_pairs.specs.declared.spec_causes.Fault.{Fault}
use Rattle.rd_pairs.specs.declared.spec_causes.SpecCause.{SpecCause}
use Rattle.rd_pairs.specs.declared.spec_causes.SpecCause.TheVariants.{Duplicate, Limit}
use Rattle.rd_pairs.specs.Causes.{HasNone, IsFirstOf, IsSpecLineRefused, place_at}
use Rattle.rd_pairs.specs.PairCauses.{AreNumbers, HasManyPredicates, IsPaired, IsUnknownAt, PairHas, SaysPair, scope_of}
use Rattle.rd_pairs.specs.PairJudging.{IsSameScope, IsRefusedLarge, IsUnknownFault, NoneLarge, refusal_of}
use Rattle.rd_pairs.proofs.FormLemmas.{HasFormula}
use Rattle.rd_pairs.proofs.JudgeLemmas.{HasNumbers, IsRight, at_most, clean_few, clean_inside, clean_shallow, large_first, many_first, none_wrong, refused_first, taken_first, unknown_first}
use Rattle.rd_pairs.proofs.MeaningLemmas.{given_values, one_formula}
use Rattle.rd_pairs.proofs.NumberLemmas.{AreDifferent, contained, in_order, number_within, one_pair}
use Rattle.rd_pairs.proofs.ScopeLemmas.{moved, pair_is_scope, slots_are, variables_are}
use Rattle.rd_tokens.specs.declared.sorts.Token.{Token}

-- what is read in a scope that is one is right, where what is outlined is in the fragment
pub said_right : (scope : Scope) (read : ParsedTree) (f g : Tree) → IsScope scope → AreDifferent scope.first.now → AreDifferent scope.second.now
    → SaysTree scope read f → Outlines scope read g → InFragment g → IsRight scope read f
said_right scope read f g is first second says outlines inside = record {
  says = says;
  inside = inside_alike scope read f g is says outlines inside;
  one = λ h told. one_formula scope first second read h f told says;
}

-- a pair that isn't set has no formula
pub unset : (o : Option Tree) → ¬ (IsSome o) → o ≡ None
unset None h = refl
unset (Some f) h = absurd (h refl)

pub not_set : (o : Option Tree) → is_some o ≡ false → o ≡ None
not_set None is = refl
not_set (Some f) is = absurd (cc)

pub set_not : (o : Option Tree) → o ≡ None → ¬ (IsSome o)
set_not None is some = absurd (cc)
set_not (Some f) is some = absurd (cc)

-- a formula gives a method of the pair many relations, or none
pub many_or : (kind : SpecifiedKind) (m n : ℕ) (f : Tree) → HasManyPredicates kind m n f ⊎ ¬ (HasManyPredicates kind m n f)
many_or kind m n f = elim (cases_lt MOST_PREDICATES (length (method_predicates (with_pair kind m n f) m))) [
  | inl many ↦ inl (inl many)
  | inr first ↦ elim (cases_lt MOST_PREDICATES (length (method_predicates (with_pair kind m n f) n))) [
    | inl many ↦ inl (inr many)
    | inr second ↦ inr (by first second)
  ]
] where
  by : length (method_predicates (with_pair kind m n f) m) ≤ MOST_PREDICATES → length (method_predicates (with_pair kind m n f) n) ≤ MOST_PREDICATES
      → ¬ (HasManyPredicates kind m n f)
  by first second (inl many) = omega (arith, first, many)
  by first second (inr many) = omega (arith, second, many)

pub many_if : (kind : SpecifiedKind) (m n : ℕ) (f : Tree) → ¬ (¬ (HasManyPredicates kind m n f)) → HasManyPredicates kind m n f
many_if kind m n f never = elim (many_or kind m n f) [ inl many ↦ many | inr room ↦ absurd (never room) ]

-- the numbers of two methods, as those of a kind that is being made
pub numbers_are : (kind : SpecifiedKind) (methods : List Method) (first second : List ℕ) (m n : ℕ) → methods ≡ kind.methods
    → slice_get (names_of methods) m ≡ Some first → slice_get (names_of methods) n ≡ Some second → AreNumbers kind first second m n
numbers_are kind methods first second m n same one other = record {
  first_name = subst (λ (ms : List Method). slice_get (names_of ms) m ≡ Some first) same one;
  second_name = subst (λ (ms : List Method). slice_get (names_of ms) n ≡ Some second) same other;
}

module _ (version : Version) (opened : Opened) (line : List ℕ) (tokens : List Token) (first second : List ℕ) (read : ParsedTree) where
  abbrev Unknown : ℕ → Type 0
  Unknown place = IsUnknownAt (names_of opened.kind.methods) first second line tokens place

  abbrev Numbers : ℕ → ℕ → Type 0
  Numbers i j = AreNumbers opened.kind first second i j

  abbrev Taken : ℕ → ℕ → ℕ → Type 0
  Taken i j place = IsPaired opened.kind line tokens i j place

  abbrev Many : ℕ → ℕ → Tree → Type 0
  Many i j f = HasManyPredicates opened.kind i j f

  abbrev ScopeOf : ℕ → ℕ → Scope
  ScopeOf i j = scope_of version opened line tokens i j

  abbrev Wrong : SpecCause → ℕ → Type 0
  Wrong cause place = PairHas version opened line tokens first second read cause place

  -- a method that is unknown is told first
  pub pair_unknown : (methods : List Method) (fault : Fault) → methods ≡ opened.kind.methods → IsUnknownFault methods first second line tokens fault
      → IsFirstOf Wrong fault.cause fault.place
  pair_unknown methods fault same (is, unknown) =
      let here = subst (λ (ms : List Method). IsUnknownAt (names_of ms) first second line tokens fault.place) same unknown in
      subst (λ (cause : SpecCause). IsFirstOf Wrong cause fault.place) (sym is)
      (unknown_first Unknown Numbers ScopeOf Taken Many line tokens read fault.place here)

  module _ (draft : IsDraft opened.kind) (m n : ℕ) (are : AreNumbers opened.kind first second m n) where
    no_method : (place : ℕ) → ¬ (Unknown place)
    no_method place (inl (lacks, is)) = lacks (contained (names_of opened.kind.methods) first m are.first_name)
    no_method place (inr (known, lacks, is)) = lacks (contained (names_of opened.kind.methods) second n are.second_name)

    pub pair_numbers : HasNumbers Unknown Numbers m n
    pair_numbers = record {
      known = no_method;
      are = are;
      one = λ i j others. one_pair opened.kind first second m n i j draft.methods.different are others;
    }

    pub first_known : m < length opened.kind.methods
    first_known = number_within opened.kind.methods first m are.first_name

    pub second_known : n < length opened.kind.methods
    second_known = number_within opened.kind.methods second n are.second_name

    pub first_different : AreDifferent (ScopeOf m n).first.now
    first_different = (variables_are opened.kind.methods m draft.methods first_known).different

    pub second_different : AreDifferent (ScopeOf m n).second.now
    second_different = (variables_are opened.kind.methods n draft.methods second_known).different

    -- what is wrong with the formula is told first
    pub pair_refused : (scope : Scope) → IsSameScope scope (ScopeOf m n) → (refused : FormulaRefused) → IsTroubled scope read refused
        → IsSpecLineRefused Wrong (refusal_of refused)
    pair_refused scope alike refused troubled =
        refused_first Unknown Numbers ScopeOf Taken Many line tokens read m n pair_numbers refused
        (moved (λ (s : Scope). IsTroubled s read refused) scope (ScopeOf m n) alike troubled)

    module _ (definitions : AreItsDefinitions opened.kind opened.defined) (form : HasFormula (dialect_of version) line tokens read) where
      pub pair_scoped : IsScope (ScopeOf m n)
      pair_scoped = pair_is_scope opened line tokens form.within form.sorts draft version m n definitions first_known second_known

      pub pair_terms : HasTerms (ScopeOf m n) read
      pair_terms = has_terms (ScopeOf m n) form.marks read pair_scoped form.marked form.says

      -- a line that is clean says a pair that may be set
      pub pair_may : (f : Tree) → ¬ (IsOutOfOrder (names_of opened.kind.methods) first second) → SaysTree (ScopeOf m n) read f → HasNone Wrong
          → MayPair opened.kind m n f
      pair_may f order says clean =
          let of = given_of (ScopeOf m n) read f pair_scoped says in
          let few_predicates : ¬ (HasManyPredicates opened.kind m n f) =
          λ many. clean (Limit Predicates MOST_PREDICATES) (place_at line tokens 3) ((m, n, f, are, says, many, refl), refl) in
          record {
            ordered = in_order (names_of opened.kind.methods) first second m n draft.methods.different order are.first_name are.second_name;
            known = second_known;
            unset = unset (formula_at opened.kind m n) (λ some. clean Duplicate (place_at line tokens 1) (m, n, are, (some, refl)));
            pair = record {
              fits = rw (← slots_are opened.kind m, ← slots_are opened.kind n) of.0;
              slots = of.1;
              values = given_values (ScopeOf m n) read f pair_scoped says;
              inside = clean_inside Unknown Numbers ScopeOf Taken Many line tokens read clean m n are f says;
              few = clean_few Unknown Numbers ScopeOf Taken Many line tokens read clean m n are f says;
              shallow = clean_shallow Unknown Numbers ScopeOf Taken Many line tokens read clean m n are f says;
            };
            few_first = at_most MOST_PREDICATES _ (λ large. few_predicates (inl large));
            few_second = at_most MOST_PREDICATES _ (λ large. few_predicates (inr large));
          }

      -- the formula alone is right, by its outline in a scope that is alike
      module _ (scope : Scope) (alike : IsSameScope scope (ScopeOf m n)) (outline : Tree) (outlines : Outlines scope read outline) (inside : InFragment outline)
          (ready : IsReady scope read) where
        outlined_here : Outlines (ScopeOf m n) read outline
        outlined_here = moved (λ (s : Scope). Outlines s read outline) scope (ScopeOf m n) alike outlines

        right_if : (f : Tree) → SaysTree (ScopeOf m n) read f → IsRight (ScopeOf m n) read f
        right_if f says = said_right (ScopeOf m n) read f outline pair_scoped first_different second_different says outlined_here inside

        right_some : (f : Tree) × IsRight (ScopeOf m n) read f
        right_some =
            let (f, says) = says_some (ScopeOf m n) read pair_terms (moved (λ (s : Scope). IsReady s read) scope (ScopeOf m n) alike ready) in
            (f, right_if f says)

        -- a pair that is set is told before what is too large
        pub pair_taken : IsSome (formula_at opened.kind m n) → IsFirstOf Wrong Duplicate (place_at line tokens 1)
        pair_taken some =
            let (f, right) = right_some in
            taken_first Unknown Numbers ScopeOf Taken Many line tokens read m n pair_numbers f right (place_at line tokens 1) (some, refl)

        module _ (none : formula_at opened.kind m n ≡ None) where
          free : (place : ℕ) → ¬ (Taken m n place)
          free place (some, is) = set_not (formula_at opened.kind m n) none some

          -- then the first limit that is passed
          pub pair_large : (refused : SpecLineRefused) → IsRefusedLarge scope line tokens read refused → IsSpecLineRefused Wrong refused
          pair_large refused large =
              let (f, right) = right_some in
              large_first Unknown Numbers ScopeOf Taken Many line tokens read m n pair_numbers f right free refused
              (moved (λ (s : Scope). IsRefusedLarge s line tokens read refused) scope (ScopeOf m n) alike large)

          module _ (f : Tree) (told : SaysTree scope read f) (small : NoneLarge scope read) where
            pub says_here : SaysTree (ScopeOf m n) read f
            says_here = moved (λ (s : Scope). SaysTree s read f) scope (ScopeOf m n) alike told

            pub pair_says : SaysPair version opened line tokens first second read m n f
            pair_says = record { numbers = are; says = says_here }

            pub pair_many : HasManyPredicates opened.kind m n f → IsFirstOf Wrong (Limit Predicates MOST_PREDICATES) (place_at line tokens 3)
            pair_many many =
                many_first Unknown Numbers ScopeOf Taken Many line tokens read m n pair_numbers f (right_if f says_here) free (small f told).0 (small f told).1 many

            pub pair_clean : ¬ (HasManyPredicates opened.kind m n f) → HasNone Wrong
            pair_clean room =
                none_wrong Unknown Numbers ScopeOf Taken Many line tokens read m n pair_numbers f (right_if f says_here) free (small f told).0 (small f told).1 room
