-- The first thing that is wrong with a line that has a formula.
use Rattle.std.proofs.Common.{◌≡◌, ℕ, ◌<◌, ◌≤◌, Bool, false, true≢false, List, Option, Some, None, refl, sym, ◌∙◌, ap, subst, arith, inl, inr}
use Rattle.std.specs.Prelude.{Err, IfErr, IsErrAnd, IsSome, IsTrue, Ok, Result, slice_get}
use Rattle.std.proofs.lemmas.Bool.{cases_lt}
use Rattle.rd_base.specs.declared.limits.LimitName.TheVariants.{Nodes, FormulaDepth, Predicates}
use Rattle.rd_base.specs.declared.limits.TheConstants.{MOST_LEVELS, MOST_NODES, MOST_PREDICATES}
use Rattle.rd_ecl.specs.declared.formulas.Outside.{Outside}
use Rattle.rd_ecl.specs.declared.formulas.Reason.{Reason}
use Rattle.rd_ecl.specs.Formulas.{InFragment, Tree, first_offence, levels, nodes, post_order}
use Rattle.rd_ecl.proofs.FragmentLemmas.{none_is}
use Rattle.rd_formulas.specs.declared.reading.FormulaRefused.{FormulaRefused}
use Rattle.rd_formulas.specs.declared.reading.FormulaRefused.TheVariants as formula
use Rattle.rd_formulas.specs.declared.scope.Scope.{Scope}
use Rattle.rd_formulas.specs.Meaning.{NoneOf, node_tokens, relations_in, uses_in}
use Rattle.rd_formulas.specs.Reading.{IsTroubled}
use Rattle.rd_formulas.specs.Scope.{IsBare, IsUnknownUse, MeansAt, SaysTree, NameStandsFor, place_in_scope}
use Rattle.rd_formulas.proofs.ReadingLemmas.{token_there}
use Rattle.rd_grammar.specs.Grammar.{ParsedTree}
use Rattle.rd_pairs.specs.declared.refused.SpecLineRefused.{SpecLineRefused}
use Rattle.rd_pairs.specs.declared.refused.SpecLineRefused.TheVariants.{Fault as Faulted, NoMemory}
use Rattle.rd_pairs.specs.declared.spec_causes.SpecCause.{SpecCause}
use Rattle.rd_pairs.specs.declared.spec_causes.SpecCause.TheVariants.{UnknownMethod, UnknownVariable, NoVariable, OutsideFragment, Duplicate, Limit}
use Rattle.rd_pairs.specs.Causes.{HasNone, IsFirstOf, IsSpecLineRefused, place_at, rank}
use Rattle.rd_pairs.specs.PairCauses.{FormulaHas, FormulaLineHas, FormulaPasses}
use Rattle.rd_pairs.specs.PairJudging.{IsFirstLarge, IsRefusedLarge, refusal_of}
use Rattle.rd_pairs.proofs.MeaningLemmas.{known_relations, known_terms, no_first_sign, no_first_use}
use Rattle.rd_tokens.specs.declared.sorts.Token.{Token}

-- no method is unknown, and the methods have these numbers alone
pub record HasNumbers (Unknown : ℕ → Type 0) (Methods : ℕ → ℕ → Type 0) (m n : ℕ) : Type 0 where
  pub known : (place : ℕ) → ¬ (Unknown place)
  pub are : Methods m n
  pub one : (i j : ℕ) → Methods i j → (i ≡ m) × (j ≡ n)

-- the formula alone is right, and this is it
pub record IsRight (scope : Scope) (read : ParsedTree) (f : Tree) : Type 0 where
  pub says : SaysTree scope read f
  pub inside : InFragment f
  pub one : (g : Tree) → SaysTree scope read g → g ≡ f

none_some : (o : Option Outside) (found : Outside) → o ≡ None → o ≡ Some found → ⊥
none_some o found none some = let same : None ≡ Some found = sym none ∙ some in absurd (cc)

-- a refusal that is handed on
pub refused_as : {X : Type 0} (result : Result X SpecLineRefused) (refused : SpecLineRefused) (P : SpecLineRefused → Type 0)
    → IsErrAnd result (λ other. other ≡ refused) → P refused → IfErr result P
refused_as (Ok x) refused P same h = tt
refused_as (Err other) refused P same h = subst P (sym same) h

-- what a test says isn't so
pub refuted : {P : Type 0} (test : Bool) → (P → IsTrue test) → test ≡ false → ¬ P
refuted test holds is p = true≢false (sym (holds p) ∙ is)

pub at_most : (x y : ℕ) → ¬ (x < y) → y ≤ x
at_most x y h = elim (cases_lt x y) [ inl above ↦ absurd (h above) | inr rest ↦ omega arith ]

module _ (Unknown : ℕ → Type 0) (Methods : ℕ → ℕ → Type 0) (scope : ℕ → ℕ → Scope) (Taken : ℕ → ℕ → ℕ → Type 0) (Many : ℕ → ℕ → Tree → Type 0)
    (line : List ℕ) (tokens : List Token) (read : ParsedTree) where
  -- the line has the cause at the place
  abbrev Wrong : SpecCause → ℕ → Type 0
  Wrong cause place = FormulaLineHas Unknown Methods scope Taken Many line tokens read cause place

  least_method : (cause : SpecCause) (place : ℕ) → Wrong cause place → 3 ≤ rank cause
  least_method UnknownMethod place h = omega arith
  least_method UnknownVariable place h = omega arith
  least_method NoVariable place h = omega arith
  least_method (OutsideFragment reason) place h = omega arith
  least_method Duplicate place h = omega arith
  least_method (Limit Nodes number) place h = omega arith
  least_method (Limit FormulaDepth number) place h = omega arith
  least_method (Limit Predicates number) place h = omega arith
  least_method cause place h = absurd h

  -- a method that is unknown is told first
  pub unknown_first : (place : ℕ) → Unknown place → IsFirstOf Wrong UnknownMethod place
  unknown_first place unknown = record { has = unknown; first = least_method }

  -- a formula of a line without a cause is right, and small
  module _ (clean : HasNone Wrong) (m n : ℕ) (are : Methods m n) (f : Tree) (says : SaysTree (scope m n) read f) where
    told : (o : Outside) (t : Option ℕ) → first_offence 0 (post_order f) ≡ Some o → slice_get (node_tokens read f) o.node ≡ t → IsSome t → ⊥
    told o None found is some = absurd (cc)
    told o (Some number) found is some =
        clean (OutsideFragment o.reason) (place_in_scope (scope m n) number) (m, n, are, (f, o.node, number, says, found, is, refl))

    pub clean_inside : InFragment f
    clean_inside = by (first_offence 0 (post_order f)) refl where
      by : (o : Option Outside) → first_offence 0 (post_order f) ≡ o → InFragment f
      by None is = (none_is f).0 is
      by (Some o) is =
          absurd (told o (slice_get (node_tokens read f) o.node) is refl (token_there (MeansAt (scope m n)) (NameStandsFor (scope m n)) read f o says is))

    pub clean_few : nodes f ≤ MOST_NODES
    clean_few = at_most MOST_NODES (nodes f) (λ large. clean (Limit Nodes MOST_NODES) (place_at line tokens 3) ((m, n, f, are, says, large, refl), refl))

    pub clean_shallow : levels f ≤ MOST_LEVELS
    clean_shallow =
        at_most MOST_LEVELS (levels f) (λ large. clean (Limit FormulaDepth MOST_LEVELS) (place_at line tokens 3) ((m, n, f, are, says, large, refl), refl))

  module _ (m n : ℕ) (numbers : HasNumbers Unknown Methods m n) where
    -- what is said of the numbers of the methods is said of these
    here : (P : ℕ → ℕ → Type 0) (i j : ℕ) → Methods i j → P i j → P m n
    here P i j others h =
        let same = numbers.one i j others in
        subst (λ (y : ℕ). P m y) same.1 (subst (λ (x : ℕ). P x j) same.0 h)

    troubled_here : (refused : FormulaRefused) → FormulaHas Unknown Methods scope Taken Many line tokens read refused → IsTroubled (scope m n) read refused
    troubled_here refused (i, j, others, troubled) = here (λ x y. IsTroubled (scope x y) read refused) i j others troubled

    least_variable : (cause : SpecCause) (place : ℕ) → Wrong cause place → 4 ≤ rank cause
    least_variable UnknownMethod place h = absurd (numbers.known place h)
    least_variable UnknownVariable place h = omega arith
    least_variable NoVariable place h = omega arith
    least_variable (OutsideFragment reason) place h = omega arith
    least_variable Duplicate place h = omega arith
    least_variable (Limit Nodes number) place h = omega arith
    least_variable (Limit FormulaDepth number) place h = omega arith
    least_variable (Limit Predicates number) place h = omega arith
    least_variable cause place h = absurd h

    -- each variable and each used name is known
    module _ (none : NoneOf (IsUnknownUse (scope m n)) (uses_in read)) where
      no_variable : (place : ℕ) → ¬ (Wrong UnknownVariable place)
      no_variable place h =
          let troubled = troubled_here (formula.UnknownVariable place) h in
          no_first_use (IsUnknownUse (scope m n)) (uses_in read) troubled.0 none troubled.1

      least_bare : (cause : SpecCause) (place : ℕ) → Wrong cause place → 5 ≤ rank cause
      least_bare UnknownMethod place h = absurd (numbers.known place h)
      least_bare UnknownVariable place h = absurd (no_variable place h)
      least_bare NoVariable place h = omega arith
      least_bare (OutsideFragment reason) place h = omega arith
      least_bare Duplicate place h = omega arith
      least_bare (Limit Nodes number) place h = omega arith
      least_bare (Limit FormulaDepth number) place h = omega arith
      least_bare (Limit Predicates number) place h = omega arith
      least_bare cause place h = absurd h

      -- each relation has a variable
      module _ (bare : NoneOf (IsBare (scope m n)) (relations_in read)) where
        no_bare : (place : ℕ) → ¬ (Wrong NoVariable place)
        no_bare place h =
            let troubled = troubled_here (formula.NoVariable place) h in
            no_first_sign (IsBare (scope m n)) (relations_in read) troubled.0 bare troubled.2

        least_outside : (cause : SpecCause) (place : ℕ) → Wrong cause place → 6 ≤ rank cause
        least_outside UnknownMethod place h = absurd (numbers.known place h)
        least_outside UnknownVariable place h = absurd (no_variable place h)
        least_outside NoVariable place h = absurd (no_bare place h)
        least_outside (OutsideFragment reason) place h = omega arith
        least_outside Duplicate place h = omega arith
        least_outside (Limit Nodes number) place h = omega arith
        least_outside (Limit FormulaDepth number) place h = omega arith
        least_outside (Limit Predicates number) place h = omega arith
        least_outside cause place h = absurd h

    -- what is wrong with the formula is told first
    pub refused_first : (refused : FormulaRefused) → IsTroubled (scope m n) read refused → IsSpecLineRefused Wrong (refusal_of refused)
    refused_first (formula.Syntax place) troubled = absurd troubled
    refused_first (formula.UnknownVariable place) troubled = record { has = (m, n, numbers.are, troubled); first = least_variable }
    refused_first (formula.NoVariable place) troubled = record { has = (m, n, numbers.are, troubled); first = least_bare troubled.1 }
    refused_first (formula.OutsideFragment place reason) troubled = record {
      has = (m, n, numbers.are, troubled);
      first = least_outside (known_terms (scope m n) read troubled.0 troubled.3) (known_relations (scope m n) read troubled.0 troubled.3);
    }
    refused_first formula.NoMemory troubled = tt

    -- nothing is wrong with the formula alone
    module _ (f : Tree) (right : IsRight (scope m n) read f) where
      no_outside : (reason : Reason) (place : ℕ) → ¬ (Wrong (OutsideFragment reason) place)
      no_outside reason place h =
          let troubled = troubled_here (formula.OutsideFragment place reason) h in
          let same = right.one troubled.0 troubled.3 in
          let found = sym (ap (λ (t : Tree). first_offence 0 (post_order t)) same) ∙ troubled.4 in
          none_some (first_offence 0 (post_order f)) _ ((none_is f).1 right.inside) found

      passes_here : (Large : ℕ → ℕ → Tree → Type 0) (place : ℕ) → FormulaPasses Unknown Methods scope Taken Many line tokens read Large place
          → Large m n f
      passes_here Large place (i, j, g, others, says, large, is) =
          let same = right.one g (here (λ x y. SaysTree (scope x y) read g) i j others says) in
          subst (λ (t : Tree). Large m n t) same (here (λ x y. Large x y g) i j others large)

      passes : (Large : ℕ → ℕ → Tree → Type 0) → Large m n f → FormulaPasses Unknown Methods scope Taken Many line tokens read Large (place_at line tokens 3)
      passes Large large = (m, n, f, numbers.are, right.says, large, refl)

      none_unknown : (place : ℕ) → ¬ (Wrong UnknownVariable place)
      none_unknown place h = no_variable (known_terms (scope m n) read f right.says) place h

      none_bare : (place : ℕ) → ¬ (Wrong NoVariable place)
      none_bare place h = no_bare (known_terms (scope m n) read f right.says) (known_relations (scope m n) read f right.says) place h

      least_taken : (cause : SpecCause) (place : ℕ) → Wrong cause place → 7 ≤ rank cause
      least_taken UnknownMethod place h = absurd (numbers.known place h)
      least_taken UnknownVariable place h = absurd (none_unknown place h)
      least_taken NoVariable place h = absurd (none_bare place h)
      least_taken (OutsideFragment reason) place h = absurd (no_outside reason place h)
      least_taken Duplicate place h = omega arith
      least_taken (Limit Nodes number) place h = omega arith
      least_taken (Limit FormulaDepth number) place h = omega arith
      least_taken (Limit Predicates number) place h = omega arith
      least_taken cause place h = absurd h

      -- what is there already is told before what is too large
      pub taken_first : (place : ℕ) → Taken m n place → IsFirstOf Wrong Duplicate place
      taken_first place taken = record { has = (m, n, numbers.are, taken); first = least_taken }

      -- nothing is there already
      module _ (free : (place : ℕ) → ¬ (Taken m n place)) where
        no_taken : (place : ℕ) → ¬ (Wrong Duplicate place)
        no_taken place (i, j, others, taken) = free place (here (λ x y. Taken x y place) i j others taken)

        least_nodes : (cause : SpecCause) (place : ℕ) → Wrong cause place → 13 ≤ rank cause
        least_nodes UnknownMethod place h = absurd (numbers.known place h)
        least_nodes UnknownVariable place h = absurd (none_unknown place h)
        least_nodes NoVariable place h = absurd (none_bare place h)
        least_nodes (OutsideFragment reason) place h = absurd (no_outside reason place h)
        least_nodes Duplicate place h = absurd (no_taken place h)
        least_nodes (Limit Nodes number) place h = omega arith
        least_nodes (Limit FormulaDepth number) place h = omega arith
        least_nodes (Limit Predicates number) place h = omega arith
        least_nodes cause place h = absurd h

        pub nodes_first : MOST_NODES < nodes f → IsFirstOf Wrong (Limit Nodes MOST_NODES) (place_at line tokens 3)
        nodes_first many = record { has = (passes (λ i j g. MOST_NODES < nodes g) many, refl); first = least_nodes }

        module _ (few : nodes f ≤ MOST_NODES) where
          no_nodes : (number place : ℕ) → ¬ (Wrong (Limit Nodes number) place)
          no_nodes number place h = let many = passes_here (λ i j g. MOST_NODES < nodes g) place h.0 in omega (arith, many, few)

          least_levels : (cause : SpecCause) (place : ℕ) → Wrong cause place → 14 ≤ rank cause
          least_levels UnknownMethod place h = absurd (numbers.known place h)
          least_levels UnknownVariable place h = absurd (none_unknown place h)
          least_levels NoVariable place h = absurd (none_bare place h)
          least_levels (OutsideFragment reason) place h = absurd (no_outside reason place h)
          least_levels Duplicate place h = absurd (no_taken place h)
          least_levels (Limit Nodes number) place h = absurd (no_nodes number place h)
          least_levels (Limit FormulaDepth number) place h = omega arith
          least_levels (Limit Predicates number) place h = omega arith
          least_levels cause place h = absurd h

          pub levels_first : MOST_LEVELS < levels f → IsFirstOf Wrong (Limit FormulaDepth MOST_LEVELS) (place_at line tokens 3)
          levels_first many = record { has = (passes (λ i j g. MOST_LEVELS < levels g) many, refl); first = least_levels }

          module _ (shallow : levels f ≤ MOST_LEVELS) where
            no_levels : (number place : ℕ) → ¬ (Wrong (Limit FormulaDepth number) place)
            no_levels number place h = let many = passes_here (λ i j g. MOST_LEVELS < levels g) place h.0 in omega (arith, many, shallow)

            least_many : (cause : SpecCause) (place : ℕ) → Wrong cause place → 15 ≤ rank cause
            least_many UnknownMethod place h = absurd (numbers.known place h)
            least_many UnknownVariable place h = absurd (none_unknown place h)
            least_many NoVariable place h = absurd (none_bare place h)
            least_many (OutsideFragment reason) place h = absurd (no_outside reason place h)
            least_many Duplicate place h = absurd (no_taken place h)
            least_many (Limit Nodes number) place h = absurd (no_nodes number place h)
            least_many (Limit FormulaDepth number) place h = absurd (no_levels number place h)
            least_many (Limit Predicates number) place h = omega arith
            least_many cause place h = absurd h

            pub many_first : Many m n f → IsFirstOf Wrong (Limit Predicates MOST_PREDICATES) (place_at line tokens 3)
            many_first many = record { has = (passes Many many, refl); first = least_many }

            -- nothing is wrong
            pub none_wrong : ¬ (Many m n f) → HasNone Wrong
            none_wrong room UnknownMethod place h = numbers.known place h
            none_wrong room UnknownVariable place h = none_unknown place h
            none_wrong room NoVariable place h = none_bare place h
            none_wrong room (OutsideFragment reason) place h = no_outside reason place h
            none_wrong room Duplicate place h = no_taken place h
            none_wrong room (Limit Nodes number) place h = no_nodes number place h
            none_wrong room (Limit FormulaDepth number) place h = no_levels number place h
            none_wrong room (Limit Predicates number) place h = room (passes_here Many place h.0)
            none_wrong room cause place h = h

        -- the first limit that it passes is told
        limit_first : (cause : SpecCause) (place : ℕ) → IsFirstLarge (scope m n) read cause → place ≡ place_at line tokens 3 → IsFirstOf Wrong cause place
        limit_first (Limit Nodes number) place (large, is) at =
            let found = nodes_first (large f right.says) in
            subst (λ (p : ℕ). IsFirstOf Wrong (Limit Nodes number) p) (sym at)
            (subst (λ (k : ℕ). IsFirstOf Wrong (Limit Nodes k) (place_at line tokens 3)) (sym is) found)
        limit_first (Limit FormulaDepth number) place (large, is) at =
            let found = levels_first (large f right.says).0 (large f right.says).1 in
            subst (λ (p : ℕ). IsFirstOf Wrong (Limit FormulaDepth number) p) (sym at)
            (subst (λ (k : ℕ). IsFirstOf Wrong (Limit FormulaDepth k) (place_at line tokens 3)) (sym is) found)
        limit_first cause place large at = absurd large

        pub large_first : (refused : SpecLineRefused) → IsRefusedLarge (scope m n) line tokens read refused → IsSpecLineRefused Wrong refused
        large_first (Faulted fault) (large, at) = limit_first fault.cause fault.place large at
        large_first NoMemory h = tt
