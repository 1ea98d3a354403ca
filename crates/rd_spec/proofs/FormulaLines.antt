-- A line with a formula that may stand there has no cause to be refused.
use Rattle.std.proofs.Common.{◌≡◌, ℕ, ◌<◌, ◌≤◌, true, false, List, Some, subst, arith, ap}
use Rattle.std.specs.Prelude.{is_some}
use Rattle.rd_base.specs.declared.limits.LimitName.{LimitName}
use Rattle.rd_base.specs.declared.limits.LimitName.TheVariants.{Bytes, Line, Events, Threads, Locks, Objects, Depth, SpecText, Tokens, Kinds, Methods as MethodLimit, Arguments, Nodes, FormulaDepth, Predicates}
use Rattle.rd_base.specs.declared.limits.TheConstants.{MOST_LEVELS, MOST_NODES}
use Rattle.rd_ecl.specs.declared.formulas.Reason.{Reason}
use Rattle.rd_ecl.specs.Formulas.{Tree, InFragment, first_offence, levels, nodes, post_order}
use Rattle.rd_ecl.proofs.FragmentLemmas.{fragment_is}
use Rattle.rd_formulas.specs.declared.reading.FormulaRefused.TheVariants as formula
use Rattle.rd_formulas.specs.declared.scope.Scope.{Scope}
use Rattle.rd_formulas.specs.Meaning.{relations_in, uses_in}
use Rattle.rd_formulas.specs.Reading.{IsTroubled}
use Rattle.rd_formulas.specs.Scope.{IsBare, IsUnknownUse, SaysTree}
use Rattle.rd_grammar.specs.Grammar.{ParsedTree}
use Rattle.rd_pairs.specs.Causes.{HasNone}
use Rattle.rd_pairs.specs.PairCauses.{FormulaLineHas}
use Rattle.rd_pairs.specs.declared.spec_causes.SpecCause.TheVariants.{Header, Syntax, UnknownMethod, UnknownVariable, NoVariable, OutsideFragment, Duplicate, MissingPair, KindTaken, Limit}
use Rattle.rd_pairs.proofs.MeaningLemmas.{known_relations, known_terms, no_first_sign, no_first_use}
use Rattle.rd_tokens.specs.declared.sorts.Token.{Token}

-- a formula in the fragment, within the limits
pub record IsSmall (f : Tree) : Type 0 where
  pub inside : InFragment f
  pub few : nodes f ≤ MOST_NODES
  pub shallow : levels f ≤ MOST_LEVELS

module _ (Unknown : ℕ → Type 0) (Methods : ℕ → ℕ → Type 0) (scope : ℕ → ℕ → Scope) (Taken : ℕ → ℕ → ℕ → Type 0) (Many : ℕ → ℕ → Tree → Type 0) (line : List ℕ)
    (tokens : List Token) (read : ParsedTree) (m n : ℕ) (f : Tree) (known : (place : ℕ) → ¬ (Unknown place))
    (numbers : (i j : ℕ) → Methods i j → (i ≡ m) × (j ≡ n)) (says : SaysTree (scope m n) read f)
    (one : (g : Tree) → SaysTree (scope m n) read g → g ≡ f) (small : IsSmall f) (new : (place : ℕ) → ¬ (Taken m n place)) (room : ¬ (Many m n f)) where
  -- its methods have these numbers
  moved : (P : ℕ → ℕ → Type 0) (i j : ℕ) → Methods i j → P i j → P m n
  moved P i j others here =
      let same = numbers i j others in
      subst (λ (x : ℕ). P x n) same.0 (subst (λ (y : ℕ). P i y) same.1 here)

  not_large : (Large : ℕ → ℕ → Tree → Type 0) → ¬ (Large m n f) → (i j : ℕ) (g : Tree) → Methods i j → SaysTree (scope i j) read g → ¬ (Large i j g)
  not_large Large few i j g others says_other large =
      let here = moved (λ x y. SaysTree (scope x y) read g × Large x y g) i j others (says_other, large) in
      few (subst (λ (h : Tree). Large m n h) (one g here.0) here.1)

  abbrev LineHas : LimitName → ℕ → ℕ → Type 0
  LineHas limit number place = FormulaLineHas Unknown Methods scope Taken Many line tokens read (Limit limit number) place

  no_limit : (limit : LimitName) (number place : ℕ) → ¬ (LineHas limit number place)
  no_limit Bytes number place has = has
  no_limit Line number place has = has
  no_limit Events number place has = has
  no_limit Threads number place has = has
  no_limit Locks number place has = has
  no_limit Objects number place has = has
  no_limit Depth number place has = has
  no_limit SpecText number place has = has
  no_limit Tokens number place has = has
  no_limit Kinds number place has = has
  no_limit MethodLimit number place has = has
  no_limit Arguments number place has = has
  no_limit Nodes number place ((i, j, g, others, also, large, at), is) =
      not_large (λ x y h. MOST_NODES < nodes h) (λ many. let few = small.few in omega (arith, many, few)) i j g others also large
  no_limit FormulaDepth number place ((i, j, g, others, also, large, at), is) =
      not_large (λ x y h. MOST_LEVELS < levels h) (λ many. let few = small.shallow in omega (arith, many, few)) i j g others also large
  no_limit Predicates number place ((i, j, g, others, also, large, at), is) = not_large Many room i j g others also large

  offends : (g : Tree) (node : ℕ) {reason : Reason} → g ≡ f → ¬ (first_offence 0 (post_order g) ≡ Some (record { node = node; reason = reason }))
  offends g node same there =
      let none : is_some (first_offence 0 (post_order f)) ≡ false = (fragment_is f).1 small.inside in
      let some : is_some (first_offence 0 (post_order f)) ≡ true = subst (λ (h : Tree). is_some (first_offence 0 (post_order h)) ≡ true) same (ap is_some there) in
      absurd (cc)

  pub formula_clean : HasNone (FormulaLineHas Unknown Methods scope Taken Many line tokens read)
  formula_clean Header place has = has
  formula_clean Syntax place has = has
  formula_clean UnknownMethod place unknown = known place unknown
  formula_clean UnknownVariable place (i, j, others, troubled) =
      let here = moved (λ x y. IsTroubled (scope x y) read (formula.UnknownVariable place)) i j others troubled in
      no_first_use (IsUnknownUse (scope m n)) (uses_in read) here.0 (known_terms (scope m n) read f says) here.1
  formula_clean NoVariable place (i, j, others, troubled) =
      let here = moved (λ x y. IsTroubled (scope x y) read (formula.NoVariable place)) i j others troubled in
      no_first_sign (IsBare (scope m n)) (relations_in read) here.0 (known_relations (scope m n) read f says) here.2
  formula_clean (OutsideFragment reason) place (i, j, others, troubled) =
      let here = moved (λ x y. IsTroubled (scope x y) read (formula.OutsideFragment place reason)) i j others troubled in
      offends here.0 here.1 (one here.0 here.3) here.4
  formula_clean Duplicate place (i, j, others, there) = new place (moved (λ x y. Taken x y place) i j others there)
  formula_clean (MissingPair one other) place has = has
  formula_clean KindTaken place has = has
  formula_clean (Limit limit number) place has = no_limit limit number place has
