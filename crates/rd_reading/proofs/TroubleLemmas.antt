-- A formula that is right by the grammar is troubled by something, or gives a formula in the fragment.
use Rattle.std.proofs.Common.{◌≡◌, ℕ, zero, suc, ◌<◌, List, [], ◌∷◌, get_or, length, Option, Some, None, refl, sym, ◌∙◌, ap, subst, arith, ◌⊎◌, inl, inr}
use Rattle.std.specs.Prelude.{Contains, IsNone, IsSome, slice_get}
use Rattle.std.proofs.lemmas.Option.{none-some}
use Rattle.rd_base.specs.declared.values.Value.{Value}
use Rattle.rd_definitions.specs.Definitions.{formula_of}
use Rattle.rd_ecl.specs.declared.formulas.Outside.{Outside}
use Rattle.rd_ecl.specs.declared.formulas.Reason.{Reason}
use Rattle.rd_ecl.specs.declared.formulas.Side.{Side}
use Rattle.rd_ecl.specs.Formulas.{InFragment, Tree, first_offence, post_order}
use Rattle.rd_ecl.specs.Variables.{is_one_of}
use Rattle.rd_ecl.proofs.FragmentLemmas.{fragment_is}
use Rattle.rd_ecl.proofs.VariableLemmas.{among_decides}
use Rattle.rd_formulas.specs.declared.reading.FormulaRefused.TheVariants as formula
use Rattle.rd_formulas.specs.declared.scope.Scope.{Scope}
use Rattle.rd_formulas.specs.Meaning.{IsFirst, NoneOf, Related, Use, node_tokens, of_name, of_term, relations_in, use_token, uses_in}
use Rattle.rd_formulas.specs.Reading.{IsTroubled}
use Rattle.rd_formulas.specs.Scope.{HasTerms, IsBare, IsUnknown, IsUnknownName, IsUnknownUse, IsVariableAt, MeansAt, SaysTree, NameStandsFor, definitions_of, place_in_scope, token_bytes_at, variables_of}
use Rattle.rd_formulas.proofs.BuildingLemmas.{ready}
use Rattle.rd_formulas.proofs.ReadingLemmas.{token_there}
use Rattle.rd_formulas.proofs.SayingLemmas.{says_some}
use Rattle.rd_grammar.specs.Grammar.{ParsedTree}
use Rattle.rd_tokens.specs.declared.words.terms.Said.{Said}
use Rattle.rd_tokens.specs.declared.words.terms.Said.TheVariants.{Variable, Value as ValueSaid}
use Rattle.rd_tokens.specs.ReadingWords.{term_in}
use Rattle.rd_tokens.specs.Words.{SaysTermIn}
use Rattle.rd_tokens.proofs.TermLemmas.{one_term_in, said_term_in, term_found_in}
use Rattle.rd_reading.proofs.FormLemmas.{decided}

-- the first of these with a property that can be asked
first_of : {T : Type 0} (P : T → Type 0) → ((x : T) → P x ⊎ ¬ (P x)) → (xs : List T) → ((x : T) × IsFirst P xs (Some x)) ⊎ NoneOf P xs
first_of P asked [] = inr tt
first_of P asked (x ∷ xs) = elim (asked x) [
  | inl here ↦ inl (x, ([], xs, refl, tt, here))
  | inr lacks ↦ elim (first_of P asked xs) [
    | inl found ↦
        let first = found.1 in
        inl (found.0, (x ∷ first.0, first.1, ap (λ (l : List _). x ∷ l) first.2, (lacks, first.3), first.4))
    | inr none ↦ inr (lacks, none)
  ]
]

pub contained_at : (names : List (List ℕ)) (name : List ℕ) → Contains names name → (i : ℕ) × (slice_get names i ≡ Some name)
contained_at names name (i, within, is) = (i, by names i within is) where
  by : (names : List (List ℕ)) (i : ℕ) → i < length names → get_or names i name ≡ name → slice_get names i ≡ Some name
  by [] i within is = absurd (omega (arith, within))
  by (x ∷ names) zero within is = ap (λ (n : List ℕ). Some n) is
  by (x ∷ names) (suc i) within is = by names i (omega (arith, within)) is

module _ (scope : Scope) where
  -- what a term says
  said_at : (number : ℕ) → ((said : Said) × SaysTermIn scope.dialect (token_bytes_at scope number) said) ⊎ ((said : Said) → ¬ (SaysTermIn scope.dialect (token_bytes_at scope number) said))
  said_at number = by (term_in scope.dialect (token_bytes_at scope number)) refl where
    by : (o : Option Said) → term_in scope.dialect (token_bytes_at scope number) ≡ o
        → ((said : Said) × SaysTermIn scope.dialect (token_bytes_at scope number) said) ⊎ ((said : Said) → ¬ (SaysTermIn scope.dialect (token_bytes_at scope number) said))
    by (Some said) is = inl (said, said_term_in scope.dialect (token_bytes_at scope number) said is)
    by None is = inr (λ said says. let found : None ≡ Some said = sym is ∙ term_found_in scope.dialect (token_bytes_at scope number) said says in absurd (cc))

  value_no_variable : (number : ℕ) (value : Value) → SaysTermIn scope.dialect (token_bytes_at scope number) (ValueSaid value) → ¬ (IsVariableAt scope number)
  value_no_variable number value says (side, name, is) =
      let same = one_term_in scope.dialect (token_bytes_at scope number) (ValueSaid value) (Variable side name) says is in absurd (cc)

  variable_or : (number : ℕ) → IsVariableAt scope number ⊎ ¬ (IsVariableAt scope number)
  variable_or number = elim (said_at number) [
    | inl found ↦ by found.0 found.1
    | inr none ↦ inr (λ is. none (Variable is.0 is.1) is.2)
  ] where
    by : (said : Said) → SaysTermIn scope.dialect (token_bytes_at scope number) said → IsVariableAt scope number ⊎ ¬ (IsVariableAt scope number)
    by (Variable side name) says = inl (side, name, says)
    by (ValueSaid value) says = inr (value_no_variable number value says)

  known_or : (number : ℕ) (side : Side) (name : List ℕ) → SaysTermIn scope.dialect (token_bytes_at scope number) (Variable side name) → Contains (variables_of scope side) name
      → ¬ (IsUnknown scope number)
  known_or number side name says among (other, word, is, lacks) =
      let same = one_term_in scope.dialect (token_bytes_at scope number) (Variable side name) (Variable other word) says is in
      let sides : side ≡ other = cc in
      let names : name ≡ word = cc in
      lacks (subst (λ (s : Side). Contains (variables_of scope s) word) sides (subst (λ (n : List ℕ). Contains (variables_of scope side) n) names among))

  unknown_or : (number : ℕ) → IsUnknown scope number ⊎ ¬ (IsUnknown scope number)
  unknown_or number = elim (said_at number) [
    | inl found ↦ by found.0 found.1
    | inr none ↦ inr (λ is. none (Variable is.0 is.1) is.2)
  ] where
    by : (said : Said) → SaysTermIn scope.dialect (token_bytes_at scope number) said → IsUnknown scope number ⊎ ¬ (IsUnknown scope number)
    by (Variable side name) says = elim (decided (is_one_of name (variables_of scope side)) (among_decides name (variables_of scope side))) [
      | inl among ↦ inr (known_or number side name says among)
      | inr lacks ↦ inl (side, name, says, lacks)
    ]
    by (ValueSaid value) says = inr (λ is. value_no_variable number value says (is.0, is.1, is.2))

  bare_or : (asked : Related) → IsBare scope asked ⊎ ¬ (IsBare scope asked)
  bare_or asked = elim (variable_or asked.left) [
    | inl is ↦ inr (λ bare. bare.0 is)
    | inr left ↦ elim (variable_or asked.right) [
      | inl is ↦ inr (λ bare. bare.1 is)
      | inr right ↦ inl (left, right)
    ]
  ]

  -- a name that is used is known, or unknown
  unknown_name_or : (number : ℕ) → IsUnknownName scope number ⊎ ¬ (IsUnknownName scope number)
  unknown_name_or number = elim (said_at number) [
    | inl found ↦ by found.0 found.1
    | inr none ↦ inr (λ is. none (Variable is.0 is.1) is.2)
  ] where
    known : (side other : Side) (name word : List ℕ) (f : Tree) → Variable side name ≡ Variable other word → formula_of (definitions_of scope side) name ≡ Some f
        → formula_of (definitions_of scope other) word ≡ None → ⊥
    known side other name word f same found lacks =
        let sides : side ≡ other = cc in
        let names : name ≡ word = cc in
        let moved : formula_of (definitions_of scope side) word ≡ None = subst (λ (s : Side). formula_of (definitions_of scope s) word ≡ None) (sym sides) lacks in
        none-some f (sym (ap (formula_of (definitions_of scope side)) names ∙ moved) ∙ found)

    by_name : (side : Side) (name : List ℕ) → SaysTermIn scope.dialect (token_bytes_at scope number) (Variable side name) → (o : Option Tree)
        → formula_of (definitions_of scope side) name ≡ o → IsUnknownName scope number ⊎ ¬ (IsUnknownName scope number)
    by_name side name says None is = inl (side, name, says, is)
    by_name side name says (Some f) is =
        inr (λ unknown.
        known side unknown.0 name unknown.1 f (one_term_in scope.dialect (token_bytes_at scope number) (Variable side name) (Variable unknown.0 unknown.1) says unknown.2) is
        unknown.3)

    by : (said : Said) → SaysTermIn scope.dialect (token_bytes_at scope number) said → IsUnknownName scope number ⊎ ¬ (IsUnknownName scope number)
    by (Variable side name) says = by_name side name says (formula_of (definitions_of scope side) name) refl
    by (ValueSaid value) says = inr (λ is. value_no_variable number value says (is.0, is.1, is.2))

  unknown_use_or : (it : Use) → IsUnknownUse scope it ⊎ ¬ (IsUnknownUse scope it)
  unknown_use_or (of_term number) = unknown_or number
  unknown_use_or (of_name number) = unknown_name_or number

  -- what is wrong with a formula that is right by the grammar, each with its place
  pub data IsTroubledBy (read : ParsedTree) : Type 0 where
    by_variable : (place : ℕ) → IsTroubled scope read (formula.UnknownVariable place) → IsTroubledBy read
    by_bare : (place : ℕ) → IsTroubled scope read (formula.NoVariable place) → IsTroubledBy read
    by_outside : (place : ℕ) (reason : Reason) → IsTroubled scope read (formula.OutsideFragment place reason) → IsTroubledBy read

  outside_or : (read : ParsedTree) (f : Tree) → SaysTree scope read f → IsTroubledBy read ⊎ ((g : Tree) × SaysTree scope read g × InFragment g)
  outside_or read f gives = by (first_offence 0 (post_order f)) refl where
    told : (o : Outside) (t : Option ℕ) → first_offence 0 (post_order f) ≡ Some o → slice_get (node_tokens read f) o.node ≡ t → IsSome t → IsTroubledBy read
    told o None found is some = absurd (cc)
    told o (Some number) found is some = by_outside (place_in_scope scope number) o.reason (f, o.node, number, gives, found, is, refl)

    by : (o : Option Outside) → first_offence 0 (post_order f) ≡ o → IsTroubledBy read ⊎ ((g : Tree) × SaysTree scope read g × InFragment g)
    by None is = inr (f, gives, (fragment_is f).0 (subst IsNone (sym is) refl))
    by (Some o) is = inl (told o (slice_get (node_tokens read f) o.node) is refl (token_there (MeansAt scope) (NameStandsFor scope) read f o gives is))

  pub troubled_or : (read : ParsedTree) → HasTerms scope read → IsTroubledBy read ⊎ ((f : Tree) × SaysTree scope read f × InFragment f)
  troubled_or read terms = elim (first_of (IsUnknownUse scope) unknown_use_or (uses_in read)) [
    | inl found ↦ inl (by_variable (place_in_scope scope (use_token found.0)) (use_token found.0, (Some found.0, found.1, refl), refl))
    | inr known ↦ elim (first_of (IsBare scope) bare_or (relations_in read)) [
      | inl found ↦ inl (by_bare (place_in_scope scope found.0.sign) (found.0.sign, known, (Some found.0, found.1, refl), refl))
      | inr none ↦
          let f = says_some scope read terms (ready scope read known none) in
          outside_or read f.0 f.1
    ]
  ]
