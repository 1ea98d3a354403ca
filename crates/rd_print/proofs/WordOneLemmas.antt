-- Tokens say at most one formula.
use Rattle.std.proofs.Common.{◌≡◌, ◌≢◌, ℕ, ◌<◌, List, sym, ◌∙◌, ap, subst, arith, Some, inl, inr}
use Rattle.std.specs.Prelude.{AllPairs, slice_get}
use Rattle.std.proofs.lemmas.Bool.{cases_lt}
use Rattle.std.proofs.lemmas.Option.{get_or_from_slice_get, same_Some, slice_get_within}
use Rattle.rd_ecl.specs.declared.formulas.Side.{Side}
use Rattle.rd_ecl.specs.declared.formulas.Side.TheVariants.{First, Second}
use Rattle.rd_ecl.specs.Formulas.{Tree}
use Rattle.rd_formulas.specs.declared.scope.Scope.{Scope}
use Rattle.rd_formulas.specs.declared.terms.Meant.{Meant}
use Rattle.rd_formulas.specs.declared.terms.Meant.TheVariants.{Slot, Value}
use Rattle.rd_formulas.specs.Meaning.{relation_of_terms}
use Rattle.rd_formulas.specs.Reading.{SaysFormula}
use Rattle.rd_formulas.specs.Scope.{MeansAt, SaysTree, token_bytes_at, variables_of}
use Rattle.rd_formulas.proofs.OutlineLemmas.{one_standing}
use Rattle.rd_grammar.specs.declared.marks.Leaf.TheVariants.{Name, Truth}
use Rattle.rd_grammar.specs.Grammar.{ParsedTree, leaf, relation, negation, both, either, MarksSay, disj}
use Rattle.rd_grammar.specs.declared.marks.Mark.{Mark}
use Rattle.rd_grammar.proofs.ReadLemmas.{one_tree}
use Rattle.rd_tokens.specs.declared.words.terms.Said.{Said}
use Rattle.rd_tokens.specs.declared.words.terms.Said.TheVariants.{Variable, Value as ValueSaid}
use Rattle.rd_tokens.specs.Words.{SaysTermIn}
use Rattle.rd_tokens.proofs.MarkLemmas.{one_list}
use Rattle.rd_tokens.proofs.TermLemmas.{one_term_in}

abbrev pub AreDifferent : List (List ℕ) → Type 0
AreDifferent names = AllPairs (λ x y. x ≢ y) names

-- a name stands at one place
apart : (names : List (List ℕ)) (name : List ℕ) (i j : ℕ) → AreDifferent names → slice_get names i ≡ Some name → slice_get names j ≡ Some name → i < j → ⊥
apart names name i j different first second below =
    different i j name below (slice_get_within names j name second)
    (get_or_from_slice_get names i name name first ∙ sym (get_or_from_slice_get names j name name second))

one_place : (names : List (List ℕ)) (name : List ℕ) (i j : ℕ) → AreDifferent names → slice_get names i ≡ Some name → slice_get names j ≡ Some name → i ≡ j
one_place names name i j different first second = elim (cases_lt i j) [
  | inl below ↦ absurd (apart names name i j different first second below)
  | inr rest ↦ elim (cases_lt j i) [
    | inl above ↦ absurd (apart names name j i different second first above)
    | inr others ↦ omega arith
  ]
]

-- a term has one meaning
module _ (scope : Scope) (first : AreDifferent scope.first.now) (second : AreDifferent scope.second.now) where
  different : (side : Side) → AreDifferent (variables_of scope side)
  different First = first
  different Second = second

  one_said : (number : ℕ) (s t : Said) → SaysTermIn scope.dialect (token_bytes_at scope number) s → SaysTermIn scope.dialect (token_bytes_at scope number) t → s ≡ t
  one_said number s t = one_term_in scope.dialect (token_bytes_at scope number) s t

  one_slot : (side other : Side) (name word : List ℕ) (i j : ℕ) → Variable side name ≡ Variable other word → slice_get (variables_of scope side) i ≡ Some name
      → slice_get (variables_of scope other) j ≡ Some word → Slot side i ≡ Slot other j
  one_slot side other name word i j same here there =
      let sides : side ≡ other = cc in
      let names : name ≡ word = cc in
      let moved : slice_get (variables_of scope side) j ≡ Some word = subst (λ (s : Side). slice_get (variables_of scope s) j ≡ Some word) (sym sides) there in
      let places : i ≡ j = one_place (variables_of scope side) name i j (different side) here (moved ∙ ap (λ (n : List ℕ). Some n) (sym names)) in
      cc

  one_meaning : (number : ℕ) (x y : Meant) → MeansAt scope number x → MeansAt scope number y → x ≡ y
  one_meaning number (Slot side i) (Slot other j) (name, says, here) (word, is, there) =
      one_slot side other name word i j (one_said number (Variable side name) (Variable other word) says is) here there
  one_meaning number (Slot side i) (Value value) (name, says, here) is =
      let same = one_said number (Variable side name) (ValueSaid value) says is in absurd (cc)
  one_meaning number (Value value) (Slot side i) is (name, says, here) =
      let same = one_said number (Variable side name) (ValueSaid value) says is in absurd (cc)
  one_meaning number (Value value) (Value other) says is =
      let same = one_said number (ValueSaid value) (ValueSaid other) says is in
      let values : value ≡ other = cc in cc

  one_formula : (read : ParsedTree) (f g : Tree) → SaysTree scope read f → SaysTree scope read g → f ≡ g
  one_formula (leaf (Truth value) token) f g e k = e ∙ sym k
  one_formula (leaf Name token) f g e k = one_standing scope token f g e k
  one_formula (relation left sign token right) f g (x, y, h, k, e) (z, w, p, q, r) =
      let xs : x ≡ z = one_meaning left x z h p in
      let ys : y ≡ w = one_meaning right y w k q in
      let both : Some f ≡ Some g = sym e ∙ ap (λ (m : Meant). relation_of_terms sign m y) xs ∙ ap (λ (m : Meant). relation_of_terms sign z m) ys ∙ r in
      same_Some f g both
  one_formula (negation token read) f g (h, e, given) (k, r, other) =
      let same : h ≡ k = one_formula read h k given other in cc
  one_formula (both read token more) f g (h, k, e, left, right) (p, q, r, here, there) =
      let first : h ≡ p = one_formula read h p left here in
      let second : k ≡ q = one_formula more k q right there in cc
  one_formula (either read token more) f g (h, k, e, left, right) (p, q, r, here, there) =
      let first : h ≡ p = one_formula read h p left here in
      let second : k ≡ q = one_formula more k q right there in cc

  pub says_one : (f g : Tree) → SaysFormula scope f → SaysFormula scope g → f ≡ g
  says_one f g (read, (marks, are, says), given) (other, (others, be, tells), gives) =
      let same : marks ≡ others = one_list scope.dialect scope.line.now scope.tokens.now marks others are be in
      let trees : read ≡ other = one_tree others read other (subst (λ (ms : List Mark). MarksSay disj ms read) same says) tells in
      one_formula other f g (subst (λ (r : ParsedTree). SaysTree scope r f) trees given) gives
