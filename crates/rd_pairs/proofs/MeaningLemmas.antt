-- What was read means one formula at most, and has a known variable in each relation.
use Rattle.std.proofs.Common.{◌≡◌, ℕ, Bool, true, false, List, ◌∷◌, Some, None, sym, ◌∙◌, ap, subst}
use Rattle.std.specs.Prelude.{Contains, slice_get}
use Rattle.std.proofs.lemmas.Option.{same_Some, none-some}
use Rattle.rd_base.specs.declared.values.Value.{Value}
use Rattle.rd_ecl.specs.declared.formulas.Side.{Side}
use Rattle.rd_ecl.specs.declared.formulas.Side.TheVariants.{First, Second}
use Rattle.rd_ecl.specs.declared.formulas.Term.{Term}
use Rattle.rd_ecl.specs.declared.formulas.Term.TheVariants.{Slot as SlotTerm, Const}
use Rattle.rd_ecl.specs.Formulas.{Tree, AreValues, IsConstant}
use Rattle.rd_ecl.proofs.SideLemmas.{values_there}
use Rattle.rd_formulas.specs.declared.scope.Scope.{Scope}
use Rattle.rd_formulas.specs.declared.terms.Meant.{Meant}
use Rattle.rd_formulas.specs.declared.terms.Meant.TheVariants.{Slot, Value as ValueOf}
use Rattle.rd_formulas.specs.Meaning.{IsFirst, IsFirstSign, IsFirstUse, NoneOf, Related, Use, cross_relation, relation_of_terms, sided_relation, relations_in, uses_in}
use Rattle.rd_formulas.specs.Scope.{IsBare, IsScope, IsUnknown, IsUnknownUse, IsVariableAt, MeansAt, SaysTree, NameStandsFor, variables_of, token_bytes_at}
use Rattle.rd_formulas.proofs.BuildingLemmas.{defined_is}
use Rattle.rd_formulas.proofs.FindingLemmas.{none_both, none_right}
use Rattle.rd_formulas.proofs.OutlineLemmas.{one_standing, standing_known}
use Rattle.rd_grammar.specs.declared.marks.Leaf.TheVariants.{Name, Truth}
use Rattle.rd_grammar.specs.declared.marks.Sign.{Sign}
use Rattle.rd_grammar.specs.declared.marks.Sign.TheVariants.{Equal, Different, Less, AtMost}
use Rattle.rd_grammar.specs.Grammar.{ParsedTree, leaf, relation, negation, both, either}
use Rattle.rd_tokens.specs.declared.words.dialects.Dialect.{Dialect}
use Rattle.rd_tokens.specs.declared.words.dialects.Dialect.TheVariants.{Named, Sided, Unsided}
use Rattle.rd_tokens.specs.declared.words.terms.Said.{Said}
use Rattle.rd_tokens.specs.declared.words.terms.Said.TheVariants.{Variable, Value as ValueSaid}
use Rattle.rd_tokens.specs.Words.{SaysTermIn}
use Rattle.rd_tokens.proofs.TermLemmas.{one_term_in}
use Rattle.rd_pairs.proofs.NumberLemmas.{AreDifferent, contained, one_place}

-- the constants of a relation are those of its terms
sided_values : (sign : Sign) (side : Side) (left right : Term) → IsConstant left → IsConstant right → AreValues (sided_relation sign side left right)
sided_values Equal side left right h k = (h, k)
sided_values Different side left right h k = (h, k)
sided_values Less side left right h k = (h, k)
sided_values AtMost side left right h k = (h, k)

cross_values : (sign : Sign) (flipped : Bool) (i j : ℕ) → AreValues (cross_relation sign flipped i j)
cross_values Equal flipped i j = tt
cross_values Different flipped i j = tt
cross_values Less flipped i j = tt
cross_values AtMost flipped i j = tt

-- a value that is said is one
value_said : (dialect : Dialect) (bytes : List ℕ) (value : Value) → SaysTermIn dialect bytes (ValueSaid value) → IsConstant (Const value)
value_said Sided bytes value says = says.0
value_said Named bytes value says = says.0
value_said Unsided bytes value says = says.0

module _ (scope : Scope) where
  pub one_said : (number : ℕ) (s t : Said) → SaysTermIn scope.dialect (token_bytes_at scope number) s → SaysTermIn scope.dialect (token_bytes_at scope number) t → s ≡ t
  one_said number s t = one_term_in scope.dialect (token_bytes_at scope number) s t

  -- a term with a meaning is no unknown variable
  known_term : (number : ℕ) (x : Meant) → MeansAt scope number x → ¬ (IsUnknown scope number)
  known_term number (Slot side i) (name, says, here) (other, word, is, lacks) =
      let same = one_said number (Variable side name) (Variable other word) says is in
      let sides : side ≡ other = cc in
      let names : name ≡ word = cc in
      lacks (subst (λ (s : Side). Contains (variables_of scope s) word) sides
      (subst (λ (n : List ℕ). Contains (variables_of scope side) n) names (contained (variables_of scope side) name i here)))
  known_term number (ValueOf value) says (other, word, is, lacks) =
      let same = one_said number (ValueSaid value) (Variable other word) says is in absurd (cc)

  pub known_terms : (read : ParsedTree) (f : Tree) → SaysTree scope read f → NoneOf (IsUnknownUse scope) (uses_in read)
  known_terms (leaf (Truth value) token) f says = tt
  known_terms (leaf Name token) f stands = (standing_known scope token f stands, tt)
  known_terms (relation left sign token right) f (x, y, h, k, e) = (known_term left x h, (known_term right y k, tt))
  known_terms (negation token read) f (g, e, says) = known_terms read g says
  known_terms (both read token more) f (g, h, e, left, right) =
      none_both (IsUnknownUse scope) (uses_in read) (uses_in more) (known_terms read g left) (known_terms more h right)
  known_terms (either read token more) f (g, h, e, left, right) =
      none_both (IsUnknownUse scope) (uses_in read) (uses_in more) (known_terms read g left) (known_terms more h right)

  -- a relation with a formula has a variable
  slot_there : (number : ℕ) (side : Side) (i : ℕ) → MeansAt scope number (Slot side i) → IsVariableAt scope number
  slot_there number side i (name, says, here) = (side, name, says)

  never_bare : (sign : Sign) (left token right : ℕ) (x y : Meant) (f : Tree) → MeansAt scope left x → MeansAt scope right y → relation_of_terms sign x y ≡ Some f
      → ¬ (IsBare scope (record { sign = token; left = left; right = right }))
  never_bare sign left token right (Slot side i) y f h k e bare = bare.0 (slot_there left side i h)
  never_bare sign left token right (ValueOf value) (Slot side j) f h k e bare = bare.1 (slot_there right side j k)
  never_bare sign left token right (ValueOf value) (ValueOf other) f h k e bare = none-some f e

  pub known_relations : (read : ParsedTree) (f : Tree) → SaysTree scope read f → NoneOf (IsBare scope) (relations_in read)
  known_relations (leaf word token) f says = tt
  known_relations (relation left sign token right) f (x, y, h, k, e) = (never_bare sign left token right x y f h k e, tt)
  known_relations (negation token read) f (g, e, says) = known_relations read g says
  known_relations (both read token more) f (g, h, e, left, right) =
      none_both (IsBare scope) (relations_in read) (relations_in more) (known_relations read g left) (known_relations more h right)
  known_relations (either read token more) f (g, h, e, left, right) =
      none_both (IsBare scope) (relations_in read) (relations_in more) (known_relations read g left) (known_relations more h right)

  -- its constants are values, since they were read
  value_at : (number : ℕ) (value : Value) → MeansAt scope number (ValueOf value) → IsConstant (Const value)
  value_at number value says = value_said scope.dialect (token_bytes_at scope number) value says

  relation_values : (sign : Sign) (left right : ℕ) (x y : Meant) (f : Tree) → MeansAt scope left x → MeansAt scope right y → relation_of_terms sign x y ≡ Some f → AreValues f
  relation_values sign left right (Slot First i) (Slot First j) f h k e = subst AreValues (same_Some _ f e) (sided_values sign First (SlotTerm i) (SlotTerm j) tt tt)
  relation_values sign left right (Slot Second i) (Slot Second j) f h k e = subst AreValues (same_Some _ f e) (sided_values sign Second (SlotTerm i) (SlotTerm j) tt tt)
  relation_values sign left right (Slot First i) (Slot Second j) f h k e = subst AreValues (same_Some _ f e) (cross_values sign false i j)
  relation_values sign left right (Slot Second i) (Slot First j) f h k e = subst AreValues (same_Some _ f e) (cross_values sign true j i)
  relation_values sign left right (Slot side i) (ValueOf value) f h k e =
      subst AreValues (same_Some _ f e) (sided_values sign side (SlotTerm i) (Const value) tt (value_at right value k))
  relation_values sign left right (ValueOf value) (Slot side j) f h k e =
      subst AreValues (same_Some _ f e) (sided_values sign side (Const value) (SlotTerm j) (value_at left value h) tt)
  relation_values sign left right (ValueOf value) (ValueOf other) f h k e = absurd (none-some f e)

  -- so are those of what a name stands for
  standing_values : (token : ℕ) (f : Tree) → IsScope scope → NameStandsFor scope token f → AreValues f
  standing_values token f is (side, name, defined, says, found, e) =
      subst AreValues (sym e) (values_there side defined (defined_is scope side name defined is found).pair.values)

  pub given_values : (read : ParsedTree) (f : Tree) → IsScope scope → SaysTree scope read f → AreValues f
  given_values (leaf (Truth value) token) f is says = subst AreValues (sym says) tt
  given_values (leaf Name token) f is stands = standing_values token f is stands
  given_values (relation left sign token right) f is (x, y, h, k, e) = relation_values sign left right x y f h k e
  given_values (negation token read) f is (g, e, says) = subst AreValues (sym e) (given_values read g is says)
  given_values (both read token more) f is (g, h, e, left, right) = subst AreValues (sym e) (given_values read g is left, given_values more h is right)
  given_values (either read token more) f is (g, h, e, left, right) = subst AreValues (sym e) (given_values read g is left, given_values more h is right)

-- the first of what isn't there
pub no_first : {T : Type 0} (P : T → Type 0) (xs : List T) (x : T) → NoneOf P xs → ¬ (IsFirst P xs (Some x))
no_first P xs x none (front, back, is, before, has) =
    let parts = subst (λ (l : List _). NoneOf P l) is none in
    (none_right P front (x ∷ back) parts).0 has

pub no_first_use : (P : Use → Type 0) (xs : List Use) (number : ℕ) → NoneOf P xs → ¬ (IsFirstUse P xs (Some number))
no_first_use P xs number none (Some used, first, is) = no_first P xs used none first
no_first_use P xs number none (None, first, is) = absurd (cc)

pub no_first_sign : (P : Related → Type 0) (xs : List Related) (number : ℕ) → NoneOf P xs → ¬ (IsFirstSign P xs (Some number))
no_first_sign P xs number none (Some asked, first, is) = no_first P xs asked none first
no_first_sign P xs number none (None, first, is) = absurd (cc)

-- a term has one meaning
module _ (scope : Scope) (first : AreDifferent scope.first.now) (second : AreDifferent scope.second.now) where
  different : (side : Side) → AreDifferent (variables_of scope side)
  different First = first
  different Second = second

  one_slot : (side other : Side) (name word : List ℕ) (i j : ℕ) → Variable side name ≡ Variable other word → slice_get (variables_of scope side) i ≡ Some name
      → slice_get (variables_of scope other) j ≡ Some word → Slot side i ≡ Slot other j
  one_slot side other name word i j same here there =
      let sides : side ≡ other = cc in
      let names : name ≡ word = cc in
      let moved : slice_get (variables_of scope side) j ≡ Some word = subst (λ (s : Side). slice_get (variables_of scope s) j ≡ Some word) (sym sides) there in
      let places : i ≡ j = one_place (variables_of scope side) name i j (different side) here (moved ∙ ap (λ (n : List ℕ). Some n) (sym names)) in
      cc

  one_meaning : (number : ℕ) (x y : Meant) → MeansAt scope number x → MeansAt scope number y → x ≡ y
  one_meaning number (Slot side i) (Slot other j) (name, says, here) (word, is, there) =
      one_slot side other name word i j (one_said scope number (Variable side name) (Variable other word) says is) here there
  one_meaning number (Slot side i) (ValueOf value) (name, says, here) is =
      let same = one_said scope number (Variable side name) (ValueSaid value) says is in absurd (cc)
  one_meaning number (ValueOf value) (Slot side i) is (name, says, here) =
      let same = one_said scope number (Variable side name) (ValueSaid value) says is in absurd (cc)
  one_meaning number (ValueOf value) (ValueOf other) says is =
      let same = one_said scope number (ValueSaid value) (ValueSaid other) says is in
      let values : value ≡ other = cc in cc

  -- so what was read says one formula
  pub one_formula : (read : ParsedTree) (f g : Tree) → SaysTree scope read f → SaysTree scope read g → f ≡ g
  one_formula (leaf (Truth value) token) f g e k = e ∙ sym k
  one_formula (leaf Name token) f g stands also = one_standing scope token f g stands also
  one_formula (relation left sign token right) f g (x, y, h, k, e) (z, w, p, q, r) =
      let xs : x ≡ z = one_meaning left x z h p in
      let ys : y ≡ w = one_meaning right y w k q in
      let same : Some f ≡ Some g = sym e ∙ ap (λ (m : Meant). relation_of_terms sign m y) xs ∙ ap (λ (m : Meant). relation_of_terms sign z m) ys ∙ r in
      same_Some f g same
  one_formula (negation token read) f g (h, e, says) (k, r, other) =
      let same : h ≡ k = one_formula read h k says other in cc
  one_formula (both read token more) f g (h, k, e, left, right) (p, q, r, here, there) =
      let one : h ≡ p = one_formula read h p left here in
      let other : k ≡ q = one_formula more k q right there in cc
  one_formula (either read token more) f g (h, k, e, left, right) (p, q, r, here, there) =
      let one : h ≡ p = one_formula read h p left here in
      let other : k ≡ q = one_formula more k q right there in cc
