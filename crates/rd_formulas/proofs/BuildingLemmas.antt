-- What was read gives a formula of the slots that there are, and each of its nodes has a token.
use Rattle.std.proofs.Common.{◌≡◌, ℕ, ◌<◌, Bool, true, false, ◌||◌, List, [], ◌∷◌, ◌++◌, length, length-append, Option, Some, None, refl, sym, ◌∙◌, subst, arith, true≢false}
use Rattle.std.specs.Prelude.{slice_get, Contains, IfNone, IfSome, IsSome, IsTrue, not, is_some}
use Rattle.std.proofs.lemmas.List.{length-replicate}
use Rattle.std.proofs.lemmas.Option.{slice_get_within, get_or_from_slice_get, same_Some}
use Rattle.rd_base.specs.declared.values.Value.{Value}
use Rattle.rd_ecl.specs.declared.formulas.Side.{Side}
use Rattle.rd_ecl.specs.declared.formulas.Side.TheVariants.{First, Second}
use Rattle.rd_ecl.specs.declared.formulas.Term.{Term}
use Rattle.rd_ecl.specs.declared.formulas.Term.TheVariants.{Slot, Const}
use Rattle.rd_definitions.specs.Definitions.{IsDefined, formula_of}
use Rattle.rd_definitions.proofs.DefinitionLemmas.{defined_found}
use Rattle.rd_ecl.specs.Formulas.{Tree, negation, both, either, Fits, FitsTerm, of_side, has_slots, is_slot, nodes, post_order, crosses_sides}
use Rattle.rd_ecl.specs.Sides.{on_side}
use Rattle.rd_ecl.specs.Specified.{IsPair}
use Rattle.rd_ecl.proofs.SideLemmas.{fits_there, slots_there}
use Rattle.rd_formulas.specs.declared.scope.Scope.{Scope}
use Rattle.rd_formulas.specs.declared.terms.Meant.{Meant}
use Rattle.rd_formulas.specs.declared.terms.Meant.TheVariants.{Slot as SlotOf, Value as ValueOf}
use Rattle.rd_formulas.specs.Meaning.{Gives, NoneOf, cross_relation, node_tokens, relation_of_terms, relations_in, sided_relation, uses_in}
use Rattle.rd_formulas.specs.Scope.{IsBare, IsReady, IsScope, IsTruth, IsUnknown, IsUnknownUse, IsVariableAt, MeansAt, Outlines, SaysTree, NameStandsFor, definitions_of, variables_of, token_bytes_at}
use Rattle.rd_formulas.proofs.FindingLemmas.{none_left, none_right}
use Rattle.rd_grammar.specs.declared.marks.Leaf.TheVariants.{Name, Truth}
use Rattle.rd_grammar.specs.declared.marks.Sign.{Sign}
use Rattle.rd_grammar.specs.declared.marks.Sign.TheVariants.{Equal, Different, Less, AtMost}
use Rattle.rd_grammar.specs.Grammar.{ParsedTree, leaf, relation, negation as read_not, both as read_and, either as read_or}
use Rattle.rd_tokens.specs.declared.words.terms.Said.TheVariants.{Variable, Value as ValueSaid}
use Rattle.rd_tokens.specs.Words.{SaysTermIn}
use Rattle.rd_tokens.proofs.TermLemmas.{one_term_in}
use Rattle.std.proofs.lemmas.Bool.{and_from}

pub ready : (scope : Scope) (read : ParsedTree) → NoneOf (IsUnknownUse scope) (uses_in read) → NoneOf (IsBare scope) (relations_in read) → IsReady scope read
ready scope (leaf (Truth value) token) h k = tt
ready scope (leaf Name token) h k = h.0
ready scope (relation left sign token right) h k = (h.0, h.1.0, k.0)
ready scope (read_not token f) h k = ready scope f h k
ready scope (read_and f token g) h k = (
  ready scope f (none_left (IsUnknownUse scope) (uses_in f) (uses_in g) h) (none_left (IsBare scope) (relations_in f) (relations_in g) k),
  ready scope g (none_right (IsUnknownUse scope) (uses_in f) (uses_in g) h) (none_right (IsBare scope) (relations_in f) (relations_in g) k),
)
ready scope (read_or f token g) h k = (
  ready scope f (none_left (IsUnknownUse scope) (uses_in f) (uses_in g) h) (none_left (IsBare scope) (relations_in f) (relations_in g) k),
  ready scope g (none_right (IsUnknownUse scope) (uses_in f) (uses_in g) h) (none_right (IsBare scope) (relations_in f) (relations_in g) k),
)

-- a value is no variable
pub no_value : (scope : Scope) (number : ℕ) (value : Value) → IsVariableAt scope number → SaysTermIn scope.dialect (token_bytes_at scope number) (ValueSaid value) → ⊥
no_value scope number value (side, name, says) other =
    let bytes = token_bytes_at scope number in
    let same : Variable side name ≡ ValueSaid value = one_term_in scope.dialect bytes (Variable side name) (ValueSaid value) says other in
    absurd (cc)

-- a variable that has a slot is known
known_is : (scope : Scope) (number : ℕ) (side other : Side) (name word : List ℕ) (slot : ℕ) → SaysTermIn scope.dialect (token_bytes_at scope number) (Variable side name)
    → SaysTermIn scope.dialect (token_bytes_at scope number) (Variable other word) → slice_get (variables_of scope side) slot ≡ Some name → ¬ (Contains (variables_of scope other) word) → ⊥
known_is scope number side other name word slot says is found lacks =
    let same : Variable side name ≡ Variable other word = one_term_in scope.dialect (token_bytes_at scope number) (Variable side name) (Variable other word) says is in
    let sides : side ≡ other = cc in
    let names : name ≡ word = cc in
    let within = slice_get_within (variables_of scope side) slot name found in
    let at = get_or_from_slice_get (variables_of scope side) slot name name found in
    lacks (subst (λ (s : Side). Contains (variables_of scope s) word) sides (subst (λ (n : List ℕ). Contains (variables_of scope side) n) names (slot, within, at)))

-- a variable is unknown where no slot is found for it
unknown_at : (scope : Scope) (number : ℕ) (side : Side) (name : List ℕ) (o : Option ℕ) → SaysTermIn scope.dialect (token_bytes_at scope number) (Variable side name)
    → IfSome o (λ slot. slice_get (variables_of scope side) slot ≡ Some name) → IfNone o (¬ (Contains (variables_of scope side) name))
    → (is_some o ≡ false → IsUnknown scope number) × (IsUnknown scope number → is_some o ≡ false)
unknown_at scope number side name None says found none = ((λ h. (side, name, says, none)), (λ h. refl))
unknown_at scope number side name (Some slot) says found none =
    ((λ h. absurd (cc)), λ (other, word, is, lacks). absurd (known_is scope number side other name word slot says is found lacks))

pub unknown_by : (scope : Scope) (number : ℕ) (side : Side) (name : List ℕ) (o : Option ℕ) (r : Bool) → is_some o ≡ not r
    → SaysTermIn scope.dialect (token_bytes_at scope number) (Variable side name) → IfSome o (λ slot. slice_get (variables_of scope side) slot ≡ Some name)
    → IfNone o (¬ (Contains (variables_of scope side) name)) → (IsTrue r → IsUnknown scope number) × (IsUnknown scope number → IsTrue r)
unknown_by scope number side name o true e says found none =
    let h = unknown_at scope number side name o says found none in
    ((λ t. h.0 e), (λ u. refl))
unknown_by scope number side name o false e says found none =
    let h = unknown_at scope number side name o says found none in
    ((λ t. absurd (cc)), λ u. absurd (true≢false (sym e ∙ h.1 u)))

-- a relation with a variable has a formula
pub related_some : (scope : Scope) (sign : Sign) (left token right : ℕ) (x y : Meant) → MeansAt scope left x → MeansAt scope right y
    → ¬ (IsBare scope (record { sign = token; left = left; right = right })) → IsSome (relation_of_terms sign x y)
related_some scope sign left token right (SlotOf First i) (SlotOf First j) h k bare = refl
related_some scope sign left token right (SlotOf First i) (SlotOf Second j) h k bare = refl
related_some scope sign left token right (SlotOf Second i) (SlotOf First j) h k bare = refl
related_some scope sign left token right (SlotOf Second i) (SlotOf Second j) h k bare = refl
related_some scope sign left token right (SlotOf First i) (ValueOf w) h k bare = refl
related_some scope sign left token right (SlotOf Second i) (ValueOf w) h k bare = refl
related_some scope sign left token right (ValueOf v) (SlotOf First j) h k bare = refl
related_some scope sign left token right (ValueOf v) (SlotOf Second j) h k bare = refl
related_some scope sign left token right (ValueOf v) (ValueOf w) h k bare =
    absurd (bare ((λ found. no_value scope left v found h), λ found. no_value scope right w found k))

-- a relation on one side
sided_fits : (sign : Sign) (side : Side) (left right : Term) (m n : ℕ) → FitsTerm left (of_side side m n) → FitsTerm right (of_side side m n)
    → Fits (sided_relation sign side left right) m n
sided_fits Equal side left right m n h k = (h, k)
sided_fits Different side left right m n h k = (h, k)
sided_fits Less side left right m n h k = (h, k)
sided_fits AtMost side left right m n h k = (h, k)

sided_slots : (sign : Sign) (side : Side) (left right : Term) → (is_slot left || is_slot right) ≡ true → has_slots (sided_relation sign side left right) ≡ true
sided_slots Equal side left right h = h
sided_slots Different side left right h = h
sided_slots Less side left right h = h
sided_slots AtMost side left right h = h

across_fits : (sign : Sign) (flipped : Bool) (i j m n : ℕ) → i < m → j < n → Fits (cross_relation sign flipped i j) m n
across_fits Equal flipped i j m n h k = (h, k)
across_fits Different flipped i j m n h k = (h, k)
across_fits Less flipped i j m n h k = (h, k)
across_fits AtMost flipped i j m n h k = (h, k)

across_slots : (sign : Sign) (flipped : Bool) (i j : ℕ) → has_slots (cross_relation sign flipped i j) ≡ true
across_slots Equal flipped i j = refl
across_slots Different flipped i j = refl
across_slots Less flipped i j = refl
across_slots AtMost flipped i j = refl

-- a formula of slots that there are, with a slot in each relation
abbrev pub IsOf : ℕ → ℕ → Tree → Type 0
IsOf m n f = Fits f m n × (has_slots f ≡ true)

related_of : (scope : Scope) (sign : Sign) (left right : ℕ) (x y : Meant) (f : Tree) → MeansAt scope left x → MeansAt scope right y → relation_of_terms sign x y ≡ Some f
    → IsOf (length scope.first.now) (length scope.second.now) f
related_of scope sign left right (SlotOf First i) (SlotOf First j) f (a, s, h) (b, t, k) e =
    subst (IsOf _ _) (same_Some _ _ e) (sided_fits sign First (Slot i) (Slot j) _ _ (slice_get_within _ i a h) (slice_get_within _ j b k), sided_slots sign First (Slot i) (Slot j) refl)
related_of scope sign left right (SlotOf Second i) (SlotOf Second j) f (a, s, h) (b, t, k) e =
    subst (IsOf _ _) (same_Some _ _ e) (sided_fits sign Second (Slot i) (Slot j) _ _ (slice_get_within _ i a h) (slice_get_within _ j b k), sided_slots sign Second (Slot i) (Slot j) refl)
related_of scope sign left right (SlotOf First i) (SlotOf Second j) f (a, s, h) (b, t, k) e =
    subst (IsOf _ _) (same_Some _ _ e) (across_fits sign false i j _ _ (slice_get_within _ i a h) (slice_get_within _ j b k), across_slots sign false i j)
related_of scope sign left right (SlotOf Second i) (SlotOf First j) f (a, s, h) (b, t, k) e =
    subst (IsOf _ _) (same_Some _ _ e) (across_fits sign true j i _ _ (slice_get_within _ j b k) (slice_get_within _ i a h), across_slots sign true j i)
related_of scope sign left right (SlotOf First i) (ValueOf w) f (a, s, h) k e =
    subst (IsOf _ _) (same_Some _ _ e) (sided_fits sign First (Slot i) (Const w) _ _ (slice_get_within _ i a h) tt, sided_slots sign First (Slot i) (Const w) refl)
related_of scope sign left right (SlotOf Second i) (ValueOf w) f (a, s, h) k e =
    subst (IsOf _ _) (same_Some _ _ e) (sided_fits sign Second (Slot i) (Const w) _ _ (slice_get_within _ i a h) tt, sided_slots sign Second (Slot i) (Const w) refl)
related_of scope sign left right (ValueOf v) (SlotOf First j) f h (b, t, k) e =
    subst (IsOf _ _) (same_Some _ _ e) (sided_fits sign First (Const v) (Slot j) _ _ tt (slice_get_within _ j b k), sided_slots sign First (Const v) (Slot j) refl)
related_of scope sign left right (ValueOf v) (SlotOf Second j) f h (b, t, k) e =
    subst (IsOf _ _) (same_Some _ _ e) (sided_fits sign Second (Const v) (Slot j) _ _ tt (slice_get_within _ j b k), sided_slots sign Second (Const v) (Slot j) refl)
related_of scope sign left right (ValueOf v) (ValueOf w) f h k e = absurd (cc)

-- what was read is one, where each used name stands for one
gives_of : (scope : Scope) (Stands : ℕ → Tree → Type 0) (read : ParsedTree) (f : Tree)
    → ((token : ℕ) (g : Tree) → Stands token g → IsOf (length scope.first.now) (length scope.second.now) g)
    → Gives (MeansAt scope) Stands read f → IsOf (length scope.first.now) (length scope.second.now) f
gives_of scope Stands (leaf (Truth value) token) f names e = rw e (tt, refl)
gives_of scope Stands (leaf Name token) f names given = names token f given
gives_of scope Stands (relation left sign token right) f names (x, y, h, k, e) = related_of scope sign left right x y f h k e
gives_of scope Stands (read_not token g) f names (h, e, given) = rw e (gives_of scope Stands g h names given)
gives_of scope Stands (read_and g token h) f names (k, l, e, left, right) =
    let a = gives_of scope Stands g k names left in
    let b = gives_of scope Stands h l names right in
    rw e ((a.0, b.0), and_from (has_slots k) (has_slots l) a.1 b.1)
gives_of scope Stands (read_or g token h) f names (k, l, e, left, right) =
    let a = gives_of scope Stands g k names left in
    let b = gives_of scope Stands h l names right in
    rw e ((a.0, b.0), and_from (has_slots k) (has_slots l) a.1 b.1)

pub outlined_of : (scope : Scope) (read : ParsedTree) (f : Tree) → Outlines scope read f → IsOf (length scope.first.now) (length scope.second.now) f
outlined_of scope read f given = gives_of scope IsTruth read f (λ token g e. rw e (tt, refl)) given

-- what a name stands for is a formula of its side's slots
on_a_side : (m n : ℕ) (side : Side) (f : Tree) → IsPair f (of_side side m n) (of_side side m n) → crosses_sides f ≡ false → IsOf m n (on_side side f)
on_a_side m n First f pair alone = ((fits_there f m n alone pair.fits).0, slots_there First f ∙ pair.slots)
on_a_side m n Second f pair alone = ((fits_there f n m alone pair.fits).1, slots_there Second f ∙ pair.slots)

-- what a definition of a side's method says
pub defined_is : (scope : Scope) (side : Side) (name : List ℕ) (f : Tree) → IsScope scope → formula_of (definitions_of scope side) name ≡ Some f
    → IsDefined (of_side side (length scope.first.now) (length scope.second.now)) (record { name = name; formula = f })
defined_is scope First name f is found = defined_found (length scope.first.now) scope.first_definitions.now name f is.first_defined found
defined_is scope Second name f is found = defined_found (length scope.second.now) scope.second_definitions.now name f is.second_defined found

standing_of : (scope : Scope) (token : ℕ) (f : Tree) → IsScope scope → NameStandsFor scope token f → IsOf (length scope.first.now) (length scope.second.now) f
standing_of scope token f is (side, name, defined, says, found, e) =
    let has = defined_is scope side name defined is found in
    rw e (on_a_side (length scope.first.now) (length scope.second.now) side defined has.pair has.alone)

pub given_of : (scope : Scope) (read : ParsedTree) (f : Tree) → IsScope scope → SaysTree scope read f → IsOf (length scope.first.now) (length scope.second.now) f
given_of scope read f is given = gives_of scope (NameStandsFor scope) read f (λ token g stands. standing_of scope token g is stands) given

-- each node has a token
sided_nodes : (sign : Sign) (side : Side) (x y : Term) (left token right : ℕ)
    → length (node_tokens (relation left sign token right) (sided_relation sign side x y)) ≡ nodes (sided_relation sign side x y)
sided_nodes Equal side x y left token right = refl
sided_nodes Different side x y left token right = refl
sided_nodes Less side x y left token right = refl
sided_nodes AtMost side x y left token right = refl

across_nodes : (sign : Sign) (flipped : Bool) (i j left token right : ℕ)
    → length (node_tokens (relation left sign token right) (cross_relation sign flipped i j)) ≡ nodes (cross_relation sign flipped i j)
across_nodes Equal flipped i j left token right = refl
across_nodes Different flipped i j left token right = refl
across_nodes Less flipped i j left token right = refl
across_nodes AtMost flipped i j left token right = refl

abbrev HasNodes : ParsedTree → Tree → Type 0
HasNodes read f = length (node_tokens read f) ≡ nodes f

related_nodes : (sign : Sign) (left token right : ℕ) (x y : Meant) (f : Tree) → relation_of_terms sign x y ≡ Some f → HasNodes (relation left sign token right) f
related_nodes sign left token right (SlotOf First i) (SlotOf First j) f e = subst (HasNodes (relation left sign token right)) (same_Some _ _ e) (sided_nodes sign First (Slot i) (Slot j) left token right)
related_nodes sign left token right (SlotOf Second i) (SlotOf Second j) f e = subst (HasNodes (relation left sign token right)) (same_Some _ _ e) (sided_nodes sign Second (Slot i) (Slot j) left token right)
related_nodes sign left token right (SlotOf First i) (SlotOf Second j) f e = subst (HasNodes (relation left sign token right)) (same_Some _ _ e) (across_nodes sign false i j left token right)
related_nodes sign left token right (SlotOf Second i) (SlotOf First j) f e = subst (HasNodes (relation left sign token right)) (same_Some _ _ e) (across_nodes sign true j i left token right)
related_nodes sign left token right (SlotOf First i) (ValueOf w) f e = subst (HasNodes (relation left sign token right)) (same_Some _ _ e) (sided_nodes sign First (Slot i) (Const w) left token right)
related_nodes sign left token right (SlotOf Second i) (ValueOf w) f e = subst (HasNodes (relation left sign token right)) (same_Some _ _ e) (sided_nodes sign Second (Slot i) (Const w) left token right)
related_nodes sign left token right (ValueOf v) (SlotOf First j) f e = subst (HasNodes (relation left sign token right)) (same_Some _ _ e) (sided_nodes sign First (Const v) (Slot j) left token right)
related_nodes sign left token right (ValueOf v) (SlotOf Second j) f e = subst (HasNodes (relation left sign token right)) (same_Some _ _ e) (sided_nodes sign Second (Const v) (Slot j) left token right)
related_nodes sign left token right (ValueOf v) (ValueOf w) f e = absurd (cc)

pub given_nodes : (Means : ℕ → Meant → Type 0) (Stands : ℕ → Tree → Type 0) (read : ParsedTree) (f : Tree) → Gives Means Stands read f → HasNodes read f
given_nodes Means Stands (leaf (Truth value) token) f e = rw e refl
given_nodes Means Stands (leaf Name token) f given = length-replicate (nodes f) token
given_nodes Means Stands (relation left sign token right) f (x, y, h, k, e) = related_nodes sign left token right x y f e
given_nodes Means Stands (read_not token g) f (h, e, given) =
    rw e (omega (arith, given_nodes Means Stands g h given, length-append (node_tokens g h) (token ∷ []), length-append (post_order h) (negation h ∷ [])))
given_nodes Means Stands (read_and g token h) f (k, l, e, left, right) =
    rw e (omega (
      arith,
      given_nodes Means Stands g k left,
      given_nodes Means Stands h l right,
      length-append (node_tokens g k ++ node_tokens h l) (token ∷ []),
      length-append (node_tokens g k) (node_tokens h l),
      length-append (post_order k ++ post_order l) (both k l ∷ []),
      length-append (post_order k) (post_order l),
    ))
given_nodes Means Stands (read_or g token h) f (k, l, e, left, right) =
    rw e (omega (
      arith,
      given_nodes Means Stands g k left,
      given_nodes Means Stands h l right,
      length-append (node_tokens g k ++ node_tokens h l) (token ∷ []),
      length-append (node_tokens g k) (node_tokens h l),
      length-append (post_order k ++ post_order l) (either k l ∷ []),
      length-append (post_order k) (post_order l),
    ))
