-- Formulas: what they mean, and which are in the fragment. The fragment is this project's profile of the logic of Dimitrov,
-- Raychev, Vechev and Koskinen 2014.
use Rattle.std.specs.Prelude.{ℕ, ◌+◌, ◌<◌, ◌^◌, pos, negsuc, max, nat_eq, nat_lt, nat_le, ◌==◌, Bool, true, false, not, ◌&&◌, ◌||◌, if◌then◌else◌, List, [], ◌∷◌, ◌++◌, length, slice_get, Option, Some, None, ⊤}
use Rattle.std.specs.Bool.{beq}
use Rattle.std.specs.Cmp.Lexicographic.{pointwise}
use Rattle.std.specs.List.{list_all, list_any}
use Rattle.std.specs.Ordering.{int_eq}
use Rattle.std.specs.Prelude.{int_lt, int_le}
use Rattle.rd_base.specs.Spelling.{IsValue}
use Rattle.rd_base.specs.declared.values.Value.{Value}
use Rattle.rd_base.specs.declared.values.Value.TheVariants.{Nil, Bool as Boolean, Int, Text}
use Rattle.rd_ecl.specs.declared.formulas.Side.{Side}
use Rattle.rd_ecl.specs.declared.formulas.Side.TheVariants.{First, Second}
use Rattle.rd_ecl.specs.declared.formulas.Rel.{Rel}
use Rattle.rd_ecl.specs.declared.formulas.Rel.TheVariants.{Eq, Lt, Le}
use Rattle.rd_ecl.specs.declared.formulas.Term.{Term}
use Rattle.rd_ecl.specs.declared.formulas.Term.TheVariants.{Slot, Const}
use Rattle.rd_ecl.specs.declared.formulas.Predicate.{Predicate}
use Rattle.rd_ecl.specs.declared.formulas.Reason.{Reason}
use Rattle.rd_ecl.specs.declared.formulas.Reason.TheVariants.{CrossRelation, NotOverCross, OrOfCross}
use Rattle.rd_ecl.specs.declared.formulas.Outside.{Outside}
use Rattle.rd_ecl.specs.declared.formulas.Formula.{Formula}
use Rattle.rd_ecl.specs.declared.formulas.Formula.TheVariants.{True, False, Atom, Cross, Mixed, Not', And', Or'}

-- a formula
pub data Tree : Type 0 where
  truth : Bool → Tree
  -- a relation of two terms of one side
  atom : Side → Rel → Term → Term → Tree
  -- a slot of side 1 differs from a slot of side 2
  cross : ℕ → ℕ → Tree
  -- a relation between a slot of side 1 and one of side 2, with side 2 on the left where it is flipped
  mixed : Rel → Bool → ℕ → ℕ → Tree
  negation : Tree → Tree
  both : Tree → Tree → Tree
  either : Tree → Tree → Tree

-- the formula that is kept
abbrev pub tree_of : Formula → Tree
tree_of True = truth true
tree_of False = truth false
tree_of (Atom side rel left right) = atom side rel left right
tree_of (Cross first second) = cross first second
tree_of (Mixed rel flipped first second) = mixed rel flipped first second
tree_of (Not' p f) = negation (tree_of f)
tree_of (And' p f q g) = both (tree_of f) (tree_of g)
tree_of (Or' p f q g) = either (tree_of f) (tree_of g)

-- What a formula means

-- the values are the same
abbrev pub same_value : Value → Value → Bool
same_value Nil Nil = true
same_value (Boolean a) (Boolean b) = beq a b
same_value (Int a) (Int b) = int_eq a b
same_value (Text a) (Text b) = pointwise nat_eq a b
same_value _ _ = false

-- the relation of two values; the order is of integers alone
abbrev pub relates : Rel → Value → Value → Bool
relates Eq left right = same_value left right
relates Lt (Int left) (Int right) = int_lt left right
relates Lt _ _ = false
relates Le (Int left) (Int right) = int_le left right
relates Le _ _ = false

-- the relation of two slots, where both are there
abbrev pub relate : Rel → Option Value → Option Value → Bool
relate rel (Some left) (Some right) = relates rel left right
relate rel _ _ = false

abbrev pub slots_of : Side → List Value → List Value → List Value
slots_of First a b = a
slots_of Second a b = b

abbrev pub term_value : Term → List Value → Option Value
term_value (Slot number) slots = slice_get slots number
term_value (Const value) slots = Some value

-- the formula holds of two calls, with the slots a of side 1 and b of side 2
abbrev pub holds : Tree → List Value → List Value → Bool
holds (truth value) a b = value
holds (atom side rel left right) a b = relate rel (term_value left (slots_of side a b)) (term_value right (slots_of side a b))
holds (cross first second) a b = not (relate Eq (slice_get a first) (slice_get b second))
holds (mixed rel true first second) a b = relate rel (slice_get b second) (slice_get a first)
holds (mixed rel false first second) a b = relate rel (slice_get a first) (slice_get b second)
holds (negation f) a b = not (holds f a b)
holds (both f g) a b = holds f a b && holds g a b
holds (either f g) a b = holds f a b || holds g a b

-- The slots that it speaks of

abbrev pub FitsTerm : Term → ℕ → Type 0
FitsTerm (Slot number) count = number < count
FitsTerm (Const value) count = ⊤

abbrev pub of_side : Side → ℕ → ℕ → ℕ
of_side First m n = m
of_side Second m n = n

-- each slot is one of the m slots of side 1 or of the n of side 2
abbrev pub Fits : Tree → ℕ → ℕ → Type 0
Fits (truth value) m n = ⊤
Fits (atom side rel left right) m n = FitsTerm left (of_side side m n) × FitsTerm right (of_side side m n)
Fits (cross first second) m n = (first < m) × (second < n)
Fits (mixed rel flipped first second) m n = (first < m) × (second < n)
Fits (negation f) m n = Fits f m n
Fits (both f g) m n = Fits f m n × Fits g m n
Fits (either f g) m n = Fits f m n × Fits g m n

-- the same, as a test
abbrev pub term_fits : Term → ℕ → Bool
term_fits (Slot number) count = nat_lt number count
term_fits (Const value) count = true

abbrev pub formula_fits : Tree → ℕ → ℕ → Bool
formula_fits (truth value) m n = true
formula_fits (atom side rel left right) m n = term_fits left (of_side side m n) && term_fits right (of_side side m n)
formula_fits (cross first second) m n = nat_lt first m && nat_lt second n
formula_fits (mixed rel flipped first second) m n = nat_lt first m && nat_lt second n
formula_fits (negation f) m n = formula_fits f m n
formula_fits (both f g) m n = formula_fits f m n && formula_fits g m n
formula_fits (either f g) m n = formula_fits f m n && formula_fits g m n

abbrev pub is_slot : Term → Bool
is_slot (Slot number) = true
is_slot (Const value) = false

-- each relation on one side has a slot
abbrev pub has_slots : Tree → Bool
has_slots (atom side rel left right) = is_slot left || is_slot right
has_slots (negation f) = has_slots f
has_slots (both f g) = has_slots f && has_slots g
has_slots (either f g) = has_slots f && has_slots g
has_slots _ = true

-- Its constants

-- the constant is a value
abbrev pub IsConstant : Term → Type 0
IsConstant (Slot number) = Unit {0}
IsConstant (Const value) = IsValue value

-- each constant is a value
abbrev pub AreValues : Tree → Type 0
AreValues (atom side rel left right) = IsConstant left × IsConstant right
AreValues (negation f) = AreValues f
AreValues (both f g) = AreValues f × AreValues g
AreValues (either f g) = AreValues f × AreValues g
AreValues _ = Unit {0}

-- the same, as a test
abbrev pub is_value : Value → Bool
is_value (Int (pos n)) = nat_lt n (2 ^ 63)
is_value (Int (negsuc n)) = nat_lt n (2 ^ 63)
is_value (Text text) = nat_le (length text) 255 && list_all (λ b. nat_lt b 256) text
is_value _ = true

abbrev pub is_constant : Term → Bool
is_constant (Slot number) = true
is_constant (Const value) = is_value value

abbrev pub are_values : Tree → Bool
are_values (atom side rel left right) = is_constant left && is_constant right
are_values (negation f) = are_values f
are_values (both f g) = are_values f && are_values g
are_values (either f g) = are_values f && are_values g
are_values _ = true

-- The fragment: X ::= S | B | X and X | X or B | B or X

-- S: true, false, a slot of side 1 that differs from one of side 2, or a conjunction of these
pub data IsSimple : Tree → Type 0 where
  simple_truth : {value : Bool} → IsSimple (truth value)
  simple_cross : {first second : ℕ} → IsSimple (cross first second)
  simple_both : {f g : Tree} → IsSimple f → IsSimple g → IsSimple (both f g)

-- B: any combination of true, false and relations on one side
pub data IsSided : Tree → Type 0 where
  sided_truth : {value : Bool} → IsSided (truth value)
  sided_atom : {side : Side} {rel : Rel} {left right : Term} → IsSided (atom side rel left right)
  sided_negation : {f : Tree} → IsSided f → IsSided (negation f)
  sided_both : {f g : Tree} → IsSided f → IsSided g → IsSided (both f g)
  sided_either : {f g : Tree} → IsSided f → IsSided g → IsSided (either f g)

-- X
pub data InFragment : Tree → Type 0 where
  of_simple : {f : Tree} → IsSimple f → InFragment f
  of_sided : {f : Tree} → IsSided f → InFragment f
  of_both : {f g : Tree} → InFragment f → InFragment g → InFragment (both f g)
  of_or_sided : {f g : Tree} → InFragment f → IsSided g → InFragment (either f g)
  of_sided_or : {f g : Tree} → IsSided f → InFragment g → InFragment (either f g)

-- The first node that is outside of it

-- each part behind those that it is made of, the left one first
abbrev pub post_order : Tree → List Tree
post_order (negation f) = post_order f ++ negation f ∷ []
post_order (both f g) = (post_order f ++ post_order g) ++ both f g ∷ []
post_order (either f g) = (post_order f ++ post_order g) ++ either f g ∷ []
post_order leaf = leaf ∷ []

-- it has a relation between the sides in it
abbrev pub crosses_sides : Tree → Bool
crosses_sides (truth value) = false
crosses_sides (atom side rel left right) = false
crosses_sides (cross first second) = true
crosses_sides (mixed rel flipped first second) = true
crosses_sides (negation f) = crosses_sides f
crosses_sides (both f g) = crosses_sides f || crosses_sides g
crosses_sides (either f g) = crosses_sides f || crosses_sides g

-- why a node offends, if it does
abbrev pub offence : Tree → Option Reason
offence (mixed rel flipped first second) = Some CrossRelation
offence (negation f) = if crosses_sides f then Some NotOverCross else None
offence (either f g) = if crosses_sides f && crosses_sides g then Some OrOfCross else None
offence _ = None

abbrev pub or_later : ℕ → Option Reason → Option Outside → Option Outside
or_later number (Some reason) later = Some (record { node = number; reason = reason })
or_later number None later = later

abbrev pub earlier_of : Option Outside → Option Outside → Option Outside
earlier_of (Some outside) second = Some outside
earlier_of None second = second

-- the first of these nodes that offends, where the first one has this number
abbrev pub first_offence : ℕ → List Tree → Option Outside
first_offence number [] = None
first_offence number (node ∷ nodes) = or_later number (offence node) (first_offence (number + 1) nodes)

-- How large it is

abbrev pub nodes : Tree → ℕ
nodes formula = length (post_order formula)

abbrev pub levels : Tree → ℕ
levels (negation f) = levels f + 1
levels (both f g) = max (levels f) (levels g) + 1
levels (either f g) = max (levels f) (levels g) + 1
levels _ = 1

-- The relations on one side, without their sides

abbrev pub same_rel : Rel → Rel → Bool
same_rel Eq Eq = true
same_rel Lt Lt = true
same_rel Le Le = true
same_rel _ _ = false

abbrev pub same_term : Term → Term → Bool
same_term (Slot a) (Slot b) = nat_eq a b
same_term (Const a) (Const b) = same_value a b
same_term _ _ = false

abbrev pub same_predicate : Predicate → Predicate → Bool
same_predicate p q = same_rel p.rel q.rel && (same_term p.left q.left && same_term p.right q.right)

-- those of the method with this number, from left to right, in the formula of a pair of methods
abbrev pub predicates_of : ℕ → ℕ → ℕ → Tree → List Predicate
predicates_of method first second (atom side rel left right) =
    if of_side side first second == method then record { rel = rel; left = left; right = right } ∷ [] else []
predicates_of method first second (negation f) = predicates_of method first second f
predicates_of method first second (both f g) = predicates_of method first second f ++ predicates_of method first second g
predicates_of method first second (either f g) = predicates_of method first second f ++ predicates_of method first second g
predicates_of method first second _ = []

-- the predicates that aren't among these, each once
abbrev pub distinct_from : List Predicate → List Predicate → List Predicate
distinct_from seen [] = []
distinct_from seen (p ∷ ps) = if list_any (same_predicate p) seen then distinct_from seen ps else p ∷ distinct_from (p ∷ seen) ps

abbrev pub distinct : List Predicate → List Predicate
distinct ps = distinct_from [] ps
