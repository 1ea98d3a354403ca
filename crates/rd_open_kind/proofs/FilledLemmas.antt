-- What a default for each pair without a formula leaves of a kind.
use Rattle.std.proofs.Common.{◌≡◌, ℕ, ◌+◌, ◌*◌, ◌/◌, ◌%◌, ◌<◌, ◌≤◌, Bool, true, false, if◌then◌else◌, List, [], ◌∷◌, length, Option, Some, None, refl, ap, sym, ◌⊎◌, inl, inr, ⊎_elim, ◌∙◌, arith, get_or, is_some, map, set}
use Rattle.std.specs.Prelude.{flat_map, nat_le, option_map, unwrap_or}
use Rattle.std.specs.List.{range_with_len}
use Rattle.std.specs.Option.{option_or}
use Rattle.std.proofs.lemmas.Bool.{le-leb, cases_eq, cases_lt}
use Rattle.std.proofs.lemmas.List.{get_or_past, get_or-set_same, get_or-set_other, ext_get_or, length-set}
use Rattle.std.proofs.lemmas.List.FromFn.{get_or-map-range_with_len, length-map-range_with_len}
use Rattle.rd_base.specs.declared.limits.TheConstants.{MOST_METHODS}
use Rattle.rd_ecl.specs.declared.formulas.Predicate.{Predicate}
use Rattle.rd_ecl.specs.Formulas.{Tree, truth, predicates_of, distinct}
use Rattle.rd_ecl.specs.Formulas.IsSimple.{simple_truth}
use Rattle.rd_ecl.specs.Formulas.InFragment.{of_simple}
use Rattle.rd_ecl.specs.Specified.{SpecifiedKind, IsDraft, IsPair, IsWhole, all_pairs, formula_at, method_predicates, predicates_at, slots_at, with_pair, MayPair}
use Rattle.rd_ecl.proofs.PairLemmas.{equal_drafts}
use Rattle.rd_open_kind.specs.Filled.{filled_with, pair_or}

-- ---- a place

-- what a default gives at a place, where its methods stand in their order or not
abbrev given : Bool → Bool → Option Tree → Option Tree
given value ordered formula = if ordered then option_or formula (Some (truth value)) else formula

abbrev pub all_given : Bool → List (Option Tree) → List (Option Tree)
all_given value pairs = map (pair_or value pairs) (range_with_len 0 (length pairs))

at_place : (value : Bool) (pairs : List (Option Tree)) (p : ℕ) → p < length pairs
    → get_or (all_given value pairs) p None ≡ given value (nat_le (p % MOST_METHODS) (p / MOST_METHODS)) (get_or pairs p None)
at_place value pairs p h = get_or-map-range_with_len (pair_or value pairs) 0 (length pairs) p p None h (omega arith)

past_all : (value : Bool) (pairs : List (Option Tree)) (p : ℕ) → length pairs ≤ p → get_or (all_given value pairs) p None ≡ get_or pairs p None
past_all value pairs p h =
    get_or_past (all_given value pairs) p None (omega (arith, h, length-map-range_with_len (pair_or value pairs) 0 (length pairs)))
    ∙ sym (get_or_past pairs p None h)

-- at any place there is what was there, or the default in place of no formula
at_any : (value : Bool) (pairs : List (Option Tree)) (p : ℕ)
    → (ordered : Bool) × (get_or (all_given value pairs) p None ≡ given value ordered (get_or pairs p None))
at_any value pairs p =
    ⊎_elim (λ h. (nat_le (p % MOST_METHODS) (p / MOST_METHODS), at_place value pairs p h))
    (λ h. (false, past_all value pairs p h)) (cases_lt p (length pairs))

-- nothing is given where the methods don't stand in their order
at_turned : (value : Bool) (pairs : List (Option Tree)) (p : ℕ) → nat_le (p % MOST_METHODS) (p / MOST_METHODS) ≡ false
    → get_or (all_given value pairs) p None ≡ get_or pairs p None
at_turned value pairs p turned =
    ⊎_elim (λ h. at_place value pairs p h ∙ ap (λ ordered. given value ordered (get_or pairs p None)) turned)
    (past_all value pairs p) (cases_lt p (length pairs))

-- ---- formulas

given_ordered : (value : Bool) (formula : Option Tree) → given value true formula ≡ Some (unwrap_or formula (truth value))
given_ordered value (Some f) = refl
given_ordered value None = refl

guarded : (b : Bool) (x : Option Tree) → b ≡ true → (if b then x else None) ≡ x
guarded true x e = refl
guarded false x e = absurd (cc)

rows_of : (kind : SpecifiedKind) → IsDraft kind → (m n : ℕ) → m ≤ n → n < length kind.methods
    → (MOST_METHODS * n + m < length kind.pairs) × ((MOST_METHODS * n + m) % MOST_METHODS ≡ m) × ((MOST_METHODS * n + m) / MOST_METHODS ≡ n)
rows_of kind is m n ordered known =
    let rows = is.pairs.rows in
    let few = is.methods.few in
    (omega (arith, rows, few, ordered, known), omega (arith, few, ordered, known), omega (arith, few, ordered, known))

pub formula_given : (kind : SpecifiedKind) (value : Bool) (m n : ℕ) → IsDraft kind → m ≤ n → n < length kind.methods
    → formula_at (filled_with (Some value) kind) m n ≡ Some (unwrap_or (formula_at kind m n) (truth value))
unfolding filled_with
formula_given kind value m n is ordered known =
    let p = MOST_METHODS * n + m in
    let at = rows_of kind is m n ordered known in
    let in_order = le-leb m n ordered in
    let place_order : nat_le (p % MOST_METHODS) (p / MOST_METHODS) ≡ true = le-leb (p % MOST_METHODS) (p / MOST_METHODS) (rw (at.1, at.2) ordered) in
    guarded (nat_le m n) (get_or (all_given value kind.pairs) p None) in_order
    ∙ (at_place value kind.pairs p at.0
    ∙ (ap (λ ordered. given value ordered (get_or kind.pairs p None)) place_order
    ∙ (given_ordered value (get_or kind.pairs p None)
    ∙ ap (λ formula. Some (unwrap_or formula (truth value))) (sym (guarded (nat_le m n) (get_or kind.pairs p None) in_order)))))

pub filled_whole : (kind : SpecifiedKind) (value : Bool) → IsDraft kind → IsWhole (filled_with (Some value) kind)
unfolding filled_with
filled_whole kind value is m n ordered known = ap is_some (formula_given kind value m n is ordered known)

-- ---- predicates

-- the same parts give the same whole
same_parts : (t u : ℕ × ℕ → List Predicate) (ps : List (ℕ × ℕ)) → ((p : ℕ × ℕ) → t p ≡ u p) → flat_map t ps ≡ flat_map u ps
same_parts t u [] same = refl
same_parts t u (p ∷ ps) same = rw (same p) (rw (same_parts t u ps same) refl)

abbrev said : (Tree → List Predicate) → Option Tree → List Predicate
said part formula = unwrap_or (option_map part formula) []

-- a truth value says nothing of a method
said_given : (part : Tree → List Predicate) (value : Bool) → part (truth value) ≡ [] → (ordered : Bool) (formula : Option Tree)
    → said part (given value ordered formula) ≡ said part formula
said_given part value none true (Some f) = refl
said_given part value none true None = none
said_given part value none false formula = refl

said_guarded : (part : Tree → List Predicate) (b : Bool) (x y : Option Tree) → said part x ≡ said part y → said part (if b then x else None) ≡ said part (if b then y else None)
said_guarded part true x y e = e
said_guarded part false x y e = refl

parts_same : (kind : SpecifiedKind) (value : Bool) (m i j : ℕ) → predicates_at (filled_with (Some value) kind) m (i, j) ≡ predicates_at kind m (i, j)
unfolding filled_with
parts_same kind value m i j =
    let p = MOST_METHODS * j + i in
    let at = at_any value kind.pairs p in
    said_guarded (predicates_of m i j) (nat_le i j) (get_or (all_given value kind.pairs) p None) (get_or kind.pairs p None)
    (ap (said (predicates_of m i j)) at.1 ∙ said_given (predicates_of m i j) value refl at.0 (get_or kind.pairs p None))

pub predicates_same : (kind : SpecifiedKind) (default : Option Bool) (m : ℕ) → method_predicates (filled_with default kind) m ≡ method_predicates kind m
unfolding filled_with
predicates_same kind None m = refl
predicates_same kind (Some value) m =
    ap distinct (same_parts (predicates_at (filled_with (Some value) kind) m) (predicates_at kind m) all_pairs (λ p. parts_same kind value m p.0 p.1))

-- ---- a draft

-- a truth value may be the formula of any pair
pub truth_is_pair : (value : Bool) (m n : ℕ) → IsPair (truth value) m n
truth_is_pair value m n =
    record { fits = tt; slots = refl; values = tt; inside = of_simple simple_truth; few = omega arith; shallow = omega arith }

from_given : (value b ordered : Bool) (x : Option Tree) (f : Tree) → (if b then given value ordered x else None) ≡ Some f
    → ((if b then x else None) ≡ Some f) ⊎ (truth value ≡ f)
from_given value true true (Some g) f e = inl e
from_given value true true None f e = inr (cc)
from_given value true false x f e = inl e
from_given value false ordered x f e = absurd (cc)

formula_from : (kind : SpecifiedKind) (value : Bool) (i j : ℕ) (f : Tree) → formula_at (filled_with (Some value) kind) i j ≡ Some f
    → (formula_at kind i j ≡ Some f) ⊎ (truth value ≡ f)
unfolding filled_with
formula_from kind value i j f e =
    let p = MOST_METHODS * j + i in
    let at = at_any value kind.pairs p in
    from_given value (nat_le i j) at.0 (get_or kind.pairs p None) f (ap (λ (x : Option Tree). if nat_le i j then x else None) (sym at.1) ∙ e)

gt-leb : (i j : ℕ) → j < i → nat_le i j ≡ false
gt-leb i j h = grind arith

turned : (i j : ℕ) → j < i → i < MOST_METHODS → nat_le ((MOST_METHODS * j + i) % MOST_METHODS) ((MOST_METHODS * j + i) / MOST_METHODS) ≡ false
turned i j h low = gt-leb ((MOST_METHODS * j + i) % MOST_METHODS) ((MOST_METHODS * j + i) / MOST_METHODS) (omega (arith, h, low))

pub filled_draft : (kind : SpecifiedKind) (default : Option Bool) → IsDraft kind → IsDraft (filled_with default kind)
unfolding filled_with
filled_draft kind None is = is
filled_draft kind (Some value) is =
    let pairs = is.pairs in
    record {
      name = is.name;
      methods = is.methods;
      pairs = record {
        rows = length-map-range_with_len (pair_or value kind.pairs) 0 (length kind.pairs) ∙ pairs.rows;
        rest = λ i j above low. at_turned value kind.pairs (MOST_METHODS * j + i) (turned i j above low) ∙ pairs.rest i j above low;
        each = λ i j f e.
            ⊎_elim (pairs.each i j f)
            (λ same. rw (← same) (truth_is_pair value (slots_at kind.methods i) (slots_at kind.methods j)))
            (formula_from kind value i j f e);
        few = λ m. rw (predicates_same kind (Some value) m) (pairs.few m);
      };
    }

pub filled_name : (kind : SpecifiedKind) (default : Option Bool) → (filled_with default kind).name ≡ kind.name
unfolding filled_with
filled_name kind None = refl
filled_name kind (Some value) = refl

pub filled_methods : (kind : SpecifiedKind) (default : Option Bool) → (filled_with default kind).methods ≡ kind.methods
unfolding filled_with
filled_methods kind None = refl
filled_methods kind (Some value) = refl

-- a kind in which each pair has a formula gets nothing
own : (x : Option Tree) (f : Tree) → is_some x ≡ true → Some (unwrap_or x f) ≡ x
own (Some g) f e = refl
own None f e = absurd (cc)

pub filled_alike : (kind : SpecifiedKind) (default : Option Bool) → IsDraft kind → IsWhole kind → filled_with default kind ≡ kind
unfolding filled_with
filled_alike kind None is whole = refl
filled_alike kind (Some value) is whole =
    equal_drafts (filled_with (Some value) kind) kind (filled_draft kind (Some value) is) is refl refl
    (λ m n ordered known. formula_given kind value m n is ordered known ∙ own (formula_at kind m n) (truth value) (whole m n ordered known))

-- ---- place by place

-- the default as the formula of a pair that has none
set_given : (value : Bool) (pairs : List (Option Tree)) (at p : ℕ) → at < length pairs → get_or pairs at None ≡ None
    → (ordered : Bool) × (get_or (set pairs at (Some (truth value))) p None ≡ given value ordered (get_or pairs p None))
set_given value pairs at p within unset =
    ⊎_elim (λ same. (true, rw same (get_or-set_same pairs at (Some (truth value)) None within ∙ rw unset refl)))
    (λ other. (false, get_or-set_other pairs at p (Some (truth value)) None other)) (cases_eq p at)

parts_set : (kind : SpecifiedKind) (value : Bool) (first second m i j : ℕ) → MOST_METHODS * second + first < length kind.pairs
    → get_or kind.pairs (MOST_METHODS * second + first) None ≡ None
    → predicates_at (with_pair kind first second (truth value)) m (i, j) ≡ predicates_at kind m (i, j)
parts_set kind value first second m i j within unset =
    let p = MOST_METHODS * j + i in
    let at = MOST_METHODS * second + first in
    let is = set_given value kind.pairs at p within unset in
    said_guarded (predicates_of m i j) (nat_le i j) (get_or (set kind.pairs at (Some (truth value))) p None) (get_or kind.pairs p None)
    (ap (said (predicates_of m i j)) is.1 ∙ said_given (predicates_of m i j) value refl is.0 (get_or kind.pairs p None))

pub may_fill : (kind : SpecifiedKind) (value : Bool) (first second : ℕ) → IsDraft kind → first ≤ second → second < length kind.methods
    → formula_at kind first second ≡ None → MayPair kind first second (truth value)
may_fill kind value first second is ordered known unset =
    let at = rows_of kind is first second ordered known in
    let none = sym (guarded (nat_le first second) (get_or kind.pairs (MOST_METHODS * second + first) None) (le-leb first second ordered)) ∙ unset in
    let same : (m : ℕ) → method_predicates (with_pair kind first second (truth value)) m ≡ method_predicates kind m =
    λ m. ap distinct (same_parts (predicates_at (with_pair kind first second (truth value)) m) (predicates_at kind m) all_pairs
    (λ p. parts_set kind value first second m p.0 p.1 at.0 none)) in
    record {
      ordered = ordered;
      known = known;
      unset = unset;
      pair = truth_is_pair value (slots_at kind.methods first) (slots_at kind.methods second);
      few_first = rw (same first) (is.pairs.few first);
      few_second = rw (same second) (is.pairs.few second);
    }

-- a draft in which the places below one have what the default gives them
pub record IsFilledBelow (kind : SpecifiedKind) (value : Bool) (place : ℕ) (draft : SpecifiedKind) : Type 0 where
  pub name : draft.name ≡ kind.name
  pub methods : draft.methods ≡ kind.methods
  pub rows : length draft.pairs ≡ length kind.pairs
  pub below : (p : ℕ) → p < place → get_or draft.pairs p None ≡ pair_or value kind.pairs p
  pub rest : (p : ℕ) → place ≤ p → get_or draft.pairs p None ≡ get_or kind.pairs p None

pub none_filled : (kind : SpecifiedKind) (value : Bool) → IsFilledBelow kind value 0 kind
none_filled kind value =
    record { name = refl; methods = refl; rows = refl; below = λ p h. absurd (omega (arith, h)); rest = λ p h. refl }

pub one_more_filled : (kind : SpecifiedKind) (value : Bool) (place : ℕ) (draft : SpecifiedKind) → place < length kind.pairs → IsFilledBelow kind value place draft
    → IsFilledBelow kind value (place + 1) (record draft { pairs = set draft.pairs place (pair_or value draft.pairs place) })
one_more_filled kind value place draft within is =
    let rows = is.rows in
    let own : pair_or value draft.pairs place ≡ pair_or value kind.pairs place =
    ap (given value (nat_le (place % MOST_METHODS) (place / MOST_METHODS))) (is.rest place (omega arith)) in
    record {
      name = is.name;
      methods = is.methods;
      rows = length-set draft.pairs place (pair_or value draft.pairs place) ∙ is.rows;
      below = λ p h.
          ⊎_elim (λ same. rw same (get_or-set_same draft.pairs place (pair_or value draft.pairs place) None (omega (arith, rows, within)) ∙ own))
          (λ other. get_or-set_other draft.pairs place p (pair_or value draft.pairs place) None other ∙ is.below p (omega (arith, h, other))) (cases_eq p place);
      rest = λ p h. get_or-set_other draft.pairs place p (pair_or value draft.pairs place) None (λ same. omega (arith, same, h)) ∙ is.rest p (omega (arith, h));
    }

equal_parts : (kind other : SpecifiedKind) → kind.name ≡ other.name → kind.methods ≡ other.methods → kind.pairs ≡ other.pairs → kind ≡ other
equal_parts kind other e f g = λ i. record { name = e i; methods = f i; pairs = g i }

pub all_filled : (kind : SpecifiedKind) (value : Bool) (place : ℕ) (draft : SpecifiedKind) → length kind.pairs ≤ place → IsFilledBelow kind value place draft
    → draft ≡ filled_with (Some value) kind
unfolding filled_with
all_filled kind value place draft end is =
    let rows = is.rows in
    let count = length-map-range_with_len (pair_or value kind.pairs) 0 (length kind.pairs) in
    equal_parts draft (filled_with (Some value) kind) is.name is.methods
    (ext_get_or None draft.pairs (all_given value kind.pairs) (is.rows ∙ sym count)
    (λ p h. is.below p (omega (arith, h, rows, end)) ∙ sym (at_place value kind.pairs p (omega (arith, h, rows)))))
