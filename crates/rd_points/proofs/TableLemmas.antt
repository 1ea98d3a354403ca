-- The compiled table tells which calls commute.
use Rattle.std.proofs.Common.{◌≡◌, ◌+◌, ◌<◌, ◌≤◌, ◌⊎◌, ℕ, zero, suc, true, List, [], ◌∷◌, length, map, Option, Some, refl, sym, ap, ◌∙◌, arith, inl, inr, subst}
use Rattle.std.specs.Prelude.{is_none, slice_get, slice_index_or, All, Contains}
use Rattle.std.specs.List.{range_with_len}
use Rattle.std.specs.List.Sorted.{IsStrictlyIncreasing}
use Rattle.std.proofs.lemmas.List.{get_or-map, length-map}
use Rattle.std.proofs.lemmas.List.FromFn.{get_or-map-range_with_len, length-map-range_with_len, length-range_with_len}
use Rattle.std.proofs.lemmas.Option.{get_or_from_slice_get, same_Some, slice_get-get_or, slice_get_within}
use Rattle.rd_base.specs.declared.values.Value.{Value}
use Rattle.rd_ecl.specs.Specified.{IsKind, SpecifiedKind, method_predicates, slots_at}
use Rattle.rd_points.specs.declared.classes.Class.{Class}
use Rattle.rd_points.specs.declared.touches.Touch.{Touch}
use Rattle.rd_points.specs.Classes.{bits_of, classes_conflict, classes_of, first_class, slot_at, valuations}
use Rattle.rd_points.specs.Compiled.{compiled, numbers_from, touches_of}
use Rattle.rd_points.specs.Points.{IsSlot, Meets, class_of, value_of_slot}
use Rattle.rd_points.specs.Tables.{IsInRange, HasRisingConflicts, IsSymmetric, MeetsIn, Tells, class_count, conflicts_at, predicates_of_method, touched, touches_at}
use Rattle.rd_points.proofs.ClassLemmas.{bits_below, class_at, classes_few, conflict_turned, get_in_map}
use Rattle.rd_points.proofs.NumberLemmas.{has_number, number_has, numbers_rise}
use Rattle.rd_points.proofs.PointLemmas.{points_law}

-- ---- rows

-- a row of a list that is mapped is that of a member, or there is none
row_cases : {X Y : Type 0} (f : X → List Y) (xs : List X) (c : ℕ) → ((x : X) × (slice_get xs c ≡ Some x) × (slice_index_or (map f xs) c [] ≡ f x)) ⊎ (slice_index_or (map f xs) c [] ≡ [])
row_cases f [] c = inr refl
row_cases f (x ∷ xs) zero = inl (x, refl, refl)
row_cases f (x ∷ xs) (suc c) = row_cases f xs c

none_in : {X : Type 0} (xs : List X) (x : X) → xs ≡ [] → ¬ (Contains xs x)
none_in xs x e h = let l = ap length e in omega (arith, h.1)

from_contains : {X : Type 0} (xs : List X) (x : X) → Contains xs x → (i : ℕ) × (i < length xs) × (slice_get xs i ≡ Some x)
from_contains xs x (i, within, e) = (i, within, slice_get-get_or xs i x within ∙ ap Some e)

to_contains : {X : Type 0} (xs : List X) (i : ℕ) (x : X) → slice_get xs i ≡ Some x → Contains xs x
to_contains xs i x at = (i, slice_get_within xs i x at, get_or_from_slice_get xs i x x at)

all_from : {X : Type 0} (P : X → Type 0) (xs : List X) → ((x : X) → Contains xs x → P x) → All P xs
all_from P xs h k d within = h (slice_index_or xs k d) (to_contains xs k (slice_index_or xs k d) (slice_get-get_or xs k d within))

-- ---- slots

slot_is : (n i : ℕ) → i < n + 1 → IsSlot n (slot_at i)
slot_is n zero h = inl refl
slot_is n (suc i) h = inr (i, omega arith, refl)

is_slot : (n : ℕ) (s : Option ℕ) → IsSlot n s → (i : ℕ) × (i < n + 1) × (slot_at i ≡ s)
is_slot n s (inl e) = (0, omega arith, sym e)
is_slot n s (inr (i, within, e)) = (suc i, omega arith, sym e)

-- ---- the table of a kind

module _ (kind : SpecifiedKind) where
  -- the row of a class
  conflicts_of : Class → List ℕ
  conflicts_of c = numbers_from 0 (classes_conflict kind c) (classes_of kind)

  conflicts_are : (c : ℕ) → ((x : Class) × (slice_get (classes_of kind) c ≡ Some x) × (conflicts_at (compiled kind) c ≡ conflicts_of x)) ⊎ (conflicts_at (compiled kind) c ≡ [])
  unfolding conflicts_of
  conflicts_are c = row_cases (λ x. numbers_from 0 (classes_conflict kind x) (classes_of kind)) (classes_of kind) c

  -- a class conflicts with another by the table where the classes with these numbers do
  Conflicts : ℕ → ℕ → Type 0
  Conflicts c d = (x y : Class) × (slice_get (classes_of kind) c ≡ Some x) × (slice_get (classes_of kind) d ≡ Some y) × (classes_conflict kind x y ≡ true)

  conflict_from : (c d : ℕ) → Contains (conflicts_at (compiled kind) c) d → Conflicts c d
  unfolding conflicts_of Conflicts
  conflict_from c d h = elim (conflicts_are c) [
    | inl (x, at, row) ↦
        (let n = number_has (classes_conflict kind x) (classes_of kind) 0 d (subst (λ l. Contains l d) row h) in
        let same : n.0 ≡ d = omega arith in
        (x, n.1, at, subst (λ k. slice_get (classes_of kind) k ≡ Some n.1) same n.2, n.3))
    | inr none ↦ absurd (none_in (conflicts_at (compiled kind) c) d none h)
  ]

  conflict_to : (c d : ℕ) → Conflicts c d → Contains (conflicts_at (compiled kind) c) d
  unfolding conflicts_of Conflicts
  conflict_to c d (x, y, at, other, meets) =
      let row : conflicts_at (compiled kind) c ≡ conflicts_of x =
      get_or-map (λ x. numbers_from 0 (classes_conflict kind x) (classes_of kind)) (classes_of kind) c x [] (slice_get_within (classes_of kind) c x at)
      ∙ ap (λ x. numbers_from 0 (classes_conflict kind x) (classes_of kind)) (get_or_from_slice_get (classes_of kind) c x x at) in
      subst (λ l. Contains l d) (sym row) (subst (λ k. Contains (conflicts_of x) k) (let e : 0 + d ≡ d = omega arith in e) (has_number (classes_conflict kind x) (classes_of kind) 0 d y other meets))

  count_is : class_count (compiled kind) ≡ length (classes_of kind)
  count_is = length-map (classes_of kind) (λ x. numbers_from 0 (classes_conflict kind x) (classes_of kind))

  pub symmetric : IsSymmetric (compiled kind)
  unfolding Conflicts
  symmetric c d h =
      let (x, y, at, other, meets) = conflict_from c d h in
      conflict_to d c (y, x, other, at, conflict_turned kind y x ∙ meets)

  pub rising : HasRisingConflicts (compiled kind)
  unfolding conflicts_of
  rising c = elim (conflicts_are c) [
    | inl (x, at, row) ↦ subst IsStrictlyIncreasing (sym row) (numbers_rise (classes_conflict kind x) (classes_of kind) 0)
    | inr none ↦ subst IsStrictlyIncreasing (sym none) (λ k h. absurd (omega arith))
  ]

  -- ---- touches

  module _ (m : ℕ) (known : m < length kind.methods) where
    predicates_are : predicates_of_method (compiled kind) m ≡ method_predicates kind m
    predicates_are = get_or-map-range_with_len (method_predicates kind) 0 (length kind.methods) m m [] known (omega arith)

    touches_are : (bits : ℕ) → bits < valuations kind m → touches_at (compiled kind) m bits ≡ touches_of kind m bits
    touches_are bits possible =
        ap (λ l. slice_index_or l bits []) (get_or-map-range_with_len (λ m. map (touches_of kind m) (range_with_len 0 (valuations kind m))) 0 (length kind.methods) m m [] known (omega arith))
        ∙ get_or-map-range_with_len (touches_of kind m) 0 (valuations kind m) bits bits [] possible (omega arith)

    touched_are : (a : List Value) → touched (compiled kind) m a ≡ touches_of kind m (bits_of (method_predicates kind m) a)
    touched_are a = ap (λ ps. touches_at (compiled kind) m (bits_of ps a)) predicates_are ∙ touches_are (bits_of (method_predicates kind m) a) (bits_below (method_predicates kind m) a)

  -- one of the touches of a method with a valuation
  touch_from : (m bits : ℕ) (x : Touch) → Contains (touches_of kind m bits) x
      → (i : ℕ) × (i < slots_at kind.methods m + 1) × (x ≡ record { class = first_class kind m bits + i; slot = slot_at i })
  touch_from m bits x h =
      let touch : ℕ → Touch = λ i. record { class = first_class kind m bits + i; slot = slot_at i } in
      let (i, within, at) = from_contains (touches_of kind m bits) x h in
      let few : i < slots_at kind.methods m + 1 = omega (arith, length-map-range_with_len touch 0 (slots_at kind.methods m + 1)) in
      (i, few, sym (same_Some (touch i) x (sym (get_in_map touch (slots_at kind.methods m + 1) i few) ∙ at)))

  touch_to : (m bits i : ℕ) → i < slots_at kind.methods m + 1 → Contains (touches_of kind m bits) (record { class = first_class kind m bits + i; slot = slot_at i })
  touch_to m bits i few =
      let touch : ℕ → Touch = λ i. record { class = first_class kind m bits + i; slot = slot_at i } in
      to_contains (touches_of kind m bits) i (touch i) (get_in_map touch (slots_at kind.methods m + 1) i few)

  -- ---- the theorem

  -- the classes of two touches conflict exactly where the table says so
  module _ (m v i n w j : ℕ) (known : m < length kind.methods) (possible : v < valuations kind m) (within : i < slots_at kind.methods m + 1)
      (known_too : n < length kind.methods) (possible_too : w < valuations kind n) (within_too : j < slots_at kind.methods n + 1) where
    first : Class
    first = record { method = m; bits = v; slot = slot_at i }

    second : Class
    second = record { method = n; bits = w; slot = slot_at j }

    said_to : Conflicts (first_class kind m v + i) (first_class kind n w + j) → classes_conflict kind first second ≡ true
    unfolding Conflicts first second
    said_to (x, y, at, other, meets) =
        let one : x ≡ first = same_Some x first (sym at ∙ class_at kind m v i known possible within) in
        let two : y ≡ second = same_Some y second (sym other ∙ class_at kind n w j known_too possible_too within_too) in
        subst (λ c. classes_conflict kind c second ≡ true) one (subst (λ d. classes_conflict kind x d ≡ true) two meets)

    said_from : classes_conflict kind first second ≡ true → Conflicts (first_class kind m v + i) (first_class kind n w + j)
    unfolding Conflicts first second
    said_from meets = (first, second, class_at kind m v i known possible within, class_at kind n w j known_too possible_too within_too, meets)

  module _ (m n : ℕ) (a b : List Value) (known : m < length kind.methods) (known_too : n < length kind.methods) where
    v : ℕ
    v = bits_of (method_predicates kind m) a

    w : ℕ
    w = bits_of (method_predicates kind n) b

    possible : v < valuations kind m
    unfolding v
    possible = bits_below (method_predicates kind m) a

    possible_too : w < valuations kind n
    unfolding w
    possible_too = bits_below (method_predicates kind n) b

    meets_to : MeetsIn (compiled kind) m a n b → Meets kind m a n b
    unfolding v w first second
    meets_to (x, y, has_x, has_y, meets, same) =
        let (i, within, is_x) = touch_from m v x (subst (λ l. Contains l x) (touched_are m known a) has_x) in
        let (j, within_too, is_y) = touch_from n w y (subst (λ l. Contains l y) (touched_are n known_too b) has_y) in
        let class_x : x.class ≡ first_class kind m v + i = ap (λ t. t.class) is_x in
        let class_y : y.class ≡ first_class kind n w + j = ap (λ t. t.class) is_y in
        let slot_x : x.slot ≡ slot_at i = ap (λ t. t.slot) is_x in
        let slot_y : y.slot ≡ slot_at j = ap (λ t. t.slot) is_y in
        let said : Conflicts (first_class kind m v + i) (first_class kind n w + j) =
        subst (λ c. Conflicts c (first_class kind n w + j)) class_x (subst (λ d. Conflicts x.class d) class_y (conflict_from x.class y.class meets)) in (
          slot_at i,
          slot_at j,
          slot_is (slots_at kind.methods m) i within,
          slot_is (slots_at kind.methods n) j within_too,
          said_to m v i n w j known possible within known_too possible_too within_too said,
          ap (value_of_slot a) (sym slot_x) ∙ same ∙ ap (value_of_slot b) slot_y,
        )

    meets_from : Meets kind m a n b → MeetsIn (compiled kind) m a n b
    unfolding v w first second
    meets_from (s, t, is_s, is_t, meets, same) =
        let (i, within, at_s) = is_slot (slots_at kind.methods m) s is_s in
        let (j, within_too, at_t) = is_slot (slots_at kind.methods n) t is_t in
        let x : Touch = record { class = first_class kind m v + i; slot = slot_at i } in
        let y : Touch = record { class = first_class kind n w + j; slot = slot_at j } in
        let slots : classes_conflict kind (class_of kind m a (slot_at i)) (class_of kind n b (slot_at j)) ≡ true =
        subst (λ k. classes_conflict kind (class_of kind m a k) (class_of kind n b (slot_at j)) ≡ true) (sym at_s)
        (subst (λ k. classes_conflict kind (class_of kind m a s) (class_of kind n b k) ≡ true) (sym at_t) meets) in (
          x,
          y,
          subst (λ l. Contains l x) (sym (touched_are m known a)) (touch_to m v i within),
          subst (λ l. Contains l y) (sym (touched_are n known_too b)) (touch_to n w j within_too),
          conflict_to x.class y.class (said_from m v i n w j known possible within known_too possible_too within_too slots),
          ap (value_of_slot a) at_s ∙ same ∙ ap (value_of_slot b) (sym at_t),
        )

  pub tells : IsKind kind → Tells kind (compiled kind)
  tells is m n a b known known_too slots_a slots_b =
      let law = points_law kind m n a b is known known_too slots_a slots_b in
      (λ h. law.0 (meets_to m n a b known known_too h), λ h. meets_from m n a b known known_too (law.1 h))

  -- ---- numbers in range

  abbrev InTable : Touch → Type 0
  InTable x = x.class < class_count (compiled kind)

  abbrev methods_touches : ℕ → List (List Touch)
  methods_touches m = map (touches_of kind m) (range_with_len 0 (valuations kind m))

  row_is : (m : ℕ) → m < length kind.methods → slice_index_or (map methods_touches (range_with_len 0 (length kind.methods))) m [] ≡ methods_touches m
  row_is m known = get_or-map-range_with_len methods_touches 0 (length kind.methods) m m [] known (omega arith)

  touch_in_table : (m : ℕ) → m < length kind.methods → (bits : ℕ) → bits < valuations kind m → (x : Touch) → Contains (touches_of kind m bits) x → InTable x
  touch_in_table m known bits possible x h =
      let (i, within, is_x) = touch_from m bits x h in
      let class : x.class ≡ first_class kind m bits + i = ap (λ t. t.class) is_x in
      let below : first_class kind m bits + i < length (classes_of kind) = slice_get_within (classes_of kind) _ _ (class_at kind m bits i known possible within) in
      subst (λ k. x.class < k) (sym count_is) (subst (λ k. k < length (classes_of kind)) (sym class) below)

  touches_in_range : (m bits : ℕ) → All (λ x. x.class < class_count (compiled kind)) (touches_at (compiled kind) m bits)
  touches_in_range m bits = elim (row_cases methods_touches (range_with_len 0 (length kind.methods)) m) [
    | inl (k, at, row) ↦
        (let known : m < length kind.methods = omega (arith, slice_get_within (range_with_len 0 (length kind.methods)) m k at, length-range_with_len 0 (length kind.methods)) in
        elim (row_cases (touches_of kind m) (range_with_len 0 (valuations kind m)) bits) [
          | inl (v, at_bits, touches) ↦
              (let possible : bits < valuations kind m = omega (arith, slice_get_within (range_with_len 0 (valuations kind m)) bits v at_bits, length-range_with_len 0 (valuations kind m)) in
              subst (All InTable) (sym (touches_are m known bits possible)) (all_from InTable (touches_of kind m bits) (λ x h. touch_in_table m known bits possible x h)))
          | inr none ↦ subst (All InTable) (sym (ap (λ l. slice_index_or l bits []) (row_is m known) ∙ none)) (λ k d h. absurd (omega arith))
        ])
    | inr none ↦ subst (All InTable) (sym (ap (λ l. slice_index_or l bits []) none)) (λ k d h. absurd (omega arith))
  ]

  pub in_range : IsInRange (compiled kind)
  unfolding Conflicts
  in_range = record {
    plain = length-map (classes_of kind) (λ c. is_none c.slot) ∙ sym count_is;
    touches = touches_in_range;
    conflicts = λ c. all_from (λ d. d < class_count (compiled kind)) (conflicts_at (compiled kind) c) (λ d h.
        (let (x, y, at, other, meets) = conflict_from c d h in
        let within : d < length (classes_of kind) = slice_get_within (classes_of kind) d y other in
        subst (λ k. d < k) (sym count_is) within));
  }

  pub count_few : IsKind kind → class_count (compiled kind) ≤ 4096
  count_few is = subst (λ k. k ≤ 4096) (sym count_is) (classes_few kind is)
