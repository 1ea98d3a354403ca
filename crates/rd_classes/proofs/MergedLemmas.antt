-- The merged table tells the same of calls.
use Rattle.std.proofs.Common.{◌≡◌, ◌+◌, ◌<◌, ◌==◌, ℕ, zero, suc, Bool, true, false, List, [], ◌∷◌, length, map, get_or, Option, Some, None, refl, sym, ap, ◌∙◌, arith, inl, inr, subst, position, ◌↔◌, true≢false}
use Rattle.std.specs.Prelude.{Contains, IsNone, filter_map, is_some, option_map}
use Rattle.std.specs.List.{cons_option, list_any}
use Rattle.std.proofs.lemmas.Bool.{cases_Bool, cases_lt, cond-false, eq-eqb, eqb-true, or_cases, or_left, or_right}
use Rattle.std.proofs.lemmas.List.{get_or-map, get_or_past}
use Rattle.std.proofs.lemmas.List.Elements.{Contains-append_right}
use Rattle.std.proofs.lemmas.List.Quantifiers.{position-Some}
use Rattle.std.proofs.lemmas.Option.{get_or_from_slice_get, none-some, same_Some, slice_get-get_or}
use Rattle.rd_base.specs.declared.values.Value.{Value}
use Rattle.rd_ecl.specs.Specified.{SpecifiedKind}
use Rattle.rd_points.specs.declared.touches.Touch.{Touch}
use Rattle.rd_points.specs.Classes.{bits_of}
use Rattle.rd_points.specs.Points.{value_of_slot}
use Rattle.rd_points.specs.Tables.{IsSymmetric, MeetsIn, PointTable, Tells, class_count, conflicts_at, predicates_of_method, renamed_touch, touched, touches_at}
use Rattle.rd_points.proofs.NumberLemmas.{has_number, number_has}
use Rattle.rd_classes.specs.Merged.{are_alike, is_free, leaders, merged, merged_class, merged_conflicts}
use Rattle.rd_classes.proofs.LeaderLemmas.{Same, alike_same, leader_place, name_free, name_fresh, name_known, none_free, free_none}

-- ---- lists

-- a number is in a row where some member is equal to it
in_row : (row : List ℕ) (k : ℕ) → list_any (λ c. c == k) row ≡ true → Contains row k
in_row [] k h = absurd (cc)
in_row (c ∷ row) k h = elim (or_cases (c == k) (list_any (λ c. c == k) row) h) [
  | inl e ↦ (0, omega arith, eqb-true c k e)
  | inr e ↦ Contains-append_right (c ∷ []) row k (in_row row k e)
]

row_has : (row : List ℕ) (k : ℕ) → Contains row k → list_any (λ c. c == k) row ≡ true
row_has [] k h = absurd (omega (arith, h.1))
row_has (c ∷ row) k (zero, within, e) = or_left (c == k) (list_any (λ c. c == k) row) (eq-eqb c k e)
row_has (c ∷ row) k (suc i, within, e) = or_right (c == k) (list_any (λ c. c == k) row) (row_has row k (i, omega (arith, within), e))

-- what is read of a list that is mapped
read_map : {X Y : Type 0} (f : X → Y) (xs : List X) (i : ℕ) (d : X) → get_or (map f xs) i (f d) ≡ f (get_or xs i d)
read_map f [] i d = refl
read_map f (x ∷ xs) zero d = refl
read_map f (x ∷ xs) (suc i) d = read_map f xs i d

-- the members that are kept come of members
kept_from : {X Y : Type 0} (h : X → Option Y) (xs : List X) (y : Y) → Contains (filter_map h xs) y → (x : X) × Contains xs x × (h x ≡ Some y)
kept_from h [] y (i, within, e) = absurd (omega (arith, within))
kept_from {X = X} {Y = Y} h (x ∷ xs) y c = by (h x) refl c (kept_from h xs y)
  where
    later : (z : X) × Contains xs z × (h z ≡ Some y) → (z : X) × Contains (x ∷ xs) z × (h z ≡ Some y)
    later (z, has, e) = (z, Contains-append_right (x ∷ []) xs z has, e)

    by : (o : Option Y) → h x ≡ o → Contains (cons_option o (filter_map h xs)) y → (Contains (filter_map h xs) y → (z : X) × Contains xs z
        × (h z ≡ Some y))
        → (z : X) × Contains (x ∷ xs) z × (h z ≡ Some y)
    by None e c rest = later (rest c)
    by (Some z) e (zero, within, same) rest = (x, (0, omega arith, refl), e ∙ ap Some same)
    by (Some z) e (suc i, within, same) rest = later (rest (i, omega (arith, within), same))

kept_to : {X Y : Type 0} (h : X → Option Y) (xs : List X) (x : X) (y : Y) → Contains xs x → h x ≡ Some y → Contains (filter_map h xs) y
kept_to h [] x y (i, within, e) gives = absurd (omega (arith, within))
kept_to h (z ∷ xs) x y (zero, within, e) gives = rw (ap h e ∙ gives) (0, omega arith, refl)
kept_to {Y = Y} h (z ∷ xs) x y (suc i, within, e) gives = by (h z) (kept_to h xs x y (i, omega (arith, within), e) gives)
  where
    by : (o : Option Y) → Contains (filter_map h xs) y → Contains (cons_option o (filter_map h xs)) y
    by None c = c
    by (Some k) c = Contains-append_right (k ∷ []) (filter_map h xs) y c

-- ---- classes

module _ (table : PointTable) where
  some_known : (c d : ℕ) → Contains (conflicts_at table c) d → c < class_count table
  some_known c d h = elim (cases_lt c (class_count table)) [
    | inl within ↦ within
    | inr past ↦ absurd (omega (arith, h.1, ap length (get_or_past table.conflicts c [] past)))
  ]

  some_taken : (c d : ℕ) → Contains (conflicts_at table c) d → is_free table c ≡ false
  some_taken c d h = elim (cases_Bool (is_free table c)) [
    | inl free ↦ absurd (omega (arith, h.1, ap length (free_none table c free)))
    | inr taken ↦ taken
  ]

  -- a class that conflicts with one has a merged class
  some_named : (c d : ℕ) → Contains (conflicts_at table c) d → (x : ℕ) × (merged_class table c ≡ Some x)
  some_named c d h = by (leader_place table c c) refl
    where
      by : (o : Option ℕ) → leader_place table c c ≡ o → (x : ℕ) × (merged_class table c ≡ Some x)
      by (Some i) e = (i, name_known table c c i (let within = some_known c d h in omega arith) (some_taken c d h) e)
      by None e = (_, name_fresh table c (some_known c d h) (some_taken c d h) e)

  pub dropped : (c : ℕ) → IsNone (merged_class table c) ↔ (conflicts_at table c ≡ [])
  dropped c = (λ none. by (conflicts_at table c) refl none, λ e. rw (name_free table c (none_free table c e)) refl)
    where
      by : (row : List ℕ) → conflicts_at table c ≡ row → IsNone (merged_class table c) → row ≡ []
      by [] e none = refl
      by (d ∷ row) e none = absurd (let named = some_named c d (rw e (0, omega arith, refl)) in true≢false (sym (ap is_some named.1) ∙ none))

  -- the leader of a merged class is like the class
  named_like : (c x : ℕ) → merged_class table c ≡ Some x → (x < length (leaders table)) × Same table (get_or (leaders table) x c) c
  named_like c x named = elim (cases_Bool (is_free table c)) [
    | inl free ↦ absurd (none-some x (sym (name_free table c free) ∙ named))
    | inr taken ↦
        (let found : position (λ l. are_alike table l c) (leaders table) ≡ Some x =
        sym (cond-false (is_free table c) None (position (λ l. are_alike table l c) (leaders table)) taken) ∙ named in
        let (within, alike, before) = position-Some (λ l. are_alike table l c) (leaders table) x c found in
        (within, alike_same table (get_or (leaders table) x c) c alike))
  ]

  row_is : (c x : ℕ) → x < length (leaders table) → conflicts_at (merged table) x ≡ merged_conflicts table (get_or (leaders table) x c)
  row_is c x within = get_or-map (merged_conflicts table) (leaders table) x c [] within

  module _ (symmetric : IsSymmetric table) (c d x y : ℕ) (named : merged_class table c ≡ Some x) (named_too : merged_class table d ≡ Some y) where
    -- the leader of the merged class of c, and that of d
    one : ℕ
    one = get_or (leaders table) x c

    two : ℕ
    two = get_or (leaders table) y d

    test : ℕ → Bool
    test k = list_any (λ e. e == k) (conflicts_at table one)

    conflict_from : Contains (conflicts_at (merged table) x) y → Contains (conflicts_at table c) d
    unfolding one two test
    conflict_from h =
        let (within, like) = named_like c x named in
        let (within_too, like_too) = named_like d y named_too in
        let (i, k, at, passes, same) = number_has test (leaders table) 0 y (subst (λ l. Contains l y) (row_is c x within) h) in
        let place : i ≡ y = omega (arith, same) in
        let is_two : k ≡ two = sym (get_or_from_slice_get (leaders table) i k d at) ∙ ap (λ j. get_or (leaders table) j d) place in
        let has : Contains (conflicts_at table one) two = in_row (conflicts_at table one) two (ap test (sym is_two) ∙ passes) in
        let back : Contains (conflicts_at table two) c = symmetric c two (subst (λ l. Contains l two) like.1 has) in
        symmetric d c (subst (λ l. Contains l c) like_too.1 back)

    conflict_to : Contains (conflicts_at table c) d → Contains (conflicts_at (merged table) x) y
    unfolding one two test
    conflict_to h =
        let (within, like) = named_like c x named in
        let (within_too, like_too) = named_like d y named_too in
        let back : Contains (conflicts_at table c) two = symmetric two c (subst (λ l. Contains l c) (sym like_too.1) (symmetric c d h)) in
        let has : Contains (conflicts_at table one) two = subst (λ l. Contains l two) (sym like.1) back in
        let number = has_number test (leaders table) 0 y two (slice_get-get_or (leaders table) y d within_too) (row_has
        (conflicts_at table one) two has) in
        subst (λ l. Contains l y) (sym (row_is c x within)) (subst (Contains (merged_conflicts table one)) (let e : 0 + y ≡ y = omega arith in
        e) number)

    pub conflicts_as_before : Contains (conflicts_at (merged table) x) y ↔ Contains (conflicts_at table c) d
    conflicts_as_before = (conflict_from, conflict_to)

  -- ---- touches

  touches_are : (m bits : ℕ) → touches_at (merged table) m bits ≡ filter_map (renamed_touch (merged_class table)) (touches_at table m bits)
  touches_are m bits =
      ap (λ l. get_or l bits []) (read_map (map (filter_map (renamed_touch (merged_class table)))) table.touches m [])
      ∙ read_map (filter_map (renamed_touch (merged_class table))) (get_or table.touches m []) bits []

  -- a touch of the merged table is one of the table, with another class
  touch_from : (m : ℕ) (a : List Value) (x : Touch) → Contains (touched (merged table) m a) x
      → (t : Touch) × Contains (touched table m a) t × (merged_class table t.class ≡ Some x.class) × (x.slot ≡ t.slot)
  touch_from m a x h =
      let (t, has, gives) = kept_from (renamed_touch (merged_class table)) (touched table m a) x (subst (λ l. Contains l x) (touches_are m
      (bits_of (predicates_of_method table m) a)) h) in
      let (named, slot) = by t (merged_class table t.class) gives in
      (t, has, named, slot)
    where
      by : (t : Touch) (o : Option ℕ) → option_map (λ c. record t { class = c }) o ≡ Some x → (o ≡ Some x.class) × (x.slot ≡ t.slot)
      by t None e = absurd (none-some x e)
      by t (Some c) e =
          let same = same_Some (record t { class = c }) x e in
          (ap (λ k. Some k.class) same, ap (λ k. k.slot) (sym same))

  touch_to : (m : ℕ) (a : List Value) (t : Touch) (c : ℕ) → Contains (touched table m a) t → merged_class table t.class ≡ Some c
      → Contains (touched (merged table) m a) (record t { class = c })
  touch_to m a t c has named =
      subst (λ l. Contains l (record t { class = c })) (sym (touches_are m (bits_of (predicates_of_method table m) a)))
      (kept_to (renamed_touch (merged_class table)) (touched table m a) t (record t { class = c }) has (ap (option_map
      (λ k. record t { class = k })) named))

  module _ (symmetric : IsSymmetric table) (m n : ℕ) (a b : List Value) where
    meets_from : MeetsIn (merged table) m a n b → MeetsIn table m a n b
    meets_from (x, y, has_x, has_y, meets, same) =
        let (t, has_t, named_t, slot_t) = touch_from m a x has_x in
        let (u, has_u, named_u, slot_u) = touch_from n b y has_y in (
          t,
          u,
          has_t,
          has_u,
          conflict_from symmetric t.class u.class x.class y.class named_t named_u meets,
          ap (value_of_slot a) (sym slot_t)
              ∙ same ∙ ap (value_of_slot b) slot_u,
        )

    meets_to : MeetsIn table m a n b → MeetsIn (merged table) m a n b
    meets_to (t, u, has_t, has_u, meets, same) =
        let (x, named_t) = some_named t.class u.class meets in
        let (y, named_u) = some_named u.class t.class (symmetric t.class u.class meets) in (
          record t { class = x },
          record u { class = y },
          touch_to m a t x has_t named_t,
          touch_to n b u y has_u named_u,
          conflict_to symmetric t.class u.class x y named_t named_u meets,
          same,
        )

  -- what the table tells, the merged one tells too
  pub merged_tells : (kind : SpecifiedKind) → IsSymmetric table → Tells kind table → Tells kind (merged table)
  merged_tells kind symmetric tells m n a b known known_too slots_a slots_b =
      let law = tells m n a b known known_too slots_a slots_b in
      (λ h. law.0 (meets_from symmetric m n a b h), λ e. meets_to symmetric m n a b (law.1 e))
