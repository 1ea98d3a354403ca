-- Naming one class more.
use Rattle.std.proofs.Common.{◌≡◌, ◌+◌, ◌<◌, ◌≤◌, ◌&&◌, ◌==◌, ℕ, Bool, true, false, not, cond, List, [], ◌∷◌, ◌++◌, length, map, get_or, take, Option, Some, None, refl, sym, ap, ◌∙◌, arith, inl, inr, subst, position}
use Rattle.std.specs.Prelude.{All, nat_eq, nat_lt, slice_index_or}
use Rattle.std.specs.Cmp.Lexicographic.{pointwise}
use Rattle.std.specs.List.{list_any, position_or_len, range_with_len}
use Rattle.std.proofs.Math.Numerals.{add-one}
use Rattle.std.proofs.lemmas.Bool.{cases_Bool, cases_lt, eq-eqb}
use Rattle.std.proofs.lemmas.List.{get_or-map, get_or_past, length-map, length-take, map-append, take_all, take_more}
use Rattle.std.proofs.lemmas.List.FromFn.{get_or-map-range_with_len, length-map-range_with_len}
use Rattle.std.proofs.lemmas.Simd.{map-map}
use Rattle.std.proofs.lemmas.List.Elements.{All-head, All-push, All-tail}
use Rattle.rd_points.specs.Tables.{PointTable, class_count, conflicts_at, is_plain_class, renamed_touches}
use Rattle.rd_points.specs.Compiled.{numbers_from}
use Rattle.rd_points.proofs.NumberLemmas.{numbers-append}
use Rattle.rd_classes.specs.declared.merging.Leader.{Leader}
use Rattle.rd_classes.specs.Leaders.{AreLeaders, AreClassMarks, AreParts, is_like, signature_of}
use Rattle.rd_classes.specs.Merged.{are_alike, is_free, is_least, merged, merged_class, merged_conflicts}
use Rattle.rd_classes.proofs.LeaderLemmas.{alike_same, below_no, below_yes, free_not_least, fresh_least, known_not_least, leader_place, leaders_below, name_free, name_fresh, name_known, none_free}
use Rattle.rd_classes.proofs.PositionLemmas.{filter_below, filter_few}

-- a test of members and one of what they are seen as find the same place
module _ {X Y : Type 0} (view : X → Y) (q : X → Bool) (p : Y → Bool) where
  first_through : (xs : List X) → All (λ x. q x ≡ p (view x)) xs → position_or_len q xs ≡ position_or_len p (map view xs)
  first_through [] agree = refl
  first_through (x ∷ xs) agree =
      ap (λ b. cond (not b) (1 + position_or_len q xs) 0) (All-head (λ x. q x ≡ p (view x)) x xs agree)
      ∙ ap (λ k. cond (not (p (view x))) (1 + k) 0) (first_through xs (All-tail (λ x. q x ≡ p (view x)) x xs agree))

  pub place_through : (xs : List X) → All (λ x. q x ≡ p (view x)) xs → position q xs ≡ position p (map view xs)
  place_through xs agree =
      ap (λ k. cond (nat_lt k (length xs)) (Some k) None) (first_through xs agree)
      ∙ ap (λ n. cond (nat_lt (position_or_len p (map view xs)) n) (Some (position_or_len p (map view xs))) None) (sym (length-map xs view))

module _ (table : PointTable) where
  -- a leader that is like a class has its signature
  like_is : (c : ℕ) (l : Leader) → l.signature ≡ signature_of (conflicts_at table l.class)
      → is_like table c (signature_of (conflicts_at table c)) l ≡ are_alike table l.class c
  like_is c l signed = elim (cases_Bool (are_alike table l.class c)) [
    | inl e ↦
        (let row : conflicts_at table l.class ≡ conflicts_at table c = (alike_same table l.class c e).1 in
        ap (λ b. b && are_alike table l.class c) (eq-eqb l.signature (signature_of (conflicts_at table c)) (signed ∙ ap signature_of row)))
    | inr e ↦ ap (λ b. (l.signature == signature_of (conflicts_at table c)) && b) e
        ∙ false_right (l.signature == signature_of (conflicts_at table c)) ∙ sym e
  ]
    where
      false_right : (b : Bool) → (b && false) ≡ false
      false_right true = refl
      false_right false = refl

  module _ (ls : List Leader) (c : ℕ) (are : AreLeaders table ls c) where
    place_is : position (is_like table c (signature_of (conflicts_at table c))) ls ≡ leader_place table c c
    place_is =
        let agree : All (λ l. is_like table c (signature_of
        (conflicts_at table c)) l ≡ are_alike table l.class c) ls = λ k d within. like_is c _ (are.signatures k d within) in
        place_through (λ l. l.class) (is_like table c (signature_of (conflicts_at table c))) (λ l. are_alike table l c) ls agree
        ∙ ap (position (λ l. are_alike table l c)) are.classes

    pub count_is : length ls ≡ length (leaders_below table c)
    count_is = sym (length-map ls (λ l. l.class)) ∙ ap length are.classes

    pub count_few : length ls ≤ c
    count_few = omega (arith, count_is, filter_few (is_least table) c)

    kept : is_least table c ≡ false → AreLeaders table ls (c + 1)
    kept fails = record {
      classes = are.classes ∙ sym (below_no table c fails) ∙ ap (leaders_below table) (sym (add-one c));
      signatures = are.signatures;
    }

    taken : 0 < length (conflicts_at table c) → is_free table c ≡ false
    taken some = by (conflicts_at table c) some
      where
        by : (cs : List ℕ) → 0 < length cs → pointwise nat_eq cs [] ≡ false
        by [] h = absurd (omega arith)
        by (x ∷ xs) h = refl

    free : length (conflicts_at table c) ≡ 0 → is_free table c ≡ true
    free none = by (conflicts_at table c) none
      where
        by : (cs : List ℕ) → length cs ≡ 0 → pointwise nat_eq cs [] ≡ true
        by [] h = refl
        by (x ∷ xs) h = absurd (omega arith)

    pub free_name : length (conflicts_at table c) ≡ 0 → None ≡ merged_class table c
    free_name none = sym (name_free table c (free none))

    pub free_kept : length (conflicts_at table c) ≡ 0 → AreLeaders table ls (c + 1)
    free_kept none = kept (free_not_least table c (free none))

    module _ (some : 0 < length (conflicts_at table c)) where
      module _ (i : ℕ) (found : position (is_like table c (signature_of (conflicts_at table c))) ls ≡ Some i) where
        pub known_name : c < class_count table → Some i ≡ merged_class table c
        known_name within = sym (name_known table c c i (omega arith) (taken some) (sym place_is ∙ found))

        pub known_kept : AreLeaders table ls (c + 1)
        known_kept = kept (known_not_least table c i (sym place_is ∙ found))

      module _ (none : position (is_like table c (signature_of (conflicts_at table c))) ls ≡ None) where
        pub fresh_name : c < class_count table → Some (length ls) ≡ merged_class table c
        fresh_name within = ap Some count_is ∙ sym (name_fresh table c within (taken some) (sym place_is ∙ none))

        pub fresh_kept : (l : Leader) → l.class ≡ c → l.signature ≡ signature_of (conflicts_at table c) → AreLeaders table (ls ++ l ∷ []) (c + 1)
        fresh_kept l class signed = record {
          classes =
              map-append (λ l. l.class) ls (l ∷ []) ∙ ap (λ k. map (λ l. l.class) ls ++ k ∷ []) class ∙ ap (λ cs. cs ++ c ∷ []) are.classes
              ∙ sym (below_yes table c (fresh_least table c (taken some) (sym place_is ∙ none))) ∙ ap (leaders_below table) (sym (add-one c));
          signatures = All-push (λ l. l.signature ≡ signature_of (conflicts_at table l.class)) ls l are.signatures (signed
              ∙ ap (λ k. signature_of (conflicts_at table k)) (sym class));
        }

    -- ---- the parts of the merged table

    pub leader_within : (i : ℕ) (d : Leader) → i < length ls → (get_or ls i d).class < c
    leader_within i d within =
        let all : All (λ k. k < c) (map (λ l. l.class) ls) = subst (All (λ k. k < c)) (sym are.classes) (filter_below (is_least table) c) in
        subst (λ k. k < c) (get_or-map (λ l. l.class) ls i d c within) (all i c (omega (arith, length-map ls (λ l. l.class))))

-- one leader more is asked whether it stands in a row
pub row_more : (row : List ℕ) (count : ℕ) (marks : List Bool) (ls : List Leader) (numbers : List ℕ) (i : ℕ) (d : Leader) → AreClassMarks row count marks
    → i < length ls → (get_or ls i d).class < count → numbers ≡ numbers_from 0 (λ k. list_any (λ c. c == k) row) (take i (map (λ l. l.class) ls))
    → numbers ++ cond (get_or marks (get_or ls i d).class false) (i ∷ []) [] ≡ numbers_from 0 (λ k. list_any (λ c. c == k) row) (take (i + 1)
    (map (λ l. l.class) ls))
row_more row count marks ls numbers i d marked within inside so_far =
    let test : ℕ → Bool = λ k. list_any (λ c. c == k) row in
    let cs : List ℕ = map (λ l. l.class) ls in
    let here : ℕ = (get_or ls i d).class in
    let long : i < length cs = omega (arith, length-map ls (λ l. l.class)) in
    let front : 0 + length (take i cs) ≡ i = omega (arith, length-take i cs) in
    ap (λ ns. ns ++ cond (get_or marks here false) (i ∷ []) []) so_far
    ∙ ap (λ b. numbers_from 0 test (take i cs) ++ cond b (i ∷ []) []) (marked.each here inside)
    ∙ ap (λ k. numbers_from 0 test (take i cs) ++ cond (test here) (k ∷ []) []) (sym front)
    ∙ sym (numbers-append test (take i cs) (here ∷ []) 0)
    ∙ ap (λ k. numbers_from 0 test (take i cs ++ k ∷ [])) (sym (get_or-map (λ l. l.class) ls i d here within))
    ∙ ap (numbers_from 0 test) (sym (take_more cs i here long))

module _ (table : PointTable) (ls : List Leader) (are : AreLeaders table ls (class_count table)) where
  pub row_all : (class : ℕ) (numbers : List ℕ) (i : ℕ) → length ls ≤ i
      → numbers ≡ numbers_from 0 (λ k. list_any (λ c. c == k) (conflicts_at table class)) (take i (map (λ l. l.class) ls))
      → numbers ≡ merged_conflicts table class
  row_all class numbers i all is =
      is ∙ ap (numbers_from 0 (λ k. list_any (λ c. c == k) (conflicts_at table class))) (take_all i (map (λ l. l.class) ls) (omega
      (arith, length-map ls (λ l. l.class))) ∙ are.classes)

  pub parts_of : (names : List (Option ℕ)) (plain : List Bool) (conflicts : List (List ℕ))
      → names ≡ map (merged_class table) (range_with_len 0 (class_count table))
      → plain ≡ map (λ l. is_plain_class table l.class) ls → conflicts ≡ map (λ l. merged_conflicts table l.class) ls → AreParts table names plain conflicts
  parts_of names plain conflicts named plain_is conflicts_are = record {
    named = named;
    plain_is = plain_is ∙ sym (map-map (is_plain_class table) (λ l. l.class) ls) ∙ ap (map (is_plain_class table)) are.classes;
    conflicts_are = conflicts_are ∙ sym (map-map (merged_conflicts table) (λ l. l.class) ls) ∙ ap (map (merged_conflicts table)) are.classes;
  }

module _ (table : PointTable) (names : List (Option ℕ)) (plain : List Bool) (conflicts : List (List ℕ))
    (are : AreParts table names plain conflicts) where
  named_at : (c : ℕ) → slice_index_or names c None ≡ merged_class table c
  named_at c = ap (λ l. slice_index_or l c None) are.named ∙ elim (cases_lt c (class_count table)) [
    | inl within ↦ get_or-map-range_with_len (merged_class table) 0 (class_count table) c c None within (omega arith)
    | inr past ↦
        get_or_past (map (merged_class table) (range_with_len 0 (class_count table))) c None (omega (
          arith,
          length-map-range_with_len
              (merged_class table) 0 (class_count table),
        ))
        ∙ sym (name_free table c (none_free table c (get_or_past table.conflicts c [] past)))
  ]

  pub renamed_is : (new : PointTable) (given : List (Option ℕ)) → given ≡ names
      → new ≡ record {
        predicates = table.predicates;
        touches = renamed_touches
            (λ c. slice_index_or given c None) table.touches;
        plain = plain;
        conflicts = conflicts;
      }
      → new ≡ merged table
  renamed_is new given same is =
      is ∙ (λ i. record {
        predicates = table.predicates;
        touches = renamed_touches (λ c. slice_index_or (same i) c None) table.touches;
        plain = plain;
        conflicts = conflicts;
      }) ∙ (λ i. record {
        predicates = table.predicates;
        touches = renamed_touches (λ c. named_at c i) table.touches;
        plain = are.plain_is i;
        conflicts = are.conflicts_are i;
      })
