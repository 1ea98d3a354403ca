-- Classes that are alike, and the least of each: their leaders.
use Rattle.std.proofs.Common.{◌≡◌, ◌+◌, ◌-◌, ◌<◌, ◌≤◌, ◌&&◌, ℕ, zero, suc, Bool, true, false, not, List, [], ◌∷◌, ◌++◌, length, get_or, Option, Some, None, refl, sym, ap, ◌∙◌, arith, subst, position}
use Rattle.std.specs.Prelude.{filter, nat_eq}
use Rattle.std.specs.Bool.{beq}
use Rattle.std.specs.Cmp.{booleans_Decides}
use Rattle.std.specs.Cmp.Lexicographic.{pointwise, same_text}
use Rattle.std.specs.List.{list_all, range_with_len}
use Rattle.std.proofs.lemmas.Bool.{and_from, and_parts, cond-false, cond-true, false_from_ne_true, not-true, not_from_false, both_ways}
use Rattle.std.proofs.lemmas.Cmp.{nat_list_eq_equiv}
use Rattle.std.proofs.lemmas.List.{get_or_append_left, get_or_push, length-append}
use Rattle.std.proofs.lemmas.List.Elements.{All-get_or, filter-append}
use Rattle.std.proofs.lemmas.List.Folds.{list_all-append}
use Rattle.std.proofs.lemmas.List.FromFn.{get_or-range_with_len, length-range_with_len}
use Rattle.std.proofs.lemmas.List.Sums.{AllPass-from_list_all}
use Rattle.std.proofs.lemmas.List.Quantifiers.{position-Some}
use Rattle.rd_points.specs.Tables.{PointTable, class_count, conflicts_at, is_plain_class}
use Rattle.rd_classes.specs.Merged.{are_alike, is_free, is_least, leaders, merged_class}
use Rattle.rd_classes.proofs.PositionLemmas.{filter_below, filter_has, filter_no, filter_yes, none_passes, position_is, position_kept, below_push, range_split}

-- the same of two classes, as an equation
abbrev pub Same : PointTable → ℕ → ℕ → Type 0
Same table c d = (is_plain_class table c ≡ is_plain_class table d) × (conflicts_at table c ≡ conflicts_at table d)

module _ (table : PointTable) where
  pub alike_same : (c d : ℕ) → are_alike table c d ≡ true → Same table c d
  alike_same c d alike =
      let (one, two) = and_parts (beq (is_plain_class table c) (is_plain_class table d)) (pointwise nat_eq (conflicts_at table c) (conflicts_at table d)) alike in
      ((booleans_Decides (is_plain_class table c) (is_plain_class table d)).0 one, same_text (conflicts_at table c) (conflicts_at table d) (sym two))

  pub same_alike : (c d : ℕ) → Same table c d → are_alike table c d ≡ true
  same_alike c d (one, two) =
      and_from (beq (is_plain_class table c) (is_plain_class table d)) (pointwise nat_eq (conflicts_at table c) (conflicts_at table d))
      ((booleans_Decides (is_plain_class table c) (is_plain_class table d)).1 one)
      (ap (pointwise nat_eq (conflicts_at table c)) (sym two) ∙ nat_list_eq_equiv.refl (conflicts_at table c))

  pub alike_itself : (c : ℕ) → are_alike table c c ≡ true
  alike_itself c = same_alike c c (refl, refl)

  pub free_none : (c : ℕ) → is_free table c ≡ true → conflicts_at table c ≡ []
  free_none c free = same_text (conflicts_at table c) [] (sym free)

  pub none_free : (c : ℕ) → conflicts_at table c ≡ [] → is_free table c ≡ true
  none_free c none = ap (λ cs. pointwise nat_eq cs []) none

  -- the classes below n aren't like one that has this
  abbrev unlike_below : Bool → List ℕ → ℕ → Bool
  unlike_below plain row n = list_all (λ d. not (beq (is_plain_class table d) plain && pointwise nat_eq (conflicts_at table d) row)) (range_with_len 0 n)

  -- where no leader is like a class, no class below it is: the least of those that are would be a leader
  none_alike : (c : ℕ) → is_free table c ≡ false → (n : ℕ) → ((l : ℕ) → l < n → is_least table l ≡ true → are_alike table l c ≡ false)
      → unlike_below (is_plain_class table c) (conflicts_at table c) n ≡ true
  none_alike c taken zero none = refl
  none_alike c taken (suc n) none =
      let below : unlike_below (is_plain_class table c) (conflicts_at table c) n ≡ true = none_alike c taken n (λ l less least. none l
      (omega arith) least) in
      let here : are_alike table n c ≡ false = false_from_ne_true (are_alike table n c) (λ alike.
      (let same = alike_same n c alike in
      let row : is_free table n ≡ false = ap (λ cs. pointwise nat_eq cs []) same.1 ∙ taken in
      let unlike : unlike_below (is_plain_class table n) (conflicts_at table n) n ≡ true =
      ap (λ b. unlike_below b (conflicts_at table n) n) same.0 ∙ ap (λ cs. unlike_below (is_plain_class table c) cs n) same.1 ∙ below in
      let least : is_least table n ≡ true = and_from (not (is_free table n)) (unlike_below (is_plain_class table n) (conflicts_at table n) n)
      (not_from_false (is_free table n) row) unlike in
      both_ways (are_alike table n c) (none n (omega arith) least) alike)) in
      ap (list_all (λ d. not (are_alike table d c))) (below_push n)
      ∙ list_all-append (λ d. not (are_alike table d c)) (range_with_len 0 n) (n ∷ [])
      ∙ and_from (unlike_below (is_plain_class table c) (conflicts_at table c) n) (not (are_alike table n c) && true) below
      (and_from (not (are_alike table n c)) true (not_from_false (are_alike table n c) here) refl)

  -- the leaders below n
  abbrev pub leaders_below : ℕ → List ℕ
  leaders_below n = filter (is_least table) (range_with_len 0 n)

  -- the place of the leader that is like a class, among those below n
  abbrev pub leader_place : ℕ → ℕ → Option ℕ
  leader_place n c = position (λ l. are_alike table l c) (leaders_below n)

  no_leader : (n c l : ℕ) → leader_place n c ≡ None → l < n → is_least table l ≡ true → are_alike table l c ≡ false
  no_leader n c l none below least =
      let (k, within, at) = filter_has (is_least table) n l below least in
      subst (λ m. are_alike table m c ≡ false) at (none_passes (λ l. are_alike table l c) (leaders_below n) k l none within)

  -- a class that no leader is like is one
  pub fresh_least : (c : ℕ) → is_free table c ≡ false → leader_place c c ≡ None → is_least table c ≡ true
  fresh_least c taken none =
      and_from (not (is_free table c)) (unlike_below (is_plain_class table c) (conflicts_at table c) c) (not_from_false (is_free table c) taken)
      (none_alike c taken c (λ l below least. no_leader c c l none below least))

  pub below_yes : (n : ℕ) → is_least table n ≡ true → leaders_below (suc n) ≡ leaders_below n ++ n ∷ []
  below_yes n least = filter_yes (is_least table) n least

  pub below_no : (n : ℕ) → is_least table n ≡ false → leaders_below (suc n) ≡ leaders_below n
  below_no n not_least = filter_no (is_least table) n not_least

  -- a place among the leaders below n is one among all
  pub place_kept : (n c i : ℕ) → n ≤ class_count table → leader_place n c ≡ Some i → position (λ l. are_alike table l c) (leaders table) ≡ Some i
  place_kept n c i few found =
      let more : ℕ = class_count table - n in
      let all : class_count table ≡ n + more = omega arith in
      let split : leaders table ≡ leaders_below n ++ filter (is_least table) (range_with_len (0 + n) more) =
      ap leaders_below all ∙ ap (filter (is_least table)) (range_split 0 n more)
      ∙ filter-append (is_least table) (range_with_len 0 n) (range_with_len (0 + n) more) in
      ap (position (λ l. are_alike table l c)) split
      ∙ position_kept (λ l. are_alike table l c) (leaders_below n) (filter (is_least table) (range_with_len (0 + n) more)) i c found

  -- ---- the merged class of a class

  pub name_free : (c : ℕ) → is_free table c ≡ true → merged_class table c ≡ None
  name_free c free = cond-true (is_free table c) None (position (λ l. are_alike table l c) (leaders table)) free

  pub name_known : (n c i : ℕ) → n ≤ class_count table → is_free table c ≡ false → leader_place n c ≡ Some i → merged_class table c ≡ Some i
  name_known n c i few taken found =
      cond-false (is_free table c) None (position (λ l. are_alike table l c) (leaders table)) taken ∙ place_kept n c i few found

  -- a class that isn't like a leader below it has the next place
  pub fresh_place : (c : ℕ) → is_free table c ≡ false → leader_place c c ≡ None → leader_place (suc c) c ≡ Some (length (leaders_below c))
  fresh_place c taken none =
      let count = length (leaders_below c) in
      let last : get_or (leaders_below c ++ c ∷ []) count c ≡ c = get_or_push (leaders_below c) c c count refl in
      ap (position (λ l. are_alike table l c)) (below_yes c (fresh_least c taken none))
      ∙ position_is (λ l. are_alike table l c) (leaders_below c ++ c ∷ []) count c (omega (arith, length-append (leaders_below c) (c ∷ [])))
      (ap (λ l. are_alike table l c) last ∙ alike_itself c)
      (λ k below. ap (λ l. are_alike table l c) (get_or_append_left (leaders_below c) (c ∷ []) c k below)
      ∙ none_passes (λ l. are_alike table l c) (leaders_below c) k c none below)

  pub name_fresh : (c : ℕ) → c < class_count table → is_free table c ≡ false → leader_place c c ≡ None
      → merged_class table c ≡ Some (length (leaders_below c))
  name_fresh c within taken none = name_known (suc c) c (length (leaders_below c)) (omega arith) taken (fresh_place c taken none)

  -- a class that is like a leader below it is none
  pub known_not_least : (c i : ℕ) → leader_place c c ≡ Some i → is_least table c ≡ false
  known_not_least c i found =
      let (within, alike, before) = position-Some (λ l. are_alike table l c) (leaders_below c) i c found in
      let l = get_or (leaders_below c) i c in
      let less : l < c = All-get_or (λ k. k < c) (leaders_below c) i c within (filter_below (is_least table) c) in
      false_from_ne_true (is_least table c) (λ least.
      (let all = (and_parts (not (is_free table c)) (list_all (λ d. not (are_alike table d c)) (range_with_len 0 c)) least).1 in
      let unlike = AllPass-from_list_all (λ d. not (are_alike table d c)) (range_with_len 0 c) all in
      both_ways (are_alike table l c) (not-true (are_alike table l c) (subst (λ d. not (are_alike table d c) ≡ true)
      (get_or-range_with_len 0 c l l less ∙ (let e : 0 + l ≡ l = omega arith in
      e)) (unlike l l (omega (arith, length-range_with_len 0 c))))) alike))

  pub free_not_least : (c : ℕ) → is_free table c ≡ true → is_least table c ≡ false
  free_not_least c free = ap (λ b. not b && list_all (λ d. not (are_alike table d c)) (range_with_len 0 c)) free
