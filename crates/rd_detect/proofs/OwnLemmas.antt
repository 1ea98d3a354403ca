-- The classes that conflict with a point's: its own beside the others.
use Rattle.std.proofs.Common.{◌≡◌, ◌⊎◌, inl, inr, ℕ, ◌+◌, ◌*◌, ◌<◌, ◌≤◌, true, false, not, List, [], ◌∷◌, ◌++◌, length, Option, Some, None, refl, sym, ap, subst, ◌∙◌, arith, true≢false, drop, take}
use Rattle.std.specs.List.{list_any}
use Rattle.std.specs.Prelude.{◌==◌, ◌||◌, Contains, map, slice_index_or}
use Rattle.std.proofs.lemmas.Bool.{cases_Bool, cond-false, cond-true, eq-eqb, eqb-true, ne_eqb}
use Rattle.std.proofs.lemmas.List.Elements.{Contains-append_cases, Contains-append_left, Contains-append_right, Contains-push, Contains-push_cases, filter-append, filter_more}
use Rattle.std.proofs.lemmas.List.{append-nil, length-append, take-append-drop}
use Rattle.rd_points.specs.declared.points.Point.{Point}
use Rattle.rd_store.specs.Stores.{PointCells}
use Rattle.rd_store.specs.declared.Witness.{Witness}
use Rattle.rd_detect.specs.Detect.{IsLatestOf, IsUncovered, in_class}
use Rattle.rd_detect.specs.Seats.{other_classes}
use Rattle.rd_detect.proofs.AskingLemmas.{cost_more, cost_within}

-- ---- one class in front

module _ (own : ℕ) where
  skipped : (class : ℕ) (rest : List ℕ) → (class == own) ≡ true → other_classes own (class ∷ rest) ≡ other_classes own rest
  skipped class rest is = cond-false (not (class == own)) (class ∷ other_classes own rest) (other_classes own rest) (ap not is)

  kept : (class : ℕ) (rest : List ℕ) → (class == own) ≡ false → other_classes own (class ∷ rest) ≡ class ∷ other_classes own rest
  kept class rest is = cond-true (not (class == own)) (class ∷ other_classes own rest) (other_classes own rest) (ap not is)

  -- no more are left
  pub fewer : (classes : List ℕ) → length (other_classes own classes) ≤ length classes
  fewer [] = omega arith
  fewer (class ∷ rest) = elim (cases_Bool (class == own)) [
    | inl is ↦ omega (arith, ap length (skipped class rest is), fewer rest)
    | inr is ↦ omega (arith, ap length (kept class rest is), fewer rest)
  ]

  -- fewer are, where it is one of them
  pub less : (classes : List ℕ) → list_any (λ class. class == own) classes ≡ true → length (other_classes own classes) + 1 ≤ length classes
  less [] none = absurd (true≢false (sym none))
  less (class ∷ rest) any = elim (cases_Bool (class == own)) [
    | inl is ↦ omega (arith, ap length (skipped class rest is), fewer rest)
    | inr is ↦ omega (arith, ap length (kept class rest is), less rest (sym (ap (λ b. b || list_any (λ class. class == own) rest) is) ∙ any))
  ]

  -- all are, where it isn't
  pub all_others : (classes : List ℕ) → list_any (λ class. class == own) classes ≡ false → other_classes own classes ≡ classes
  all_others [] none = refl
  all_others (class ∷ rest) none = elim (cases_Bool (class == own)) [
    | inl is ↦ absurd (true≢false (sym (ap (λ b. b || list_any (λ class. class == own) rest) is) ∙ none))
    | inr is ↦ kept class rest is ∙ ap (λ list. class ∷ list) (all_others rest (sym (ap (λ b. b || list_any (λ class. class == own) rest) is) ∙ none))
  ]

  -- those in front are no more than all
  pub others_front : (classes : List ℕ) (i : ℕ) → length (other_classes own (take i classes)) ≤ length (other_classes own classes)
  others_front classes i =
      let parts : length (other_classes own classes) ≡ length (other_classes own (take i classes)) + length (other_classes own (drop i classes))
      = ap (λ list. length (other_classes own list)) (sym (take-append-drop i classes)) ∙ ap length (filter-append (λ class. not (class == own)) (take i classes) (drop i classes))
      ∙ length-append (other_classes own (take i classes)) (other_classes own (drop i classes)) in
      omega (arith, parts)

  -- one class more
  pub next_own : (classes : List ℕ) (i : ℕ) → i < length classes → slice_index_or classes i 0 ≡ own → other_classes own (take (i + 1) classes) ≡ other_classes own (take i classes)
  next_own classes i inside is =
      filter_more (λ class. not (class == own)) classes i 0 inside
      ∙ ap (λ list. other_classes own (take i classes) ++ list)
      (cond-false (not (slice_index_or classes i 0 == own)) (slice_index_or classes i 0 ∷ []) [] (ap not (eq-eqb (slice_index_or classes i 0) own is)))
      ∙ append-nil (other_classes own (take i classes))

  pub next_other : (classes : List ℕ) (i : ℕ) → i < length classes → ¬ (slice_index_or classes i 0 ≡ own)
      → other_classes own (take (i + 1) classes) ≡ other_classes own (take i classes) ++ slice_index_or classes i 0 ∷ []
  next_other classes i inside is =
      filter_more (λ class. not (class == own)) classes i 0 inside
      ∙ ap (λ list. other_classes own (take i classes) ++ list)
      (cond-true (not (slice_index_or classes i 0 == own)) (slice_index_or classes i 0 ∷ []) [] (ap not (ne_eqb (slice_index_or classes i 0) own is)))

-- ---- as points

only : {X : Type 0} (x y : X) → Contains (x ∷ []) y → x ≡ y
only x y has = elim (Contains-push_cases [] x y has) [ inl none ↦ absurd (omega (arith, none.1)) | inr is ↦ is ]

front : {X : Type 0} (x : X) (xs : List X) → Contains (x ∷ xs) x
front x xs = Contains-append_left (x ∷ []) xs x (Contains-push [] x)

module _ (own : ℕ) (point : Point) where
  abbrev at : List ℕ → List Point
  at classes = map (in_class point) classes

  pub other_or_own : (classes : List ℕ) (p : Point) → Contains (at classes) p → Contains (at (other_classes own classes)) p ⊎ (p ≡ in_class point own)
  other_or_own [] p has = absurd (omega (arith, has.1))
  other_or_own (class ∷ rest) p has = elim (Contains-append_cases (in_class point class ∷ []) (at rest) p has) [
    | inl first ↦ elim (cases_Bool (class == own)) [
      | inl is ↦ inr (sym (only (in_class point class) p first) ∙ ap (in_class point) (eqb-true class own is))
      | inr is ↦ inl (subst (λ list. Contains (at list) p) (sym (kept own class rest is)) (Contains-append_left (in_class point class ∷ []) (at (other_classes own rest)) p first))
    ]
    | inr behind ↦ elim (other_or_own rest p behind) [
      | inl other ↦ inl (elim (cases_Bool (class == own)) [
        | inl is ↦ subst (λ list. Contains (at list) p) (sym (skipped own class rest is)) other
        | inr is ↦ subst (λ list. Contains (at list) p) (sym (kept own class rest is)) (Contains-append_right (in_class point class ∷ []) (at (other_classes own rest)) p other)
      ])
      | inr is ↦ inr is
    ]
  ]

  pub of_others : (classes : List ℕ) (p : Point) → Contains (at (other_classes own classes)) p → Contains (at classes) p
  of_others [] p has = absurd (omega (arith, has.1))
  of_others (class ∷ rest) p has = elim (cases_Bool (class == own)) [
    | inl is ↦ Contains-append_right (in_class point class ∷ []) (at rest) p (of_others rest p (subst (λ list. Contains (at list) p) (skipped own class rest is) has))
    | inr is ↦ elim (Contains-append_cases (in_class point class ∷ []) (at (other_classes own rest)) p (subst (λ list. Contains (at list) p) (kept own class rest is) has)) [
      | inl first ↦ Contains-append_left (in_class point class ∷ []) (at rest) p first
      | inr behind ↦ Contains-append_right (in_class point class ∷ []) (at rest) p (of_others rest p behind)
    ]
  ]

  pub own_among : (classes : List ℕ) → list_any (λ class. class == own) classes ≡ true → Contains (at classes) (in_class point own)
  own_among [] none = absurd (true≢false (sym none))
  own_among (class ∷ rest) any = elim (cases_Bool (class == own)) [
    | inl is ↦ subst (Contains (at (class ∷ rest))) (ap (in_class point) (eqb-true class own is)) (front (in_class point class) (at rest))
    | inr is ↦ Contains-append_right (in_class point class ∷ []) (at rest) (in_class point own)
        (own_among rest (sym (ap (λ b. b || list_any (λ class. class == own) rest) is) ∙ any))
  ]

-- ---- the latest goes by which points there are

module _ (store : List PointCells) (clock : List ℕ) (ps qs : List Point) (within : (p : Point) → Contains ps p → Contains qs p) (back : (p : Point) → Contains qs p → Contains ps p) where
  moved : (xs ys : List Point) → ((p : Point) → Contains xs p → Contains ys p) → (seen : Witness) → IsUncovered store xs clock seen → IsUncovered store ys clock seen
  moved xs ys all seen found = record { point = found.point; among = all found.point found.among; thread = found.thread; cell = found.cell; uncovered = found.uncovered }

  pub latest_among : (latest : Option Witness) → IsLatestOf store ps clock latest → IsLatestOf store qs clock latest
  latest_among None none = λ seen found. none seen (moved qs ps back seen found)
  latest_among (Some latest) is = (moved ps qs within latest is.0, λ seen found. is.1 seen (moved qs ps back seen found))

-- with the own class behind the others, they are all
pub latest_with_own : (store : List PointCells) (clock : List ℕ) (points : List Point) (point : Point) (own : ℕ) (classes : List ℕ) (latest : Option Witness)
    → list_any (λ class. class == own) classes ≡ true → point.class ≡ own
    → IsLatestOf store ((points ++ map (in_class point) (other_classes own classes)) ++ point ∷ []) clock latest
    → IsLatestOf store (points ++ map (in_class point) classes) clock latest
latest_with_own store clock points point own classes latest any is = latest_among store clock _ _
    (λ p has. elim (Contains-push_cases (points ++ map (in_class point) (other_classes own classes)) point p has) [
      | inl before ↦ elim (Contains-append_cases points (map (in_class point) (other_classes own classes)) p before) [
        | inl first ↦ Contains-append_left points (map (in_class point) classes) p first
        | inr other ↦ Contains-append_right points (map (in_class point) classes) p (of_others own point classes p other)
      ]
      | inr last ↦ Contains-append_right points (map (in_class point) classes) p
          (subst (Contains (map (in_class point) classes)) (ap (in_class point) (sym is) ∙ last) (own_among own point classes any))
    ])
    (λ p has. elim (Contains-append_cases points (map (in_class point) classes) p has) [
      | inl first ↦ Contains-append_left (points ++ map (in_class point) (other_classes own classes)) (point ∷ []) p
          (Contains-append_left points (map (in_class point) (other_classes own classes)) p first)
      | inr one ↦ elim (other_or_own own point classes p one) [
        | inl other ↦ Contains-append_left (points ++ map (in_class point) (other_classes own classes)) (point ∷ []) p
            (Contains-append_right points (map (in_class point) (other_classes own classes)) p other)
        | inr same ↦ subst (Contains ((points ++ map (in_class point) (other_classes own classes)) ++ point ∷ [])) (ap (in_class point) is ∙ sym same)
            (Contains-push (points ++ map (in_class point) (other_classes own classes)) point)
      ]
    ])
    latest

-- ---- steps

-- the own class is asked last
pub own_cost : (before start after cells threads own : ℕ) (classes : List ℕ) → list_any (λ class. class == own) classes ≡ true
    → start ≤ before + length (other_classes own classes) * (threads + 1) → after ≡ (start + 1) + cells → cells ≤ threads → after ≤ before + length classes * (threads + 1)
own_cost before start after cells threads own classes any below is few =
    cost_within before after (length classes) (threads + 1) (length (other_classes own classes) + 1) (less own classes any)
    (cost_more before start after cells threads (length (other_classes own classes)) below is few)
