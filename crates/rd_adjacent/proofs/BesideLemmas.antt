-- Two places side by side: the order is linear.
use Rattle.std.proofs.Common.{◌≡◌, ◌≢◌, ◌<◌, ◌≤◌, ◌+◌, ◌⊎◌, ◌==◌, ◌++◌, ◌||◌, ◌&&◌, ℕ, zero, suc, Bool, true, false, not, cond, List, [], ◌∷◌, length, Some, slice_get, arith, inl, inr, refl, sym, ◌∙◌, ap, subst, true≢false, length-append}
use Rattle.std.specs.List.{filter, range_with_len}
use Rattle.std.proofs.lemmas.Bool.{cases_Bool, cases_eq, eq-eqb, ne_eqb}
use Rattle.std.proofs.lemmas.Bool.Decides.{Decides-or}
use Rattle.std.proofs.lemmas.List.{append_assoc}
use Rattle.rd_event.specs.declared.events.Event.{Event}
use Rattle.rd_order.specs.Order.{Reaches}
use Rattle.rd_order.specs.OrderTests.{reaches}
use Rattle.rd_order.proofs.OrderLemmas.{reaches_decides, reaches_joined, reaches_rises, reaches_within_length}
use Rattle.rd_linear.specs.Linear.{Placed, Stands}
use Rattle.rd_linear.specs.Orders.{IsLinear}
use Rattle.rd_linear.proofs.LinearLemmas.{stands_last, stands_more, stands_still}
use Rattle.rd_linear.proofs.OrderLemmas.{range_length}
use Rattle.rd_linear.proofs.Placing.{placed_all, placed_more, placed_none}
use Rattle.rd_adjacent.specs.Beside.{beside, is_other, places_before, places_behind, reaches_either}
use Rattle.rd_adjacent.proofs.RangeLemmas.{one_here, shared_out, weight}

append_none : (xs : List ℕ) → xs ++ [] ≡ xs
append_none [] = refl
append_none (x ∷ xs) = ap (λ l. x ∷ l) (append_none xs)

-- the places from a on that pass a test are put behind others, where each of them is ready once those before it that pass stand
module _ (es : List Event) (T : ℕ → Bool) (B : ℕ → Type 0)
    (ready : (qs : List ℕ) (k : ℕ) → ((p : ℕ) → p < k → T p ≡ true → Stands qs p) → ((p : ℕ) → B p → Stands qs p) → T k ≡ true → k < length es
    → (p : ℕ) → Reaches es p k → Stands qs p) where
  fill : (a n : ℕ) (qs : List ℕ) → a + n ≡ length es → Placed es qs → ((p : ℕ) → p < a → T p ≡ true → Stands qs p) → ((p : ℕ) → B p → Stands qs p)
      → ((k : ℕ) → a ≤ k → T k ≡ true → ¬ (Stands qs k)) → Placed es (qs ++ filter T (range_with_len a n))
  fill a zero qs count placed done base fresh = subst (Placed es) (sym (append_none qs)) placed
  fill a (suc n) qs count placed done base fresh = elim (cases_Bool (T a)) [
    | inl is ↦ (let more = placed_more es qs a placed (omega (arith, count)) (fresh a (omega arith) is) (ready qs a done base is (omega (arith, count))) in
        let rest = fill (a + 1) n (qs ++ a ∷ []) (omega (arith, count)) more
        (λ p below passes. elim (cases_eq p a) [
          | inl same ↦ subst (Stands (qs ++ a ∷ [])) (sym same) (stands_last qs a)
          | inr apart ↦ stands_still qs p a (done p (omega arith) passes)
        ])
        (λ p b. stands_still qs p a (base p b))
        (λ k least passes stands. elim (stands_more qs k a stands) [ inl before ↦ fresh k (omega arith) passes before | inr same ↦ omega (arith, least, same) ]) in
        subst (Placed es) (append_assoc qs (a ∷ []) (filter T (range_with_len (a + 1) n)) ∙ ap (λ b. qs ++ cond b (a ∷ filter T (range_with_len (a + 1) n)) (filter T (range_with_len (a + 1) n))) (sym is)) rest)
    | inr isnt ↦ (let rest = fill (a + 1) n qs (omega (arith, count)) placed
        (λ p below passes. elim (cases_eq p a) [
          | inl same ↦ absurd (true≢false (sym passes ∙ ap T same ∙ isnt))
          | inr apart ↦ done p (omega arith) passes
        ])
        base (λ k least passes. fresh k (omega arith) passes) in
        subst (Placed es) (ap (λ b. qs ++ cond b (a ∷ filter T (range_with_len (a + 1) n)) (filter T (range_with_len (a + 1) n))) (sym isnt)) rest)
  ]

-- what passes a test stands among those that do
passes_stands : (T : ℕ → Bool) (a n p : ℕ) → a ≤ p → p < a + n → T p ≡ true → Stands (filter T (range_with_len a n)) p
passes_stands T a zero p least below is = absurd (omega arith)
passes_stands T a (suc n) p least below is = elim (cases_eq a p) [
  | inl same ↦ subst (λ b. Stands (cond b (a ∷ filter T (range_with_len (a + 1) n)) (filter T (range_with_len (a + 1) n))) p) (sym (ap T same ∙ is)) (0, ap Some same)
  | inr apart ↦ behind (T a) (passes_stands T (a + 1) n p (omega arith) (omega arith) is)
]
  where
    behind : (b : Bool) → Stands (filter T (range_with_len (a + 1) n)) p → Stands (cond b (a ∷ filter T (range_with_len (a + 1) n)) (filter T (range_with_len (a + 1) n))) p
    behind true stands = (suc stands.0, stands.1)
    behind false stands = stands

stands_passes : (T : ℕ → Bool) (a n p : ℕ) → Stands (filter T (range_with_len a n)) p → T p ≡ true
stands_passes T a zero p (k, at) = cc
stands_passes T a (suc n) p stands = elim (cases_Bool (T a)) [
  | inl is ↦ here (λ s. stands_passes T (a + 1) n p s) is (subst (λ b. Stands (cond b (a ∷ filter T (range_with_len (a + 1) n)) (filter T (range_with_len (a + 1) n))) p) is stands)
  | inr isnt ↦ stands_passes T (a + 1) n p (subst (λ b. Stands (cond b (a ∷ filter T (range_with_len (a + 1) n)) (filter T (range_with_len (a + 1) n))) p) isnt stands)
]
  where
    here : (Stands (filter T (range_with_len (a + 1) n)) p → T p ≡ true) → T a ≡ true → Stands (a ∷ filter T (range_with_len (a + 1) n)) p → T p ≡ true
    here rest is (zero, at) = (let same : a ≡ p = cc in sym (ap T same) ∙ is)
    here rest is (suc k, at) = rest (k, at)

module _ (es : List Event) (i j : ℕ) (below : i < j) (inside : j < length es) (loose : ¬ (Reaches es i j)) where
  E : ℕ → Bool
  E = reaches_either es i j

  O : ℕ → Bool
  O = is_other es i j

  either_reaches : (k : ℕ) → reaches_either es i j k ≡ true → Reaches es k i ⊎ Reaches es k j
  either_reaches k is = (Decides-or (reaches es k i) (reaches es k j) (reaches_decides es k i) (reaches_decides es k j)).0 is

  reaches_is : (k : ℕ) → Reaches es k i ⊎ Reaches es k j → reaches_either es i j k ≡ true
  reaches_is k r = (Decides-or (reaches es k i) (reaches es k j) (reaches_decides es k i) (reaches_decides es k j)).1 r

  closed : (p k : ℕ) → Reaches es p k → reaches_either es i j k ≡ true → reaches_either es i j p ≡ true
  closed p k r is = reaches_is p (elim (either_reaches k is) [ inl to_i ↦ inl (reaches_joined es p k i r to_i) | inr to_j ↦ inr (reaches_joined es p k j r to_j) ])

  i_no : reaches_either es i j i ≡ true → ⊥
  i_no is = elim (either_reaches i is) [ inl r ↦ omega (arith, reaches_rises es i i r) | inr r ↦ loose r ]

  j_no : reaches_either es i j j ≡ true → ⊥
  j_no is = elim (either_reaches j is) [ inl r ↦ omega (arith, reaches_rises es j i r, below) | inr r ↦ omega (arith, reaches_rises es j j r) ]

  abbrev first : List ℕ
  first = places_before es i j (length es)

  first_placed : Placed es first
  first_placed = fill es (reaches_either es i j) (λ p. ⊥)
      (λ qs k done base is within p r. done p (reaches_rises es p k r) (closed p k r is))
      0 (length es) [] (omega arith) (placed_none es) (λ p l. absurd (omega arith)) (λ p none. absurd none) (λ k l is stands. absurd (none_stands k stands))
    where
      none_stands : (k : ℕ) → Stands [] k → ⊥
      none_stands k (n, at) = cc

  first_has : (p : ℕ) → p < length es → reaches_either es i j p ≡ true → Stands first p
  first_has p within is = passes_stands (reaches_either es i j) 0 (length es) p (omega arith) (omega arith) is

  first_only : (p : ℕ) → Stands first p → reaches_either es i j p ≡ true
  first_only p stands = stands_passes (reaches_either es i j) 0 (length es) p stands

  abbrev second : List ℕ
  second = first ++ i ∷ []

  second_placed : Placed es second
  second_placed = placed_more es first i first_placed (omega (arith, below, inside)) (λ stands. i_no (first_only i stands))
      (λ p r. first_has p (omega (arith, reaches_rises es p i r, below, inside)) (reaches_is p (inl r)))

  abbrev third : List ℕ
  third = second ++ j ∷ []

  third_placed : Placed es third
  third_placed = placed_more es second j second_placed inside
      (λ stands. elim (stands_more first j i stands) [ inl before ↦ j_no (first_only j before) | inr same ↦ omega (arith, same, below) ])
      (λ p r. stands_still first p i (first_has p (omega (arith, reaches_rises es p j r, inside)) (reaches_is p (inr r))))

  third_has : (p : ℕ) → (Stands first p ⊎ (p ≡ i)) ⊎ (p ≡ j) → Stands third p
  third_has p (inl (inl stands)) = stands_still second p j (stands_still first p i stands)
  third_has p (inl (inr same)) = subst (Stands third) (sym same) (stands_still second i j (stands_last first i))
  third_has p (inr same) = subst (Stands third) (sym same) (stands_last second j)

  third_only : (p : ℕ) → Stands third p → (Stands first p ⊎ (p ≡ i)) ⊎ (p ≡ j)
  third_only p stands = elim (stands_more second p j stands) [
    | inl before ↦ inl (stands_more first p i before)
    | inr same ↦ inr same
  ]

  -- a place is one of four sorts
  other_is : (p : ℕ) → reaches_either es i j p ≡ false → p ≢ i → p ≢ j → is_other es i j p ≡ true
  other_is p isnt not_i not_j =
      ap (λ b. not b && (not (p == i) && not (p == j))) isnt ∙ ap (λ b. not b && not (p == j)) (ne_eqb p i not_i) ∙ ap not (ne_eqb p j not_j)

  not_other : (p : ℕ) → is_other es i j p ≡ true → (reaches_either es i j p ≡ false) × (p ≢ i) × (p ≢ j)
  not_other p is = (no_first, no_i, no_j)
    where
      parts : (a b c : Bool) → (not a && (not b && not c)) ≡ true → (a ≡ false) × (b ≡ false) × (c ≡ false)
      parts false false false e = (refl, refl, refl)
      parts true b c e = absurd (true≢false (sym e))
      parts false true c e = absurd (true≢false (sym e))
      parts false false true e = absurd (true≢false (sym e))

      all : (reaches_either es i j p ≡ false) × ((p == i) ≡ false) × ((p == j) ≡ false)
      all = parts (reaches_either es i j p) (p == i) (p == j) is

      no_first : reaches_either es i j p ≡ false
      no_first = all.0

      no_i : p ≢ i
      no_i same = true≢false (sym (eq-eqb p i same) ∙ all.1)

      no_j : p ≢ j
      no_j same = true≢false (sym (eq-eqb p j same) ∙ all.2)

  stands_in : (qs : List ℕ) (p : ℕ) → p < length es → ((q : ℕ) → Stands third q → Stands qs q) → (is_other es i j p ≡ true → Stands qs p) → Stands qs p
  stands_in qs p within base others = elim (cases_Bool (reaches_either es i j p)) [
    | inl is ↦ base p (third_has p (inl (inl (first_has p within is))))
    | inr isnt ↦ elim (cases_eq p i) [
      | inl same ↦ base p (third_has p (inl (inr same)))
      | inr not_i ↦ elim (cases_eq p j) [
        | inl same ↦ base p (third_has p (inr same))
        | inr not_j ↦ others (other_is p isnt not_i not_j)
      ]
    ]
  ]

  all_placed : Placed es (third ++ places_behind es i j (length es))
  all_placed = fill es (is_other es i j) (Stands third)
      (λ qs k done base is within p r. (let up = reaches_rises es p k r in stands_in qs p (omega (arith, up, within)) base (λ other. done p up other)))
      0 (length es) third (omega arith) third_placed (λ p l. absurd (omega arith)) (λ p stands. stands)
      (λ k l is stands. (let isnt = not_other k is in elim (third_only k stands) [
        | inl x ↦ elim x [ inl before ↦ true≢false (sym (first_only k before) ∙ isnt.0) | inr same ↦ isnt.1 same ]
        | inr same ↦ isnt.2 same
      ]))

  one_of_four : (p : ℕ) → weight (reaches_either es i j p) + weight (p == i) + weight (p == j) + weight (is_other es i j p) ≡ 1
  one_of_four p = elim (cases_Bool (reaches_either es i j p)) [
    | inl is ↦ by true (p == i) (p == j) is (λ same. i_no (subst (λ q. reaches_either es i j q ≡ true) same is)) (λ same. j_no (subst (λ q. reaches_either es i j q ≡ true) same is))
    | inr isnt ↦ by_false isnt
  ]
    where
      by : (a b c : Bool) → reaches_either es i j p ≡ a → ¬ (p ≡ i) → ¬ (p ≡ j) → weight (reaches_either es i j p) + weight (p == i) + weight (p == j) + weight (is_other es i j p) ≡ 1
      by a b c is not_i not_j = elim (cases_Bool (reaches_either es i j p)) [
        | inl is_so ↦ omega (arith, ap weight is_so, ap weight (ne_eqb p i not_i), ap weight (ne_eqb p j not_j), ap (λ d. weight (not d && (not (p == i) && not (p == j)))) is_so)
        | inr isnt ↦ omega (arith, ap weight isnt, ap weight (ne_eqb p i not_i), ap weight (ne_eqb p j not_j), ap weight (other_is p isnt not_i not_j))
      ]

      not_i_j : p ≡ i → p ≢ j
      not_i_j same other = omega (arith, below, same, other)

      other_at : (b : Bool) → reaches_either es i j p ≡ false → (p == i) ≡ true → weight (is_other es i j p) ≡ 0
      other_at b isnt same = ap (λ d. weight (not d && (not (p == i) && not (p == j)))) isnt ∙ ap (λ d. weight (not d && not (p == j))) same

      other_at_j : reaches_either es i j p ≡ false → (p == i) ≡ false → (p == j) ≡ true → weight (is_other es i j p) ≡ 0
      other_at_j isnt apart same = ap (λ d. weight (not d && (not (p == i) && not (p == j)))) isnt ∙ ap (λ d. weight (not d && not (p == j))) apart ∙ ap (λ d. weight (not d)) same

      by_false : reaches_either es i j p ≡ false → weight (reaches_either es i j p) + weight (p == i) + weight (p == j) + weight (is_other es i j p) ≡ 1
      by_false isnt = elim (cases_eq p i) [
        | inl same ↦ omega (arith, ap weight isnt, ap weight (eq-eqb p i same), ap weight (ne_eqb p j (not_i_j same)), other_at true isnt (eq-eqb p i same))
        | inr not_i ↦ elim (cases_eq p j) [
          | inl same ↦ omega (arith, ap weight isnt, ap weight (ne_eqb p i not_i), ap weight (eq-eqb p j same), other_at_j isnt (ne_eqb p i not_i) (eq-eqb p j same))
          | inr not_j ↦ omega (arith, ap weight isnt, ap weight (ne_eqb p i not_i), ap weight (ne_eqb p j not_j), ap weight (other_is p isnt not_i not_j))
        ]
      ]

  whole : length (third ++ places_behind es i j (length es)) ≡ length es
  whole =
      omega (
        arith,
        length-append third (places_behind es i j (length es)),
        length-append second (j ∷ []),
        length-append first (i ∷ []),
        shared_out (reaches_either es i j) (λ k. k == i) (λ k. k == j) (is_other es i j) (range_with_len 0 (length es)) one_of_four,
        one_here i 0 (length es) (omega arith) (omega (arith, below, inside)),
        one_here j 0 (length es) (omega arith) (omega (arith, inside)),
        range_length 0 (length es),
      )

  as_beside : third ++ places_behind es i j (length es) ≡ beside es i j
  unfolding beside
  as_beside = append_assoc second (j ∷ []) (places_behind es i j (length es)) ∙ append_assoc first (i ∷ []) (j ∷ places_behind es i j (length es))

  pub beside_linear : IsLinear es (beside es i j)
  beside_linear = subst (IsLinear es) as_beside (placed_all es (third ++ places_behind es i j (length es)) all_placed whole)
