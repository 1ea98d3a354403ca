-- The pairs of a reduced formula: they rise, and their slots are there.
use Rattle.std.proofs.Common.{◌≡◌, ◌<◌, ◌≤◌, ◌==◌, ◌⊎◌, ℕ, Bool, true, false, ◌&&◌, cond, nat_lt, List, [], ◌∷◌, length, refl, sym, ◌∙◌, arith, inl, inr, subst, true≢false, Result, Ok, Err, IfOk}
use Rattle.std.specs.Prelude.{All, IsTrue}
use Rattle.std.specs.List.{list_all}
use Rattle.std.proofs.lemmas.Bool.{and_parts, and_from, or_cases, or_left, or_right, eqb-true, eq-eqb, ltb-true, lt-ltb, cases_eq, cases_lt}
use Rattle.std.proofs.lemmas.List.Kept.{AllPairs-cons}
use Rattle.std.proofs.lemmas.List.Sums.{AllPass-from_list_all}
use Rattle.rd_ecl.specs.declared.formulas.Side.TheVariants.{First, Second}
use Rattle.rd_ecl.specs.declared.formulas.Predicate.{Predicate}
use Rattle.rd_ecl.specs.Formulas.{Tree, truth, atom, cross, mixed, negation, both, either, Fits}
use Rattle.rd_ecl.specs.declared.reduction.Reduced.{Reduced}
use Rattle.rd_ecl.specs.declared.reduction.Reduced.TheVariants.{True, False, Pairs}
use Rattle.rd_ecl.specs.SlotPairs.{IsRising, insert_pair, is_before, same_pair, union_pairs}
use Rattle.rd_ecl.specs.Reduction.{AreRising, constant, flipped, of_both, of_either, predicate_of, reduce_of, truth_in}
use Rattle.rd_ecl.proofs.ReductionLemmas.{all_insert, all_union}

-- ---- the order of pairs

abbrev Before : ℕ × ℕ → ℕ × ℕ → Type 0
Before x y = (x.0 < y.0) ⊎ ((x.0 ≡ y.0) × (x.1 < y.1))

before_from : (x y : ℕ × ℕ) → is_before x y ≡ true → Before x y
before_from x y h = elim (or_cases (nat_lt x.0 y.0) ((x.0 == y.0) && nat_lt x.1 y.1) h) [
  | inl first ↦ inl (ltb-true x.0 y.0 first)
  | inr second ↦ (let k = and_parts (x.0 == y.0) (nat_lt x.1 y.1) second in inr (eqb-true x.0 y.0 k.0, ltb-true x.1 y.1 k.1))
]

before_to : (x y : ℕ × ℕ) → Before x y → is_before x y ≡ true
before_to x y (inl first) = or_left (nat_lt x.0 y.0) _ (lt-ltb x.0 y.0 first)
before_to x y (inr second) = or_right (nat_lt x.0 y.0) _ (and_from (x.0 == y.0) (nat_lt x.1 y.1) (eq-eqb x.0 y.0 second.0) (lt-ltb x.1 y.1 second.1))

then_before : (x y z : ℕ × ℕ) → Before x y → Before y z → Before x z
then_before x y z (inl h) (inl k) = inl (omega (arith, h, k))
then_before x y z (inl h) (inr k) = let e = k.0 in inl (omega (arith, h, e))
then_before x y z (inr h) (inl k) = let e = h.0 in inl (omega (arith, e, k))
then_before x y z (inr h) (inr k) = let (d, l) = h in let (e, r) = k in inr (d ∙ e, omega (arith, l, r))

-- of two pairs that aren't the same the one stands before the other
behind : (x y : ℕ × ℕ) → is_before y x ≡ false → same_pair y x ≡ false → is_before x y ≡ true
behind x y not_before apart = elim (cases_lt x.0 y.0) [
  | inl less ↦ before_to x y (inl less)
  | inr more ↦ elim (cases_eq y.0 x.0) [
    | inr other ↦ absurd (true≢false (sym (before_to y x (inl (omega (arith, more, other)))) ∙ not_before))
    | inl same ↦ elim (cases_lt x.1 y.1) [
      | inl less ↦ before_to x y (inr (sym same, less))
      | inr least ↦ elim (cases_eq y.1 x.1) [
        | inr other ↦ absurd (true≢false (sym (before_to y x (inr (same, omega (arith, least, other)))) ∙ not_before))
        | inl too ↦ absurd (true≢false (sym (and_from (y.0 == x.0) (y.1 == x.1) (eq-eqb y.0 x.0 same) (eq-eqb y.1 x.1 too)) ∙ apart))
      ]
    ]
  ]
]

all_before : (x y : ℕ × ℕ) (ys : List (ℕ × ℕ)) → is_before x y ≡ true → list_all (is_before y) ys ≡ true → list_all (is_before x) ys ≡ true
all_before x y [] h k = refl
all_before x y (z ∷ ys) h k =
    let l = and_parts (is_before y z) (list_all (is_before y) ys) k in
    and_from (is_before x z) (list_all (is_before x) ys) (before_to x z (then_before x y z (before_from x y h) (before_from y z l.0))) (all_before x y ys h l.1)

-- ---- lists of pairs that rise

abbrev rises : List (ℕ × ℕ) → Bool
rises [] = true
rises (x ∷ xs) = list_all (is_before x) xs && rises xs

insert_rises : (x : ℕ × ℕ) (ys : List (ℕ × ℕ)) → rises ys ≡ true → rises (insert_pair x ys) ≡ true
insert_rises x [] h = refl
insert_rises x (y ∷ ys) h = by (is_before y x) (same_pair y x) refl refl (insert_rises x ys)
  where
    by : (b s : Bool) → is_before y x ≡ b → same_pair y x ≡ s → (rises ys ≡ true → rises (insert_pair x ys) ≡ true)
        → rises (cond b (y ∷ insert_pair x ys) (cond s (y ∷ ys) (x ∷ (y ∷ ys)))) ≡ true
    by true s before k rest =
        let l = and_parts (list_all (is_before y) ys) (rises ys) h in
        and_from (list_all (is_before y) (insert_pair x ys)) (rises (insert_pair x ys)) (all_insert (is_before y) x ys ∙ and_from (is_before y x) (list_all (is_before y) ys) before l.0) (rest l.1)
    by false true b same rest = h
    by false false b apart rest =
        let l = and_parts (list_all (is_before y) ys) (rises ys) h in
        let before = behind x y b apart in
        and_from (list_all (is_before x) (y ∷ ys)) (rises (y ∷ ys)) (and_from (is_before x y) (list_all (is_before x) ys) before (all_before x y ys before l.0)) h

insert_some : (x : ℕ × ℕ) (ys : List (ℕ × ℕ)) → 1 ≤ length (insert_pair x ys)
insert_some x [] = omega arith
insert_some x (y ∷ ys) = by (is_before y x) (same_pair y x)
  where
    by : (b s : Bool) → 1 ≤ length (cond b (y ∷ insert_pair x ys) (cond s (y ∷ ys) (x ∷ (y ∷ ys))))
    by true s = omega arith
    by false true = omega arith
    by false false = omega arith

-- there is a pair, and they rise
abbrev Rise : List (ℕ × ℕ) → Type 0
Rise pairs = (1 ≤ length pairs) × (rises pairs ≡ true)

union_rise : (xs ys : List (ℕ × ℕ)) → Rise xs → Rise (union_pairs xs ys)
union_rise xs [] h = h
union_rise xs (y ∷ ys) h = union_rise (insert_pair y xs) ys (insert_some y xs, insert_rises y xs h.1)

rising : (pairs : List (ℕ × ℕ)) → rises pairs ≡ true → IsRising pairs
rising [] h = λ i j d l k. absurd (omega (arith, k))
rising (x ∷ pairs) h =
    let l = and_parts (list_all (is_before x) pairs) (rises pairs) h in
    AllPairs-cons (λ y z. IsTrue (is_before y z)) x pairs (AllPass-from_list_all (is_before x) pairs l.0) (rising pairs l.1)

-- ---- what holds of one pair and of two lists together holds of a reduction

module _ (Q : List (ℕ × ℕ) → Type 0) (together : (xs ys : List (ℕ × ℕ)) → Q xs → Q ys → Q (union_pairs xs ys)) where
  OfPairs : Reduced → Type 0
  OfPairs r = (pairs : List (ℕ × ℕ)) → r ≡ Pairs pairs → Q pairs

  -- of each pair of the formula
  OfEach : Tree → Type 0
  OfEach (truth value) = Unit {0}
  OfEach (atom side rel left right) = Unit {0}
  OfEach (cross first second) = Q ((first, second) ∷ [])
  OfEach (mixed rel turned first second) = Unit {0}
  OfEach (negation f) = OfEach f
  OfEach (both f g) = OfEach f × OfEach g
  OfEach (either f g) = OfEach f × OfEach g

  of_constant : (b : Bool) → OfPairs (constant b)
  unfolding OfPairs
  of_constant true pairs e = absurd (cc)
  of_constant false pairs e = absurd (cc)

  of_flipped : (r : Reduced) → OfPairs r → OfPairs (flipped r)
  unfolding OfPairs
  of_flipped True h pairs e = absurd (cc)
  of_flipped False h pairs e = absurd (cc)
  of_flipped (Pairs more) h pairs e = h pairs e

  of_union : (xs ys : List (ℕ × ℕ)) → OfPairs (Pairs xs) → OfPairs (Pairs ys) → OfPairs (Pairs (union_pairs xs ys))
  unfolding OfPairs
  of_union xs ys h k pairs e =
      let same : union_pairs xs ys ≡ pairs = cc in
      subst Q same (together xs ys (h xs refl) (k ys refl))

  of_two : (r s : Reduced) → OfPairs r → OfPairs s → OfPairs (of_both r s)
  of_two False s h k = of_constant false
  of_two True s h k = k
  of_two (Pairs xs) False h k = of_constant false
  of_two (Pairs xs) True h k = h
  of_two (Pairs xs) (Pairs ys) h k = of_union xs ys h k

  of_one : (r s : Reduced) → OfPairs r → OfPairs s → OfPairs (of_either r s)
  of_one True s h k = of_constant true
  of_one False s h k = k
  of_one (Pairs xs) True h k = of_constant true
  of_one (Pairs xs) False h k = h
  of_one (Pairs xs) (Pairs ys) h k = of_union xs ys h k

  of_single : (x : ℕ × ℕ) → Q (x ∷ []) → OfPairs (Pairs (x ∷ []))
  unfolding OfPairs
  of_single x h pairs e =
      let same : x ∷ [] ≡ pairs = cc in
      subst Q same h

  of_reduced : (f : Tree) (p : List Predicate) (v : ℕ) (q : List Predicate) (w : ℕ) → OfEach f → OfPairs (reduce_of f p v q w)
  unfolding OfEach
  of_reduced (truth value) p v q w h = of_constant value
  of_reduced (atom First rel left right) p v q w h = of_constant (truth_in p v (predicate_of rel left right))
  of_reduced (atom Second rel left right) p v q w h = of_constant (truth_in q w (predicate_of rel left right))
  of_reduced (cross first second) p v q w h = of_single (first, second) h
  of_reduced (mixed rel turned first second) p v q w h = of_constant false
  of_reduced (negation f) p v q w h = of_flipped _ (of_reduced f p v q w h)
  of_reduced (both f g) p v q w h = of_two _ _ (of_reduced f p v q w h.0) (of_reduced g p v q w h.1)
  of_reduced (either f g) p v q w h = of_one _ _ (of_reduced f p v q w h.0) (of_reduced g p v q w h.1)

-- ---- the pairs of a reduction

each_rises : (f : Tree) → OfEach Rise (λ xs ys h k. union_rise xs ys h) f
unfolding OfEach
each_rises (truth value) = tt
each_rises (atom side rel left right) = tt
each_rises (cross first second) = (omega arith, refl)
each_rises (mixed rel turned first second) = tt
each_rises (negation f) = each_rises f
each_rises (both f g) = (each_rises f, each_rises g)
each_rises (either f g) = (each_rises f, each_rises g)

pub reduced_rises : (f : Tree) (p : List Predicate) (v : ℕ) (q : List Predicate) (w : ℕ) → AreRising (reduce_of f p v q w)
unfolding OfPairs
reduced_rises f p v q w pairs e =
    let h = of_reduced Rise (λ xs ys h k. union_rise xs ys h) f p v q w (each_rises f) pairs e in
    (h.0, rising pairs h.1)

pub rises_ok : {E : Type 0} (r : Result Reduced E) (f : Tree) (p : List Predicate) (v : ℕ) (q : List Predicate) (w : ℕ)
    → IfOk r (λ x. x ≡ reduce_of f p v q w) → IfOk r AreRising
rises_ok (Ok x) f p v q w e = subst AreRising (sym e) (reduced_rises f p v q w)
rises_ok (Err e) f p v q w h = tt

abbrev fits_pair : ℕ → ℕ → ℕ × ℕ → Bool
fits_pair m n pair = nat_lt pair.0 m && nat_lt pair.1 n

module _ (m n : ℕ) where
  Fit : List (ℕ × ℕ) → Type 0
  Fit pairs = list_all (fits_pair m n) pairs ≡ true

  union_fit : (xs ys : List (ℕ × ℕ)) → Fit xs → Fit ys → Fit (union_pairs xs ys)
  unfolding Fit
  union_fit xs ys h k = all_union (fits_pair m n) xs ys ∙ and_from (list_all (fits_pair m n) xs) (list_all (fits_pair m n) ys) h k

  each_fits : (f : Tree) → Fits f m n → OfEach Fit union_fit f
  unfolding OfEach Fit
  each_fits (truth value) h = tt
  each_fits (atom side rel left right) h = tt
  each_fits (cross first second) h = and_from _ true (and_from (nat_lt first m) (nat_lt second n) (lt-ltb first m h.0) (lt-ltb second n h.1)) refl
  each_fits (mixed rel turned first second) h = tt
  each_fits (negation f) h = each_fits f h
  each_fits (both f g) h = (each_fits f h.0, each_fits g h.1)
  each_fits (either f g) h = (each_fits f h.0, each_fits g h.1)

  pub reduced_fits : (f : Tree) (p : List Predicate) (v : ℕ) (q : List Predicate) (w : ℕ) (pairs : List (ℕ × ℕ)) → Fits f m n → reduce_of f p v q w ≡ Pairs pairs
      → All (λ pair. (pair.0 < m) × (pair.1 < n)) pairs
  unfolding OfPairs Fit
  reduced_fits f p v q w pairs h e i d l =
      let k = AllPass-from_list_all (fits_pair m n) pairs (of_reduced Fit union_fit f p v q w (each_fits f h) pairs e) i d l in
      let parts = and_parts _ _ k in
      (ltb-true _ m parts.0, ltb-true _ n parts.1)
