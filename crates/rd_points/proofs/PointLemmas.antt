-- Two calls touch conflicting points exactly where they don't commute.
use Rattle.std.proofs.Common.{◌≡◌, ◌+◌, ◌*◌, ◌/◌, ◌<◌, ◌≤◌, ◌==◌, ◌↔◌, ℕ, zero, suc, Bool, true, false, ◌&&◌, ◌||◌, not, cond, nat_lt, List, [], ◌∷◌, length, Option, Some, None, slice_get, refl, sym, ap, ◌∙◌, arith, inl, inr, subst, true≢false}
use Rattle.std.specs.Prelude.{nat_le, IsSome, option_map, unwrap_or}
use Rattle.std.specs.List.{list_all}
use Rattle.std.specs.Int.{bit_at}
use Rattle.std.proofs.lemmas.Bool.{and_parts, and_from, and_cases, and_left, and_right, or_cases, or_left, or_right, not-false, not_from_true, eqb-true, eq-eqb, ltb-true, lt-ltb, leb-true}
use Rattle.std.proofs.lemmas.Nat.Bits.{bit_at_lowest, bit_at-suc}
use Rattle.std.proofs.lemmas.Option.{none-some, same_Some}
use Rattle.rd_base.specs.declared.values.Value.{Value}
use Rattle.rd_ecl.specs.declared.formulas.Side.TheVariants.{First, Second}
use Rattle.rd_ecl.specs.declared.formulas.Rel.TheVariants.{Eq}
use Rattle.rd_ecl.specs.declared.formulas.Predicate.{Predicate}
use Rattle.rd_ecl.specs.Formulas.{Tree, truth, atom, cross, mixed, negation, both, either, Fits, holds, relate}
use Rattle.rd_ecl.specs.Specified.{IsKind, IsPair, SpecifiedKind, commutes, formula_at, method_predicates, pair_holds, slots_at}
use Rattle.rd_ecl.proofs.EqualLemmas.{value_decides}
use Rattle.rd_ecl.specs.declared.reduction.Reduced.{Reduced}
use Rattle.rd_ecl.specs.declared.reduction.Reduced.TheVariants.{True, False, Pairs}
use Rattle.rd_ecl.specs.SlotPairs.{has_pair, same_pair, union_pairs}
use Rattle.rd_ecl.specs.Reduction.{HaveBits, constant, differ, flipped, means, of_both, of_either, predicate_holds, predicate_of, reduce_of, truth_in}
use Rattle.rd_points.specs.Classes.{bits_of, clash, clashes, reduced_pair}
use Rattle.rd_points.specs.Points.{IsSlot, Meets, class_of, value_of_slot}
use Rattle.rd_ecl.proofs.ReductionLemmas.{all_union, pairs_same, reduces}
use Rattle.rd_ecl.proofs.ListedLemmas.{pair_listed}

-- ---- equal values of slots that are there

related : (x y : Option Value) → relate Eq x y ≡ true → x ≡ y
related (Some x) (Some y) h = ap Some ((value_decides x y).0 h)
related (Some x) None h = absurd (true≢false (sym h))
related None y h = absurd (true≢false (sym h))

relates_itself : (x : Option Value) → IsSome x → relate Eq x x ≡ true
relates_itself (Some x) h = (value_decides x x).1 refl
relates_itself None h = absurd (true≢false (sym h))

slot_there : (slots : List Value) (i : ℕ) → i < length slots → IsSome (slice_get slots i)
slot_there [] i h = absurd (omega arith)
slot_there (x ∷ slots) zero h = refl
slot_there (x ∷ slots) (suc i) h = slot_there slots i (omega arith)

-- ---- a call has the values of its valuation

pub valued : (ps : List Predicate) (a : List Value) → HaveBits ps (bits_of ps a) a
valued [] a i p e = cc
valued (p ∷ ps) a zero q e =
    let same : p ≡ q = cc in
    subst (λ z. predicate_holds z a ≡ (bit_at (bits_of (p ∷ ps) a) 0 == 1)) same (by (predicate_holds p a) (bits_of ps a))
  where
    by : (b : Bool) (r : ℕ) → b ≡ (bit_at (cond b 1 0 + 2 * r) 0 == 1)
    by true r = sym (eq-eqb (bit_at (1 + 2 * r) 0) 1 (bit_at_lowest (1 + 2 * r) ∙ omega arith))
    by false r = let e : bit_at (0 + 2 * r) 0 ≡ 0 = bit_at_lowest (0 + 2 * r) ∙ omega arith in sym (ap (λ z. z == 1) e)
valued (p ∷ ps) a (suc i) q e =
    valued ps a i q e ∙ ap (λ z. z == 1) (sym (bit_at-suc (bits_of (p ∷ ps) a) i ∙ ap (λ z. bit_at z i) (half (predicate_holds p a) (bits_of ps a))))
  where
    half : (b : Bool) (r : ℕ) → (cond b 1 0 + 2 * r) / 2 ≡ r
    half true r = omega arith
    half false r = omega arith

-- ---- the pairs of a reduction

abbrev fits_pair : ℕ → ℕ → ℕ × ℕ → Bool
fits_pair m n p = nat_lt p.0 m && nat_lt p.1 n

abbrev PairsFit : ℕ → ℕ → Reduced → Type 0
PairsFit m n r = (ps : List (ℕ × ℕ)) → r ≡ Pairs ps → list_all (fits_pair m n) ps ≡ true

module _ (m n : ℕ) where
  no_pairs : (b : Bool) → PairsFit m n (constant b)
  no_pairs true ps e = cc
  no_pairs false ps e = cc

  flipped_fits : (r : Reduced) → PairsFit m n r → PairsFit m n (flipped r)
  flipped_fits True h ps e = cc
  flipped_fits False h ps e = cc
  flipped_fits (Pairs qs) h ps e = h ps e

  union_fits : (ps qs : List (ℕ × ℕ)) → PairsFit m n (Pairs ps) → PairsFit m n (Pairs qs) → PairsFit m n (Pairs (union_pairs ps qs))
  union_fits ps qs h l rs e =
      let same : union_pairs ps qs ≡ rs = cc in
      subst (λ z. list_all (fits_pair m n) z ≡ true) same (all_union (fits_pair m n) ps qs ∙ and_from _ _ (h ps refl) (l qs refl))

  both_fits : (r s : Reduced) → PairsFit m n r → PairsFit m n s → PairsFit m n (of_both r s)
  both_fits False s h l = no_pairs false
  both_fits True s h l = l
  both_fits (Pairs ps) False h l = no_pairs false
  both_fits (Pairs ps) True h l = h
  both_fits (Pairs ps) (Pairs qs) h l = union_fits ps qs h l

  either_fits : (r s : Reduced) → PairsFit m n r → PairsFit m n s → PairsFit m n (of_either r s)
  either_fits True s h l = no_pairs true
  either_fits False s h l = l
  either_fits (Pairs ps) True h l = no_pairs true
  either_fits (Pairs ps) False h l = h
  either_fits (Pairs ps) (Pairs qs) h l = union_fits ps qs h l

  one_fits : (i j : ℕ) → i < m → j < n → PairsFit m n (Pairs ((i, j) ∷ []))
  one_fits i j l h ps e =
      let same : (i, j) ∷ [] ≡ ps = cc in
      subst (λ z. list_all (fits_pair m n) z ≡ true) same (and_from _ _ (and_from _ _ (lt-ltb i m l) (lt-ltb j n h)) refl)

  pairs_fit : (f : Tree) (p : List Predicate) (v : ℕ) (q : List Predicate) (w : ℕ) → Fits f m n → PairsFit m n (reduce_of f p v q w)
  pairs_fit (truth value) p v q w h = no_pairs value
  pairs_fit (atom First rel l r) p v q w h = no_pairs (truth_in p v (predicate_of rel l r))
  pairs_fit (atom Second rel l r) p v q w h = no_pairs (truth_in q w (predicate_of rel l r))
  pairs_fit (cross i j) p v q w h = one_fits i j h.0 h.1
  pairs_fit (mixed rel fl i j) p v q w h = no_pairs false
  pairs_fit (negation f) p v q w h = flipped_fits _ (pairs_fit f p v q w h)
  pairs_fit (both f g) p v q w h = both_fits _ _ (pairs_fit f p v q w h.0) (pairs_fit g p v q w h.1)
  pairs_fit (either f g) p v q w h = either_fits _ _ (pairs_fit f p v q w h.0) (pairs_fit g p v q w h.1)

-- ---- one direction

module _ (a b : List Value) where
  -- a listed pair of slots doesn't differ
  equal_pair : (m n : ℕ) (ps : List (ℕ × ℕ)) → list_all (fits_pair m n) ps ≡ true → list_all (λ p. differ a b p.0 p.1) ps ≡ false
      → (p : ℕ × ℕ) × (has_pair p ps ≡ true) × (p.0 < m) × (p.1 < n) × (slice_get a p.0 ≡ slice_get b p.1)
  equal_pair m n [] f h = absurd (true≢false h)
  equal_pair m n (p ∷ ps) f h =
      let k = and_parts (fits_pair m n p) (list_all (fits_pair m n) ps) f in
      let inside = and_parts (nat_lt p.0 m) (nat_lt p.1 n) k.0 in
      elim (and_cases (differ a b p.0 p.1) (list_all (λ p. differ a b p.0 p.1) ps) h) [
        | inl d ↦ (p, or_left _ _ (and_from (p.0 == p.0) (p.1 == p.1) (eq-eqb p.0 p.0 refl) (eq-eqb p.1 p.1 refl)), ltb-true p.0 m inside.0, ltb-true p.1 n inside.1, related _ _ (not-false _ d))
        | inr d ↦ (let r = equal_pair m n ps k.1 d in (r.0, or_right (same_pair p r.0) _ r.1, r.2, r.3, r.4))
      ]

  pair_equal : (x : ℕ × ℕ) (ps : List (ℕ × ℕ)) → x.0 < length a → has_pair x ps ≡ true → slice_get a x.0 ≡ slice_get b x.1 → list_all (λ p. differ a b p.0 p.1) ps ≡ false
  pair_equal x [] there h e = absurd (true≢false (sym h))
  pair_equal x (p ∷ ps) there h e =
      elim (or_cases (same_pair p x) (has_pair x ps) h) [
        | inl s ↦ (let k = and_parts (p.0 == x.0) (p.1 == x.1) s in
            let q : x ≡ p = sym (pairs_same p x (eqb-true p.0 x.0 k.0) (eqb-true p.1 x.1 k.1)) in
            let same : relate Eq (slice_get a x.0) (slice_get b x.1) ≡ true = subst (λ z. relate Eq (slice_get a x.0) z ≡ true) e (relates_itself (slice_get a x.0) (slot_there a x.0 there)) in
            and_left _ _ (not_from_true _ (subst (λ z. relate Eq (slice_get a z.0) (slice_get b z.1) ≡ true) q same)))
        | inr s ↦ and_right _ _ (pair_equal x ps there s e)
      ]

  -- slots whose classes clash, with one value
  Hits : ℕ → ℕ → Reduced → Type 0
  Hits m n r = (s : Option ℕ) × (t : Option ℕ) × IsSlot m s × IsSlot n t × (clash r s t ≡ true) × (value_of_slot a s ≡ value_of_slot b t)

  hit_from : (m n : ℕ) (r : Reduced) → PairsFit m n r → means r a b ≡ false → Hits m n r
  unfolding Hits
  hit_from m n True f h = absurd (true≢false h)
  hit_from m n False f h = (None, None, inl refl, inl refl, refl, refl)
  hit_from m n (Pairs ps) f h =
      let r = equal_pair m n ps (f ps refl) h in
      (Some (r.0.0), Some (r.0.1), inr (r.0.0, r.2, refl), inr (r.0.1, r.3, refl), r.1, r.4)

  in_slot : (n i : ℕ) → IsSlot n (Some i) → i < n
  in_slot n i (inl none) = absurd (none-some i (sym none))
  in_slot n i (inr x) = subst (λ k. k < n) (sym (same_Some i x.0 x.2)) x.1

  hit_to : (r : Reduced) (s t : Option ℕ) → IsSlot (length a) s → clash r s t ≡ true → value_of_slot a s ≡ value_of_slot b t → means r a b ≡ false
  hit_to True s t is c e = absurd (true≢false (sym c))
  hit_to False s t is c e = refl
  hit_to (Pairs ps) (Some s) (Some t) is c e = pair_equal (s, t) ps (in_slot (length a) s is) c e
  hit_to (Pairs ps) (Some s) None is c e = absurd (true≢false (sym c))
  hit_to (Pairs ps) None t is c e = absurd (true≢false (sym c))

-- ---- two calls

module _ (kind : SpecifiedKind) (is : IsKind kind) where
  formula : ℕ → ℕ → Tree
  formula m n = unwrap_or (formula_at kind m n) (truth true)

  module _ (m n : ℕ) (ordered : m ≤ n) (known : n < length kind.methods) where
    found : formula_at kind m n ≡ Some (formula m n)
    unfolding formula
    found = by (formula_at kind m n) (is.whole m n ordered known)
      where
        by : (o : Option Tree) → IsSome o → o ≡ Some (unwrap_or o (truth true))
        by (Some f) h = refl
        by None h = absurd (true≢false (sym h))

    pair : IsPair (formula m n) (slots_at kind.methods m) (slots_at kind.methods n)
    pair = is.draft.pairs.each m n (formula m n) found

    module _ (a b : List Value) where
      reduction : Reduced
      reduction = reduced_pair kind m (bits_of (method_predicates kind m) a) n (bits_of (method_predicates kind n) b)

      said : pair_holds kind m n a b ≡ means reduction a b
      unfolding reduction formula
      said = ap (λ o. unwrap_or (option_map (λ f. holds f a b) o) false) found
          ∙ reduces (formula m n) (method_predicates kind m) _ (method_predicates kind n) _ pair.inside (pair_listed kind m n (formula m n) is ordered known found) a b
          (valued (method_predicates kind m) a) (valued (method_predicates kind n) b)

      OneWay : Type 0
      OneWay = (s : Option ℕ) × (t : Option ℕ) × IsSlot (slots_at kind.methods m) s × IsSlot (slots_at kind.methods n) t
          × (clashes kind (class_of kind m a s) (class_of kind n b t) ≡ true) × (value_of_slot a s ≡ value_of_slot b t)

      one_way : pair_holds kind m n a b ≡ false → OneWay
      unfolding reduction formula OneWay Hits
      one_way fails = hit_from a b (slots_at kind.methods m) (slots_at kind.methods n) reduction
          (pairs_fit (slots_at kind.methods m) (slots_at kind.methods n) (formula m n) _ _ _ _ pair.fits) (sym said ∙ fails)

      way_one : (s t : Option ℕ) → IsSlot (length a) s → clashes kind (class_of kind m a s) (class_of kind n b t) ≡ true → value_of_slot a s ≡ value_of_slot b t → pair_holds kind m n a b ≡ false
      unfolding reduction formula
      way_one s t slot c e = said ∙ hit_to a b reduction s t slot c e

  module _ (m n : ℕ) (a b : List Value) (known_m : m < length kind.methods) (known_n : n < length kind.methods)
      (slots_a : length a ≡ slots_at kind.methods m) (slots_b : length b ≡ slots_at kind.methods n) where
    -- the half of `commutes` that speaks of calls in this order fails, or the other
    halves : (x p : Bool) → (not x || p) ≡ false → (x ≡ true) × (p ≡ false)
    halves true p h = (refl, h)
    halves false p h = absurd (true≢false h)

    fails_from : (x p : Bool) → x ≡ true → p ≡ false → (not x || p) ≡ false
    fails_from true p ordered fails = fails
    fails_from false p ordered fails = absurd (true≢false (sym ordered))

    meets_from : commutes kind m a n b ≡ false → Meets kind m a n b
    unfolding OneWay
    meets_from h = elim (and_cases (not (nat_le m n) || pair_holds kind m n a b) (not (nat_le n m) || pair_holds kind n m b a) h) [
      | inl first ↦
          (let x = halves (nat_le m n) (pair_holds kind m n a b) first in
          let w = one_way m n (leb-true m n x.0) known_n a b x.1 in
          (w.0, w.1, w.2, w.3, or_left _ _ (and_from _ _ x.0 w.4), w.5))
      | inr second ↦
          (let x = halves (nat_le n m) (pair_holds kind n m b a) second in
          let w = one_way n m (leb-true n m x.0) known_m b a x.1 in
          (w.1, w.0, w.3, w.2, or_right (nat_le m n && clashes kind (class_of kind m a w.1) (class_of kind n b w.0)) _ (and_from _ _ x.0 w.4), sym w.5))
    ]

    meets_to : Meets kind m a n b → commutes kind m a n b ≡ false
    meets_to (s, t, is_s, is_t, c, e) =
        elim (or_cases (nat_le m n && clashes kind (class_of kind m a s) (class_of kind n b t)) (nat_le n m && clashes kind (class_of kind n b t) (class_of kind m a s)) c) [
          | inl first ↦
              (let x = and_parts (nat_le m n) _ first in
              and_left _ _ (fails_from (nat_le m n) _ x.0 (way_one m n (leb-true m n x.0) known_n a b s t (subst (λ k. IsSlot k s) (sym slots_a) is_s) x.1 e)))
          | inr second ↦
              (let x = and_parts (nat_le n m) _ second in
              and_right _ _ (fails_from (nat_le n m) _ x.0 (way_one n m (leb-true n m x.0) known_m b a t s (subst (λ k. IsSlot k t) (sym slots_b) is_t) x.1 (sym e))))
        ]

pub points_law : (kind : SpecifiedKind) (m n : ℕ) (a b : List Value) → IsKind kind → m < length kind.methods → n < length kind.methods
    → length a ≡ slots_at kind.methods m → length b ≡ slots_at kind.methods n → Meets kind m a n b ↔ (commutes kind m a n b ≡ false)
points_law kind m n a b is known_m known_n slots_a slots_b = (meets_to kind is m n a b known_m known_n slots_a slots_b, meets_from kind is m n a b known_m known_n slots_a slots_b)
