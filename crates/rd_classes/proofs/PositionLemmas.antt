-- Where the first member of a list stands that passes a test, and lists of the numbers below a bound.
use Rattle.std.proofs.Common.{◌≡◌, ◌+◌, ◌<◌, ◌≤◌, ℕ, zero, suc, Bool, true, false, not, ltb, List, [], ◌∷◌, ◌++◌, length, get_or, Some, None, refl, sym, ap, ◌∙◌, arith, inl, inr, subst, position}
use Rattle.std.specs.Prelude.{All, Contains, filter, nat_lt}
use Rattle.std.specs.List.{position_or_len, range_with_len}
use Rattle.std.proofs.lemmas.Bool.{cases_Bool, cond-false, cond-true, lt-ltb, ltb-false, ltb-true}
use Rattle.std.proofs.lemmas.List.{append-nil, get_or_append_left, length-append}
use Rattle.std.proofs.lemmas.List.Elements.{Contains-append_left, Contains-push, All-filter, filter-append}
use Rattle.std.proofs.lemmas.List.Filters.{length-filter_both}
use Rattle.std.proofs.lemmas.List.FromFn.{get_or-range_with_len, length-range_with_len}
use Rattle.std.proofs.lemmas.List.Quantifiers.{position-Some}
use Rattle.std.proofs.lemmas.List.Sums.{fails_before_first, position_or_len_is}
use Rattle.std.proofs.lemmas.Option.{none-some}

module _ {X : Type 0} (p : X → Bool) where
  -- the place of the first that passes
  pub position_is : (xs : List X) (i : ℕ) (d : X) → i < length xs → p (get_or xs i d) ≡ true → ((k : ℕ) → k < i → p (get_or xs k d) ≡ false)
      → position p xs ≡ Some i
  position_is xs i d within passes before =
      let first : position_or_len p xs ≡ i = position_or_len_is p xs i d (omega arith) before (λ _. passes) in
      rw first (cond-true (nat_lt i (length xs)) (Some i) None (lt-ltb i (length xs) within))

  -- it stays where others are put behind
  pub position_kept : (xs ys : List X) (i : ℕ) (d : X) → position p xs ≡ Some i → position p (xs ++ ys) ≡ Some i
  position_kept xs ys i d found =
      let (within, passes, before) = position-Some p xs i d found in
      position_is (xs ++ ys) i d (omega (arith, length-append xs ys)) (ap p (get_or_append_left xs ys d i within) ∙ passes)
      (λ k below. ap p (get_or_append_left xs ys d k (omega arith)) ∙ before k below)

  pub none_passes : (xs : List X) (k : ℕ) (d : X) → position p xs ≡ None → k < length xs → p (get_or xs k d) ≡ false
  none_passes xs k d none within = elim (cases_Bool (nat_lt (position_or_len p xs) (length xs))) [
    | inl e ↦ absurd (none-some (position_or_len p xs) (sym none
        ∙ cond-true (nat_lt (position_or_len p xs) (length xs)) (Some (position_or_len p xs)) None e))
    | inr e ↦ (let past = ltb-false (position_or_len p xs) (length xs) e in fails_before_first p xs k d (omega arith))
  ]

-- one number more
range_push : (a n : ℕ) → range_with_len a (suc n) ≡ range_with_len a n ++ (a + n) ∷ []
range_push a zero = ap (λ k. k ∷ []) (let e : a ≡ a + 0 = omega arith in e)
range_push a (suc n) =
    ap (λ l. a ∷ l) (range_push (a + 1) n ∙ ap (λ k. range_with_len (a + 1) n ++ k ∷ []) (let e : a + 1 + n ≡ a + suc n = omega arith in e))

pub below_push : (n : ℕ) → range_with_len 0 (suc n) ≡ range_with_len 0 n ++ n ∷ []
below_push n = range_push 0 n ∙ ap (λ k. range_with_len 0 n ++ k ∷ []) (let e : 0 + n ≡ n = omega arith in e)

pub range_split : (a n m : ℕ) → range_with_len a (n + m) ≡ range_with_len a n ++ range_with_len (a + n) m
range_split a zero m =
    ap (range_with_len a) (let e : 0 + m ≡ m = omega arith in e) ∙ ap (λ k. range_with_len k m) (let e : a ≡ a + 0 = omega arith in e)
range_split a (suc n) m =
    ap (λ k. range_with_len a k) (let e : suc n + m ≡ suc (n + m) = omega arith in e)
    ∙ ap (λ l. a ∷ l) (range_split (a + 1) n m ∙ ap (λ k. range_with_len (a + 1) n ++ range_with_len k m)
    (let e : a + 1 + n ≡ a + suc n = omega arith in e))

pub range_below : (n : ℕ) → All (λ k. k < n) (range_with_len 0 n)
range_below n k d within =
    let few : k < n = omega (arith, length-range_with_len 0 n) in
    subst (λ j. j < n) (sym (get_or-range_with_len 0 n k d few)) (omega arith)

module _ (test : ℕ → Bool) where
  -- the numbers below n that pass
  pub filter_yes : (n : ℕ) → test n ≡ true → filter test (range_with_len 0 (suc n)) ≡ filter test (range_with_len 0 n) ++ n ∷ []
  filter_yes n passes = ap (filter test) (below_push n) ∙ filter-append test (range_with_len 0 n) (n ∷ [])
      ∙ ap (λ l. filter test (range_with_len 0 n) ++ l) (cond-true (test n) (n ∷ []) [] passes)

  pub filter_no : (n : ℕ) → test n ≡ false → filter test (range_with_len 0 (suc n)) ≡ filter test (range_with_len 0 n)
  filter_no n fails = ap (filter test) (below_push n) ∙ filter-append test (range_with_len 0 n) (n ∷ [])
      ∙ ap (λ l. filter test (range_with_len 0 n) ++ l) (cond-false (test n) (n ∷ []) [] fails) ∙ append-nil _

  pub filter_has : (n k : ℕ) → k < n → test k ≡ true → Contains (filter test (range_with_len 0 n)) k
  filter_has zero k below passes = absurd (omega arith)
  filter_has (suc n) k below passes = elim (cases_Bool (ltb k n)) [
    | inl e ↦ subst (λ l. Contains l k) (sym (ap (filter test) (below_push n) ∙ filter-append test (range_with_len 0 n) (n ∷ [])))
        (Contains-append_left (filter test (range_with_len 0 n)) _ k (filter_has n k (ltb-true k n e) passes))
    | inr e ↦
        (let past = ltb-false k n e in
        let same : n ≡ k = omega arith in
        subst (λ l. Contains l k) (sym (filter_yes n (ap test same
        ∙ passes))) (subst (λ j. Contains (filter test (range_with_len 0 n) ++ n ∷ []) j) same (Contains-push (filter test
        (range_with_len 0 n)) n)))
  ]

  pub filter_below : (n : ℕ) → All (λ k. k < n) (filter test (range_with_len 0 n))
  filter_below n = All-filter test (λ k. k < n) (range_with_len 0 n) (range_below n)

  pub filter_few : (n : ℕ) → length (filter test (range_with_len 0 n)) ≤ n
  filter_few n = omega (arith, length-filter_both test (λ k. not (test k)) (λ k. refl) (range_with_len 0 n), length-range_with_len 0 n)
