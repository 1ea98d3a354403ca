-- Such an order is linear.
use Rattle.std.specs.Bool.{Decides}
use Rattle.std.proofs.Common.{◌≡◌, ◌<◌, ◌≤◌, ◌+◌, ◌/◌, ◌%◌, ◌⊎◌, ◌==◌, ◌&&◌, ◌||◌, ◌++◌, not, ℕ, zero, suc, Bool, true, false, List, [], ◌∷◌, Option, Some, None, length, slice_get, get_or, filter_map, arith, inl, inr, refl, sym, ◌∙◌, ap, subst, length-append}
use Rattle.std.specs.List.{range_with_len, list_all, find, cons_option}
use Rattle.std.proofs.lemmas.Bool.{cases_eq, cases_Bool}
use Rattle.std.proofs.lemmas.Bool.Decides.{Decides-eqb, Decides-and, Decides-or, Decides-not, Decides-like, not_from_Decides}
use Rattle.std.proofs.lemmas.Option.{slice_get-get_or}
use Rattle.rd_linear.specs.Turns.{is_placed, keep_if, ready_at, choices, turns}
use Rattle.rd_linear.proofs.Fills.{missing}
use Rattle.rd_linear.specs.Linear.{Placed, Stands}
use Rattle.rd_linear.proofs.Placing.{placed_none, placed_more, placed_all}
use Rattle.rd_linear.proofs.OrderLemmas.{range_below}
use Rattle.rd_linear.specs.Orders.{IsLinear}
use Rattle.rd_event.specs.declared.events.Event.{Event}
use Rattle.rd_order.specs.Order.{Reaches}
use Rattle.rd_order.proofs.OrderLemmas.{reaches_rises}

pub decides_placed : (ps : List ℕ) (p : ℕ) → Decides (is_placed ps p) (Stands ps p)
decides_placed [] p = (λ e. cc, λ s. let h = s.1 in cc)
decides_placed (x ∷ ps) p = Decides-like ((x == p) || is_placed ps p)
    (λ h. elim h [ inl e ↦ (0, ap Some e) | inr s ↦ (suc s.0, s.1) ])
    (λ s. back s.0 s.1)
    (Decides-or (x == p) (is_placed ps p) (Decides-eqb x p) (decides_placed ps p))
  where
    back : (j : ℕ) → slice_get (x ∷ ps) j ≡ Some p → (x ≡ p) ⊎ Stands ps p
    back zero h = inl cc
    back (suc j) h = inr (j, h)

-- what `find` and `filter_map` give
pub found_passes : (t : ℕ → Bool) (xs : List ℕ) (p : ℕ) → find t xs ≡ Some p → (t p ≡ true) × Stands xs p
found_passes t [] p h = cc
found_passes t (x ∷ xs) p h = elim (cases_Bool (t x)) [
  | inl y ↦ (let q : x ≡ p = (let g = rw y at h in cc) in (subst (λ z. t z ≡ true) q y, (0, ap Some q)))
  | inr n ↦ (let r = found_passes t xs p (rw n at h) in (r.0, (suc r.1.0, r.1.1)))
]

first_found : (t : ℕ → Bool) (a n p : ℕ) → a ≤ p → p < a + n → t p ≡ true → ((k : ℕ) → k < p → t k ≡ false) → find t (range_with_len a n) ≡ Some p
first_found t a zero p lo hi y others = absurd (omega arith)
first_found t a (suc n) p lo hi y others = elim (cases_eq a p) [
  | inl e ↦ (let z : t a ≡ true = subst (λ k. t k ≡ true) (sym e) y in rw z (ap Some e))
  | inr ne ↦ (let z : t a ≡ false = others a (omega arith) in rw z (first_found t (a + 1) n p (omega arith) (omega arith) y others))
]

pub all_at : (t : ℕ → Bool) (a n : ℕ) → list_all t (range_with_len a n) ≡ true → (k : ℕ) → a ≤ k → k < a + n → t k ≡ true
all_at t a zero h k lo hi = absurd (omega arith)
all_at t a (suc n) h k lo hi =
    let b = (Decides-and (t a) (list_all t (range_with_len (a + 1) n)) (λ e. e, λ e. e) (λ e. e, λ e. e)).0 h in
    elim (cases_eq a k) [ inl e ↦ subst (λ m. t m ≡ true) e b.0 | inr ne ↦ all_at t (a + 1) n b.1 k (omega arith) (omega arith) ]

at_all : (t : ℕ → Bool) (a n : ℕ) → ((k : ℕ) → t k ≡ true) → list_all t (range_with_len a n) ≡ true
at_all t a zero each = refl
at_all t a (suc n) each = rw (each a, at_all t (a + 1) n each) refl

pub at_each : (t : ℕ → Bool) (a n : ℕ) → ((k : ℕ) → a ≤ k → k < a + n → t k ≡ true) → list_all t (range_with_len a n) ≡ true
at_each t a zero each = refl
at_each t a (suc n) each = rw (each a (omega arith) (omega arith), at_each t (a + 1) n (λ k lo hi. each k (omega arith) (omega arith))) refl

mapped_from : (h : ℕ → Option ℕ) (ts : List ℕ) (i c : ℕ) → slice_get (filter_map h ts) i ≡ Some c → (t : ℕ) × (h t ≡ Some c)
mapped_from h [] i c at = cc
mapped_from h (t ∷ ts) i c at = go (h t) refl i at (mapped_from h ts)
  where
    go : (o : Option ℕ) → h t ≡ o → (i : ℕ) → slice_get (cons_option o (filter_map h ts)) i ≡ Some c → ((i c : ℕ) → slice_get (filter_map h ts) i ≡ Some c → (t : ℕ) × (h t ≡ Some c)) → (t : ℕ) × (h t ≡ Some c)
    go None e i at on = on i c at
    go (Some x) e zero at on = (t, e ∙ at)
    go (Some x) e (suc i) at on = on i c at

mapped_some : (h : ℕ → Option ℕ) (ts : List ℕ) (t c : ℕ) → Stands ts t → h t ≡ Some c → 0 < length (filter_map h ts)
mapped_some h [] t c s e = let x = s.1 in cc
mapped_some h (x ∷ ts) t c s e = go (h x) refl (mapped_some h ts t c)
  where
    rest : (j : ℕ) → slice_get (x ∷ ts) j ≡ Some t → (x ≡ t) ⊎ Stands ts t
    rest zero q = inl cc
    rest (suc j) q = inr (j, q)

    go : (o : Option ℕ) → h x ≡ o → (Stands ts t → h t ≡ Some c → 0 < length (filter_map h ts)) → 0 < length (cons_option o (filter_map h ts))
    go (Some y) q on = omega arith
    go None q on = elim (rest s.0 s.1) [ inl f ↦ (let z : h t ≡ None = subst (λ w. h w ≡ None) f q in cc) | inr r ↦ on r e ]

-- all below m stand, or there is a least that doesn't
least_below : (ps : List ℕ) (m : ℕ) → ((k : ℕ) → k < m → Stands ps k) ⊎ ((p : ℕ) × (p < m) × (¬ (Stands ps p)) × ((k : ℕ) → k < p → Stands ps k))
least_below ps zero = inl (λ k l. absurd (omega arith))
least_below ps (suc m) = elim (least_below ps m) [
  | inr x ↦ inr (x.0, (let l = x.1 in omega arith), x.2, x.3)
  | inl all ↦ elim (cases_Bool (is_placed ps m)) [
    | inl y ↦ inl (λ k l. elim (cases_eq k m) [ inl e ↦ subst (Stands ps) (sym e) ((decides_placed ps m).0 y) | inr ne ↦ all k (omega arith) ])
    | inr f ↦ inr (m, omega arith, not_from_Decides _ (decides_placed ps m) f, all)
  ]
]

module _ (es : List Event) (th : ℕ → ℕ) (r : ℕ → ℕ → Bool) (threads : List ℕ) (dec : (k p : ℕ) → Decides (r k p) (Reaches es k p)) (known : (p : ℕ) → p < length es → Stands threads (th p)) where
  pub ready_is : (ps : List ℕ) (t p : ℕ) → ready_at (length es) th r ps t ≡ Some p → (p < length es) × (¬ (Stands ps p)) × ((k : ℕ) → Reaches es k p → Stands ps k)
  unfolding ready_at
  ready_is ps t p h = go (find test (range_with_len 0 (length es))) refl h
    where
      test : ℕ → Bool
      test q = (th q == t) && not (is_placed ps q)

      full : ℕ → Bool
      full q = list_all (λ k. not (r k q) || is_placed ps k) (range_with_len 0 (length es))

      go : (o : Option ℕ) → find test (range_with_len 0 (length es)) ≡ o → keep_if full o ≡ Some p → (p < length es) × (¬ (Stands ps p)) × ((k : ℕ) → Reaches es k p → Stands ps k)
      go None e g = cc
      go (Some q) e g = elim (cases_Bool (full q)) [
        | inr n ↦ (let z = rw n at g in cc)
        | inl y ↦ (let same : q ≡ p = (let z = rw y at g in cc) in
            let f = found_passes test (range_with_len 0 (length es)) q e in
            let inside : q < length es = omega (arith, range_below 0 (length es) f.1.0 q f.1.1) in
            subst (λ w. (w < length es) × (¬ (Stands ps w)) × ((k : ℕ) → Reaches es k w → Stands ps k)) same (
              inside,
              ((Decides-and _ _ (Decides-eqb (th q) t) (Decides-not _ (decides_placed ps q))).0 f.0).1,
              (λ k reach. let l = reaches_rises es k q reach in
                  elim ((Decides-or _ _ (Decides-not _ (dec k q)) (decides_placed ps k)).0 (all_at (λ m. not (r m q) || is_placed ps m) 0 (length es) y k (omega arith) (omega arith))) [
                    | inl n ↦ absurd (n reach)
                    | inr s ↦ s
                  ]),
            ))
      ]

  is_ready : (ps : List ℕ) (p : ℕ) → p < length es → ¬ (Stands ps p) → ((k : ℕ) → k < p → Stands ps k) → ready_at (length es) th r ps (th p) ≡ Some p
  unfolding ready_at
  is_ready ps p inside fresh all =
      let f : find (λ q. (th q == th p) && not (is_placed ps q)) (range_with_len 0 (length es)) ≡ Some p =
      first_found (λ q. (th q == th p) && not (is_placed ps q)) 0 (length es) p (omega arith) (omega arith)
      ((Decides-and _ _ (Decides-eqb (th p) (th p)) (Decides-not _ (decides_placed ps p))).1 (refl, fresh))
      (λ k l. elim (cases_Bool ((th k == th p) && not (is_placed ps k))) [
        | inl y ↦ absurd (((Decides-and _ _ (Decides-eqb (th k) (th p)) (Decides-not _ (decides_placed ps k))).0 y).1 (all k l))
        | inr n ↦ n
      ]) in
      let g : list_all (λ k. not (r k p) || is_placed ps k) (range_with_len 0 (length es)) ≡ true =
      at_all (λ k. not (r k p) || is_placed ps k) 0 (length es) (λ k. elim (cases_Bool (r k p)) [
        | inl y ↦ (let reach = (dec k p).0 y in let l = reaches_rises es k p reach in
            (Decides-or _ _ (Decides-not _ (dec k p)) (decides_placed ps k)).1 (inr (all k l)))
        | inr n ↦ (Decides-or _ _ (Decides-not _ (dec k p)) (decides_placed ps k)).1 (inl (not_from_Decides _ (dec k p) n))
      ]) in
      rw (f, g) refl

  pub some_ready : (ps : List ℕ) → Placed es ps → length ps < length es → 0 < length (choices (length es) th r threads ps)
  some_ready ps s short = elim (least_below ps (length es)) [
    | inl all ↦ (let m = missing (length es) ps s.below short in absurd (m.2 (all m.0 m.1)))
    | inr x ↦ mapped_some (ready_at (length es) th r ps) threads (th x.0) x.0 (known x.0 x.1) (is_ready ps x.0 x.1 x.2 x.3)
  ]

  pub turns_placed : (f x : ℕ) (ps : List ℕ) → Placed es ps → length ps + f ≡ length es
      → Placed es (turns (length es) th r threads f x ps) × (length (turns (length es) th r threads f x ps) ≡ length es)
  turns_placed zero x ps s full = (s, omega (arith, full))
  turns_placed (suc f) x ps s full =
      let cs = choices (length es) th r threads ps in
      let some : 0 < length cs = some_ready ps s (omega arith) in
      let q = get_or cs (x % length cs) 0 in
      let c = mapped_from (ready_at (length es) th r ps) threads (x % length cs) q (slice_get-get_or cs (x % length cs) 0 (omega arith)) in
      let d = ready_is ps c.0 q c.1 in
      turns_placed f (x / length cs) (ps ++ q ∷ []) (placed_more es ps q s d.0 d.1 d.2) (omega (arith, length-append ps (q ∷ []), full))

  pub turns_linear : (x : ℕ) → IsLinear es (turns (length es) th r threads (length es) x [])
  turns_linear x = let t = turns_placed (length es) x [] (placed_none es) (omega arith) in placed_all es _ t.0 t.1
