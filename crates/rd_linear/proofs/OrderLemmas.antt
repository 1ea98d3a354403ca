-- Every linear order is well-formed, and the same events reach each other in it.
use Rattle.std.proofs.Common.{Bool, ◌≡◌, ◌<◌, ◌+◌, ◌↔◌, ◌++◌, ℕ, zero, suc, List, [], ◌∷◌, Some, length, slice_get, map, get_or, arith, refl, sym, ◌∙◌, ap, subst}
use Rattle.std.specs.List.{range_with_len}
use Rattle.std.proofs.lemmas.List.{map-append, length-map}
use Rattle.std.proofs.lemmas.List.FromFn.{fill_by_all}
use Rattle.std.proofs.lemmas.Option.{slice_get-get_or}
use Rattle.rd_event.specs.declared.events.Event.{Event}
use Rattle.rd_event.specs.declared.events.Event.TheVariants.{Acquire}
use Rattle.rd_order.specs.Order.{Linked}
use Rattle.rd_order.specs.Order.{Reaches}
use Rattle.rd_order.specs.EventLists.{WellFormed}
use Rattle.rd_linear.specs.Orders.{exchanged, IsLinear, in_order}
use Rattle.rd_linear.proofs.FollowLemmas.{alike_inside, formed_exchanged, not_linked_back}
use Rattle.rd_linear.proofs.ExchangeLemmas.{unlinked, same_reaches, got_exchanged, at_seam, past_seam}
use Rattle.rd_linear.proofs.Insertion.{every_order}
use Rattle.rd_linear.proofs.CountLemmas.{AreAlike}

-- the events that these places name are well-formed, have K, and reach each other where R says
pub record Good (roots : ℕ → Bool) (K : List Event → Type 0) (at : ℕ → Event) (R : ℕ → ℕ → Type 0) (ps : List ℕ) : Type 0 where
  pub formed : WellFormed roots (map at ps)
  pub kept : K (map at ps)
  pub same : (j k p q : ℕ) → slice_get ps j ≡ Some p → slice_get ps k ≡ Some q → (Reaches (map at ps) j k ↔ R p q)

-- K is kept where unordered neighbours of a well-formed list are exchanged
abbrev pub Lasts : (ℕ → Bool) → (List Event → Type 0) → Type 0
Lasts roots K = (xs : List Event) (a b : Event) (ys : List Event) → WellFormed roots (xs ++ a ∷ b ∷ ys)
    → ¬ (Reaches (xs ++ a ∷ b ∷ ys) (length xs) (length xs + 1)) → K (xs ++ a ∷ b ∷ ys) → K (xs ++ b ∷ a ∷ ys)

module _ (roots : ℕ → Bool) (K : List Event → Type 0) (lasts : Lasts roots K) (at : ℕ → Event) (R : ℕ → ℕ → Type 0) where
  pub good_exchanged : (xs ys : List ℕ) (p q : ℕ) → ¬ (R p q) → Good roots K at R (xs ++ p ∷ q ∷ ys) → Good roots K at R (xs ++ q ∷ p ∷ ys)
  good_exchanged xs ys p q loose g = record {
    formed = subst (WellFormed roots) (sym f) (formed_exchanged roots (map at xs) (at p) (at q) (map at ys) formed_there free);
    kept = subst K (sym f) (lasts (map at xs) (at p) (at q) (map at ys) formed_there unreached (subst K e g.kept));
    same = now_same;
  }
    where
      e : map at (xs ++ p ∷ q ∷ ys) ≡ map at xs ++ at p ∷ at q ∷ map at ys
      e = map-append at xs (p ∷ q ∷ ys)

      f : map at (xs ++ q ∷ p ∷ ys) ≡ map at xs ++ at q ∷ at p ∷ map at ys
      f = map-append at xs (q ∷ p ∷ ys)

      formed_there : WellFormed roots (map at xs ++ at p ∷ at q ∷ map at ys)
      formed_there = subst (WellFormed roots) e g.formed

      unreached : ¬ (Reaches (map at xs ++ at p ∷ at q ∷ map at ys) (length (map at xs)) (length (map at xs) + 1))
      unreached r = loose ((g.same (length xs) (length xs + 1) p q (at_seam xs p (q ∷ ys))
          (let i : length xs + 1 ≡ suc (length xs) = omega arith in rw i (past_seam xs p q ys))).0
          (subst (λ m. Reaches (map at (xs ++ p ∷ q ∷ ys)) m (m + 1)) (length-map xs at) (subst (λ es. Reaches es (length (map at xs)) (length (map at xs) + 1)) (sym e) r)))

      free : ¬ (Linked (at p) (at q))
      free = unlinked (map at xs) (at p) (at q) (map at ys) unreached

      back : ¬ (Linked (at q) (at p))
      back = not_linked_back roots (map at xs) (at p) (at q) (map at ys) formed_there free

      there : (j a : ℕ) → slice_get (xs ++ q ∷ p ∷ ys) j ≡ Some a → slice_get (xs ++ p ∷ q ∷ ys) (exchanged (length xs) j) ≡ Some a
      there j a s = got_exchanged xs q p ys j ∙ s

      moved : (j k : ℕ) → Reaches (map at (xs ++ q ∷ p ∷ ys)) j k ↔ Reaches (map at (xs ++ p ∷ q ∷ ys)) (exchanged (length xs) j) (exchanged (length xs) k)
      moved j k = rw (f, e) (subst (λ m. Reaches (map at xs ++ at q ∷ at p ∷ map at ys) j k ↔ Reaches (map at xs ++ at p ∷ at q ∷ map at ys) (exchanged m j) (exchanged m k))
          (length-map xs at) (same_reaches (map at xs) (at q) (at p) (map at ys) back free j k))

      now_same : (j k a b : ℕ) → slice_get (xs ++ q ∷ p ∷ ys) j ≡ Some a → slice_get (xs ++ q ∷ p ∷ ys) k ≡ Some b → (Reaches (map at (xs ++ q ∷ p ∷ ys)) j k ↔ R a b)
      now_same j k a b s t =
          let h = g.same (exchanged (length xs) j) (exchanged (length xs) k) a b (there j a s) (there k b t) in
          ((λ r. h.0 ((moved j k).0 r)), (λ r. (moved j k).1 (h.1 r)))

pub range_at : (a n j p : ℕ) → slice_get (range_with_len a n) j ≡ Some p → p ≡ a + j
range_at a zero j p h = cc
range_at a (suc n) zero p h = let e : a ≡ p = cc in omega arith
range_at a (suc n) (suc j) p h = omega (arith, range_at (a + 1) n j p h)

pub range_length : (a n : ℕ) → length (range_with_len a n) ≡ n
range_length a zero = refl
range_length a (suc n) = ap suc (range_length (a + 1) n)

pub range_below : (a n j p : ℕ) → slice_get (range_with_len a n) j ≡ Some p → p < a + n
range_below a zero j p h = cc
range_below a (suc n) zero p h = let e : a ≡ p = cc in omega arith
range_below a (suc n) (suc j) p h = omega (arith, range_below (a + 1) n j p h)

-- any property that exchanges of unordered neighbours keep holds of every linear order
pub every_linear : (es : List Event) (P : List ℕ → Type 0)
    → ((xs ys : List ℕ) (p q : ℕ) → ¬ (Reaches es p q) → P (xs ++ p ∷ q ∷ ys) → P (xs ++ q ∷ p ∷ ys))
    → P (range_with_len 0 (length es)) → (ps : List ℕ) → IsLinear es ps → P ps
every_linear es P step first ps l = every_order (Reaches es) P step (range_with_len 0 (length es)) ps l.all l.keeps first

module _ (roots : ℕ → Bool) (K : List Event → Type 0) (lasts : Lasts roots K) (es : List Event) (formed : WellFormed roots es) (first : K es) where
  at : ℕ → Event
  at p = get_or es p (Acquire 0 0)

  whole : map at (range_with_len 0 (length es)) ≡ es
  unfolding at
  whole = sym (fill_by_all (λ p. get_or es p (Acquire 0 0)) es (length es) (Acquire 0 0) refl (λ k l. refl))

  good_first : Good roots K at (Reaches es) (range_with_len 0 (length es))
  good_first = record {
    formed = rw whole formed;
    kept = rw whole first;
    same = λ j k p q s t.
        let x = range_at 0 (length es) j p s in
        let y = range_at 0 (length es) k q t in
        let a : p ≡ j = omega arith in
        let b : q ≡ k = omega arith in
        rw (whole, a, b) (λ r. r, λ r. r);
  }

  good_order : (ps : List ℕ) → IsLinear es ps → Good roots K at (Reaches es) ps
  good_order ps l = every_linear es (Good roots K at (Reaches es)) (good_exchanged roots K lasts at (Reaches es)) good_first ps l

  same_trace : (ps : List ℕ) → ((j p : ℕ) → slice_get ps j ≡ Some p → p < length es) → in_order es ps ≡ map at ps
  unfolding at
  same_trace [] inside = refl
  same_trace (p ∷ ps) inside = rw (slice_get-get_or es p (Acquire 0 0) (inside 0 p refl)) (ap (λ xs. get_or es p (Acquire 0 0) ∷ xs) (same_trace ps (λ j. inside (suc j))))

  inside : (ps : List ℕ) → IsLinear es ps → (j p : ℕ) → slice_get ps j ≡ Some p → p < length es
  inside ps l = every_linear es (λ qs. (j p : ℕ) → slice_get qs j ≡ Some p → p < length es)
      (λ xs ys p q loose g j a s. g (exchanged (length xs) j) a (got_exchanged xs q p ys j ∙ s)) (λ j p s. omega (arith, range_below 0 (length es) j p s)) ps l

  -- so it is kept in every linear order
  pub order_kept : (ps : List ℕ) → IsLinear es ps → K (in_order es ps)
  order_kept ps l = rw (same_trace ps (inside ps l)) (good_order ps l).kept

  pub order_same : (ps : List ℕ) → IsLinear es ps → (j k p q : ℕ) → slice_get ps j ≡ Some p → slice_get ps k ≡ Some q → (Reaches (in_order es ps) j k ↔ Reaches es p q)
  order_same ps l = rw (same_trace ps (inside ps l)) (good_order ps l).same

pub formed_lasts : (roots : ℕ → Bool) → Lasts roots (WellFormed roots)
formed_lasts roots xs a b ys formed loose w = formed_exchanged roots xs a b ys formed (unlinked xs a b ys loose)

-- every test counts as many events in each order
pub counts_last : (roots : ℕ → Bool) (es : List Event) → Lasts roots (λ xs. AreAlike xs es)
counts_last roots es xs a b ys formed loose s = record { counts = λ p. sym ((alike_inside roots xs a b ys).counts p) ∙ s.counts p }

-- the event at a position is that of the place there
pub event_at : (es : List Event) (ps : List ℕ) → ((j p : ℕ) → slice_get ps j ≡ Some p → p < length es) → (i p : ℕ) → slice_get ps i ≡ Some p → slice_get (in_order es ps) i ≡ slice_get es p
event_at es [] inside i p at = cc
event_at es (q ∷ ps) inside zero p at =
    let same : q ≡ p = cc in
    rw (slice_get-get_or es q (Acquire 0 0) (inside 0 q refl)) (sym (slice_get-get_or es q (Acquire 0 0) (inside 0 q refl)) ∙ ap (slice_get es) same)
event_at es (q ∷ ps) inside (suc i) p at =
    rw (slice_get-get_or es q (Acquire 0 0) (inside 0 q refl)) (event_at es ps (λ j. inside (suc j)) i p at)
