-- The order that a number picks is the same for all lists of thread numbers that have those of the threads that act.
use Rattle.std.proofs.Common.{◌≡◌, ◌≢◌, ℕ, zero, suc, ◌+◌, ◌/◌, ◌%◌, ◌<◌, ◌≤◌, ◌==◌, ◌&&◌, ◌++◌, not, Bool, true, false, cond, List, [], ◌∷◌, Option, Some, None, length, slice_get, filter_map, arith, inl, inr, refl, sym, ◌∙◌, ap, subst}
use Rattle.std.specs.Prelude.{find, slice_index_or}
use Rattle.std.specs.List.{cons_option, range_with_len}
use Rattle.std.proofs.lemmas.Bool.{cases_eq, cases_lt}
use Rattle.std.proofs.lemmas.Bool.Decides.{Decides-and, Decides-eqb}
use Rattle.std.proofs.lemmas.Option.{none-some}
use Rattle.rd_event.specs.declared.events.Event.{Event}
use Rattle.rd_order.proofs.OrderLemmas.{reaches_decides}
use Rattle.rd_order.specs.OrderTests.{reaches}
use Rattle.rd_linear.proofs.OrderLemmas.{range_at, range_below}
use Rattle.rd_linear.proofs.TurnLemmas.{found_passes, turns_linear}
use Rattle.rd_linear.specs.Lanes.{HaveThreads, AreThreadsRising, order_by, thread_at}
use Rattle.rd_linear.specs.Linear.{Stands}
use Rattle.rd_linear.specs.Orders.{IsLinear}
use Rattle.rd_linear.specs.Turns.{choices, is_placed, keep_if, ready_at, turns}

-- ---- what a list of rising numbers gives

module _ (f : ℕ → Option ℕ) where
  -- from a number on, it has all that give something
  record Has (from : ℕ) (ts : List ℕ) : Type 0 where
    rising : AreThreadsRising ts
    above : (i t : ℕ) → slice_get ts i ≡ Some t → from ≤ t
    all : (t x : ℕ) → from ≤ t → f t ≡ Some x → Stands ts t

  tail : (from t : ℕ) (ts : List ℕ) → Has from (t ∷ ts) → Has (t + 1) ts
  tail from t ts has = record {
    rising = λ i j u v less at also. has.rising (suc i) (suc j) u v (omega (arith, less)) at also;
    above = λ i u at. (let l = has.rising 0 (suc i) t u (omega arith) refl at in omega (arith, l));
    all = λ u x more is. (let least = has.above 0 t refl in by u more (has.all u x (omega (arith, least, more)) is));
  }
    where
      by : (u : ℕ) → t + 1 ≤ u → Stands (t ∷ ts) u → Stands ts u
      by u more (zero, at) = let same : t ≡ u = cc in absurd (omega (arith, same, more))
      by u more (suc j, at) = (j, at)

  raised : (from to : ℕ) (ts : List ℕ) → from ≤ to → ((i t : ℕ) → slice_get ts i ≡ Some t → to ≤ t) → Has from ts → Has to ts
  raised from to ts le above has = record { rising = has.rising; above = above; all = λ t x more is. has.all t x (omega (arith, le, more)) is }

  -- what isn't among them gives nothing
  gives_none : (from t : ℕ) (ts : List ℕ) → Has from ts → from ≤ t → ((i u : ℕ) → slice_get ts i ≡ Some u → t ≢ u) → f t ≡ None
  gives_none from t ts has le apart = by (f t) refl
    where
      by : (o : Option ℕ) → f t ≡ o → f t ≡ None
      by None is = is
      by (Some x) is = let s = has.all t x le is in absurd (apart s.0 t s.1 refl)

  nothing : (from : ℕ) (ts : List ℕ) → Has from [] → Has from ts → [] ≡ filter_map f ts
  nothing from [] none has = refl
  nothing from (t ∷ ts) none has =
      let least = has.above 0 t refl in
      let gives : f t ≡ None = gives_none from t [] none least (λ i u at. absurd (none-some u at)) in
      let rest = nothing (t + 1) ts (raised from (t + 1) [] (omega (arith, least)) (λ i u at. absurd (none-some u at)) none) (tail from t ts has) in
      rest ∙ sym (ap (λ o. cons_option o (filter_map f ts)) gives)

  over : (n t : ℕ) (ts : List ℕ) → n ≤ t → ((i v : ℕ) → slice_get ts i ≡ Some v → t + 1 ≤ v) → (i v : ℕ) → slice_get (t ∷ ts) i ≡ Some v → n ≤ v
  over n t ts le more zero v at = let same : t ≡ v = cc in omega (arith, le, same)
  over n t ts le more (suc i) v at = let l = more i v at in omega (arith, le, l)

  one_more : (t : ℕ) (ts : List ℕ) → ((from : ℕ) (us : List ℕ) → Has from ts → Has from us → filter_map f ts ≡ filter_map f us)
      → (from : ℕ) (us : List ℕ) → Has from (t ∷ ts) → Has from us → filter_map f (t ∷ ts) ≡ filter_map f us
  one_more t ts same from [] has also = sym (nothing from (t ∷ ts) also has)
  one_more t ts same from (u ∷ us) has also = elim (cases_lt t u) [
    | inl below ↦
        let above : (i v : ℕ) → slice_get (u ∷ us) i ≡ Some v → t + 1 ≤ v = over (t + 1) u us (omega (arith, below)) (tail from u us also).above in
        let least = has.above 0 t refl in
        let gives : f t ≡ None = gives_none from t (u ∷ us) also least (λ i v at e. (let l = above i v at in omega (arith, l, e))) in
        ap (λ o. cons_option o (filter_map f ts)) gives
        ∙ same (t + 1) (u ∷ us) (tail from t ts has) (raised from (t + 1) (u ∷ us) (omega (arith, least)) above also)
    | inr past ↦ elim (cases_eq t u) [
      | inl here ↦
          let both = same (t + 1) us (tail from t ts has) (subst (λ n. Has (n + 1) us) (sym here) (tail from u us also)) in
          (λ i. cons_option (f (here i)) (both i))
      | inr apart ↦
          let above : (i v : ℕ) → slice_get (t ∷ ts) i ≡ Some v → u + 1 ≤ v = over (u + 1) t ts (omega (arith, past, apart)) (tail from t ts has).above in
          let least = also.above 0 u refl in
          let gives : f u ≡ None = gives_none from u (t ∷ ts) has least (λ i v at e. (let l = above i v at in omega (arith, l, e))) in
          one_more t ts same (u + 1) us (raised from (u + 1) (t ∷ ts) (omega (arith, least)) above has) (tail from u us also)
          ∙ sym (ap (λ o. cons_option o (filter_map f us)) gives)
    ]
  ]

  all_same : (from : ℕ) (ts us : List ℕ) → Has from ts → Has from us → filter_map f ts ≡ filter_map f us
  all_same from [] us has also = nothing from us has also
  all_same from (t ∷ ts) us has also = one_more t ts (λ at vs. all_same at ts vs) from us has also

-- ---- threads

keep_some : (g : ℕ → Bool) (o : Option ℕ) (x : ℕ) → keep_if g o ≡ Some x → o ≡ Some x
keep_some g None x is = cc
keep_some g (Some p) x is = by (g p) is
  where
    by : (b : Bool) → cond b (Some p) None ≡ Some x → Some p ≡ Some x
    by true e = e
    by false e = cc

-- the numbers rise, and each thread that acts is among them
pub record HaveActing (es : List Event) (threads : List ℕ) : Type 0 where
  pub rising : AreThreadsRising threads
  pub all : (p : ℕ) → p < length es → Stands threads (thread_at es p)

pub have_acting : (es : List Event) (threads : List ℕ) → HaveThreads es threads → HaveActing es threads
have_acting es threads have = record { rising = have.rising; all = have.all }

-- so it is with all numbers below a count
pub range_acting : (es : List Event) (count : ℕ) → ((p : ℕ) → p < length es → thread_at es p < count) → HaveActing es (range_with_len 0 count)
range_acting es count below = record {
  rising = λ i j t u less at also. (let x = range_at 0 count i t at in let y = range_at 0 count j u also in omega (arith, less, x, y));
  all = λ p inside. (thread_at es p, at_range 0 count (thread_at es p) (below p inside) ∙ ap Some (let e : 0 + thread_at es p ≡ thread_at es p = omega arith in e));
}
  where
    at_range : (from n k : ℕ) → k < n → slice_get (range_with_len from n) k ≡ Some (from + k)
    at_range from zero k less = absurd (omega arith)
    at_range from (suc n) zero less = ap Some (omega arith)
    at_range from (suc n) (suc k) less = at_range (from + 1) n k (omega (arith, less)) ∙ ap Some (omega arith)

module _ (es : List Event) (ts us : List ℕ) (first : HaveActing es ts) (second : HaveActing es us) where
  abbrev th : ℕ → ℕ
  th = thread_at es

  acts : (ps : List ℕ) (t x : ℕ) → ready_at (length es) th (reaches es) ps t ≡ Some x → (p : ℕ) × (p < length es) × (th p ≡ t)
  unfolding ready_at
  acts ps t x is =
      by (find test (range_with_len 0 (length es))) refl (keep_some _ (find test (range_with_len 0 (length es))) x is)
    where
      test : ℕ → Bool
      test p = (th p == t) && not (is_placed ps p)

      by : (o : Option ℕ) → find (λ p. (th p == t) && not (is_placed ps p)) (range_with_len 0 (length es)) ≡ o → o ≡ Some x → (p : ℕ) × (p < length es) × (th p ≡ t)
      by o is some =
          let found = found_passes (λ p. (th p == t) && not (is_placed ps p)) (range_with_len 0 (length es)) x (is ∙ some) in
          let both = (Decides-and (th x == t) (not (is_placed ps x)) (λ e. e, λ e. e) (λ e. e, λ e. e)).0 found.0 in
          (let inside = range_below 0 (length es) found.1.0 x found.1.1 in (x, omega (arith, inside), (Decides-eqb (th x) t).0 both.0))

  choices_alike : (ps : List ℕ) → choices (length es) th (reaches es) ts ps ≡ choices (length es) th (reaches es) us ps
  choices_alike ps = all_same (ready_at (length es) th (reaches es) ps) 0 ts us (has ts first) (has us second)
    where
      has : (vs : List ℕ) → HaveActing es vs → Has (ready_at (length es) th (reaches es) ps) 0 vs
      has vs have = record {
        rising = have.rising;
        above = λ i t at. omega arith;
        all = λ t x more is. (let (p, inside, of) = acts ps t x is in subst (Stands vs) of (have.all p inside));
      }

  turns_alike : (left number : ℕ) (ps : List ℕ) → turns (length es) th (reaches es) ts left number ps ≡ turns (length es) th (reaches es) us left number ps
  turns_alike zero number ps = refl
  turns_alike (suc left) number ps =
      let same = choices_alike ps in
      (λ i. turns (length es) th (reaches es) ts left (number / length (same i)) (ps ++ slice_index_or (same i) (number % length (same i)) 0 ∷ []))
      ∙ turns_alike left (number / length (choices (length es) th (reaches es) us ps))
      (ps ++ slice_index_or (choices (length es) th (reaches es) us ps) (number % length (choices (length es) th (reaches es) us ps)) 0 ∷ [])

  -- the order is the same for both
  pub order_alike : (number : ℕ) → order_by es ts number ≡ order_by es us number
  unfolding order_by
  order_alike number = turns_alike (length es) number []

-- and it is linear
pub acting_linear : (es : List Event) (threads : List ℕ) (number : ℕ) → HaveActing es threads → IsLinear es (order_by es threads number)
unfolding order_by
acting_linear es threads number have = turns_linear es (thread_at es) (reaches es) threads (reaches_decides es) have.all number
