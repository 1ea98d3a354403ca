-- How often threads take holds and give them back in well-formed lists.
use Rattle.std.proofs.Common.{◌≡◌, ◌≢◌, ◌⊎◌, inl, inr, ℕ, ◌+◌, ◌<◌, ◌≤◌, Bool, true, cond, List, [], ◌∷◌, ◌++◌, take, drop, Option, Some, None, Decides, refl, sym, ◌∙◌, ap, subst, arith}
use Rattle.std.specs.Prelude.{◌==◌, ◌&&◌}
use Rattle.std.proofs.lemmas.Bool.{cases_Bool}
use Rattle.std.proofs.lemmas.Bool.Decides.{Decides-and, Decides-eqb, Decides-like}
use Rattle.std.proofs.lemmas.List.{append-nil, append_assoc, take-append-drop}
use Rattle.std.proofs.lemmas.List.Sums.{sum_by_push}
use Rattle.std.proofs.lemmas.Option.{none-some, same_Some}
use Rattle.rd_event.specs.declared.events.Event.{Event}
use Rattle.rd_event.specs.declared.events.Event.TheVariants.{Fork, Join, Acquire, Release, Share, Unshare, Call}
use Rattle.rd_order.specs.Order.{thread_of, Hold, exclusive, shared, Against, hold_taken, hold_given}
use Rattle.rd_order.specs.EventLists.{is_hold, takings, givings, MayHappen, Follow, WellFormed}
use Rattle.rd_order.proofs.EventListLemmas.{exclusive_not_shared, formed_front, lock_in}

-- ---- holds

-- the test tells whether it is this hold
pub hold_decides : (o : Option Hold) (h : Hold) → Decides (is_hold o h) (o ≡ Some h)
unfolding lock_in
hold_decides None h = (λ e. cc, λ x. absurd (none-some h x))
hold_decides (Some (exclusive other)) (exclusive lock) =
    Decides-like (other == lock) (ap (λ l. Some (exclusive l))) (λ x. ap lock_in (same_Some (exclusive other) (exclusive lock) x)) (Decides-eqb other lock)
hold_decides (Some (shared other)) (shared lock) =
    Decides-like (other == lock) (ap (λ l. Some (shared l))) (λ x. ap lock_in (same_Some (shared other) (shared lock) x)) (Decides-eqb other lock)
hold_decides (Some (exclusive other)) (shared lock) = (λ e. cc, λ x. absurd (exclusive_not_shared other lock (same_Some (exclusive other) (shared lock) x)))
hold_decides (Some (shared other)) (exclusive lock) = (λ e. cc, λ x. absurd (exclusive_not_shared lock other (sym (same_Some (shared other) (exclusive lock) x))))

pub against_back : (h k : Hold) → Against h k → Against k h
against_back (exclusive lock) (exclusive other) same = sym same
against_back (exclusive lock) (shared other) same = sym same
against_back (shared lock) (exclusive other) same = sym same
against_back (shared lock) (shared other) none = none

-- ---- one event more

-- the event takes the hold for the thread, and is counted, or doesn't, and isn't
pub taking_cases : (es : List Event) (e : Event) (t : ℕ) (h : Hold)
    → ((thread_of e ≡ t) × (hold_taken e ≡ Some h) × (takings (es ++ e ∷ []) t h ≡ takings es t h + 1)) ⊎ (takings (es ++ e ∷ []) t h ≡ takings es t h)
unfolding takings
taking_cases es e t h = elim (cases_Bool ((thread_of e == t) && is_hold (hold_taken e) h)) [
  | inl takes ↦
      (let x = (Decides-and _ _ (Decides-eqb (thread_of e) t) (hold_decides (hold_taken e) h)).0 takes in
      inl (x.0, x.1, sum_by_push (λ y. cond ((thread_of y == t) && is_hold (hold_taken y) h) 1 0) es e ∙ (rw takes refl)))
  | inr other ↦ inr (sum_by_push (λ y. cond ((thread_of y == t) && is_hold (hold_taken y) h) 1 0) es e ∙ (rw other (omega arith)))
]

pub giving_cases : (es : List Event) (e : Event) (t : ℕ) (h : Hold)
    → ((thread_of e ≡ t) × (hold_given e ≡ Some h) × (givings (es ++ e ∷ []) t h ≡ givings es t h + 1)) ⊎ (givings (es ++ e ∷ []) t h ≡ givings es t h)
unfolding givings
giving_cases es e t h = elim (cases_Bool ((thread_of e == t) && is_hold (hold_given e) h)) [
  | inl gives ↦
      (let x = (Decides-and _ _ (Decides-eqb (thread_of e) t) (hold_decides (hold_given e) h)).0 gives in
      inl (x.0, x.1, sum_by_push (λ y. cond ((thread_of y == t) && is_hold (hold_given y) h) 1 0) es e ∙ (rw gives refl)))
  | inr other ↦ inr (sum_by_push (λ y. cond ((thread_of y == t) && is_hold (hold_given y) h) 1 0) es e ∙ (rw other (omega arith)))
]

pub takings_grow : (es : List Event) (e : Event) (t : ℕ) (h : Hold) → takings es t h ≤ takings (es ++ e ∷ []) t h
takings_grow es e t h = elim (taking_cases es e t h) [ inl x ↦ omega (arith, x.2) | inr same ↦ omega (arith, same) ]

pub givings_grow : (es : List Event) (e : Event) (t : ℕ) (h : Hold) → givings es t h ≤ givings (es ++ e ∷ []) t h
givings_grow es e t h = elim (giving_cases es e t h) [ inl x ↦ omega (arith, x.2) | inr same ↦ omega (arith, same) ]

-- an event of another thread isn't counted
pub takings_of_others : (es : List Event) (e : Event) (t : ℕ) (h : Hold) → t ≢ thread_of e → takings (es ++ e ∷ []) t h ≡ takings es t h
takings_of_others es e t h other = elim (taking_cases es e t h) [ inl x ↦ absurd (other (sym x.0)) | inr same ↦ same ]

pub givings_of_others : (es : List Event) (e : Event) (t : ℕ) (h : Hold) → t ≢ thread_of e → givings (es ++ e ∷ []) t h ≡ givings es t h
givings_of_others es e t h other = elim (giving_cases es e t h) [ inl x ↦ absurd (other (sym x.0)) | inr same ↦ same ]

-- an event that takes a hold is counted
pub takings_one : (es : List Event) (e : Event) (h : Hold) → hold_taken e ≡ Some h → takings (es ++ e ∷ []) (thread_of e) h ≡ takings es (thread_of e) h + 1
unfolding takings
takings_one es e h takes =
    let counted : (thread_of e == thread_of e) && is_hold (hold_taken e) h ≡ true =
    (Decides-and _ _ (Decides-eqb (thread_of e) (thread_of e)) (hold_decides (hold_taken e) h)).1 (refl, takes) in
    sum_by_push (λ y. cond ((thread_of y == thread_of e) && is_hold (hold_taken y) h) 1 0) es e ∙ (rw counted refl)

-- what takes a hold gives none back
gives_none : (e : Event) (h k : Hold) → hold_taken e ≡ Some h → ¬ (hold_given e ≡ Some k)
gives_none (Fork thread child) h k takes gives = none-some k gives
gives_none (Join thread child) h k takes gives = none-some k gives
gives_none (Acquire thread lock) h k takes gives = none-some k gives
gives_none (Release thread lock) h k takes gives = none-some h takes
gives_none (Share thread lock) h k takes gives = none-some k gives
gives_none (Unshare thread lock) h k takes gives = none-some h takes
gives_none (Call call) h k takes gives = none-some k gives

pub givings_none : (es : List Event) (e : Event) (t : ℕ) (h : Hold) → hold_taken e ≡ Some h → givings (es ++ e ∷ []) t h ≡ givings es t h
givings_none es e t h takes = elim (giving_cases es e t h) [ inl x ↦ absurd (gives_none e h h takes x.1) | inr same ↦ same ]

-- ---- what holds in each well-formed list

-- a hold is given back at most as often as it was taken; and while a thread has a hold, no other has one against it
pub record Sane (es : List Event) : Type 0 where
  pub covered : (t : ℕ) (h : Hold) → givings es t h ≤ takings es t h
  pub alone : (t u : ℕ) (h k : Hold) → Against h k → t ≢ u → givings es t h < takings es t h → takings es u k ≡ givings es u k

sane_none : Sane []
unfolding takings givings
sane_none = record { covered = λ t h. omega arith; alone = λ t u h k against other has. refl }

covered_more : (roots : ℕ → Bool) (es : List Event) (e : Event) → Sane es → MayHappen roots es e → (t : ℕ) (h : Hold) → givings (es ++ e ∷ []) t h ≤ takings (es ++ e ∷ []) t h
covered_more roots es e sane may t h = elim (giving_cases es e t h) [
  | inl x ↦
      (let has : givings es t h < takings es t h = subst (λ u. givings es u h < takings es u h) x.0 (may.held h x.1) in
      omega (arith, has, x.2, takings_grow es e t h))
  | inr same ↦ omega (arith, same, sane.covered t h, takings_grow es e t h)
]

alone_more : (roots : ℕ → Bool) (es : List Event) (e : Event) → Sane es → MayHappen roots es e
    → (t u : ℕ) (h k : Hold) → Against h k → t ≢ u → givings (es ++ e ∷ []) t h < takings (es ++ e ∷ []) t h → takings (es ++ e ∷ []) u k ≡ givings (es ++ e ∷ []) u k
alone_more roots es e sane may t u h k against other has = elim (taking_cases es e t h) [
  | inl x ↦
      (let apart : u ≢ thread_of e = λ same. other (sym x.0 ∙ sym same) in
      takings_of_others es e u k apart ∙ may.free h k x.1 against u apart ∙ sym (givings_of_others es e u k apart))
  | inr same ↦ kept (omega (arith, same, has, givings_grow es e t h))
]
  where
    kept : givings es t h < takings es t h → takings (es ++ e ∷ []) u k ≡ givings (es ++ e ∷ []) u k
    kept had = elim (taking_cases es e u k) [
      | inl x ↦
          (let none : takings es t h ≡ givings es t h = may.free k h x.1 (against_back h k against) t (λ same. other (same ∙ x.0)) in
          absurd (omega (arith, none, had)))
      | inr same ↦ elim (giving_cases es e u k) [
        | inl x ↦
            (let some : givings es u k < takings es u k = subst (λ v. givings es v k < takings es v k) x.0 (may.held k x.1) in
            absurd (omega (arith, some, sane.alone t u h k against other had)))
        | inr as_before ↦ same ∙ sane.alone t u h k against other had ∙ sym as_before
      ]
    ]

sane_from : (roots : ℕ → Bool) (before es : List Event) → Sane before → Follow roots before es → Sane (before ++ es)
sane_from roots before [] sane f = subst Sane (sym (append-nil before)) sane
sane_from roots before (e ∷ es) sane f =
    subst Sane (append_assoc before (e ∷ []) es)
    (sane_from roots (before ++ e ∷ []) es
    (record { covered = covered_more roots before e sane f.0; alone = alone_more roots before e sane f.0 })
    f.1)

-- each well-formed list is sane, and so is each front of it
pub formed_sane : (roots : ℕ → Bool) (es : List Event) → WellFormed roots es → Sane es
formed_sane roots es formed = sane_from roots [] es sane_none formed.follow

pub front_sane : (roots : ℕ → Bool) (es : List Event) (n : ℕ) → WellFormed roots es → Sane (take n es)
front_sane roots es n formed =
    formed_sane roots (take n es) (formed_front roots (take n es) (drop n es) (subst (WellFormed roots) (sym (take-append-drop n es)) formed))
