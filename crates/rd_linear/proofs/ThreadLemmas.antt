-- The threads of events in the order of their numbers, and how their lanes are made.
use Rattle.std.proofs.Common.{◌≡◌, ◌≢◌, ◌↔◌, ◌<◌, ◌≤◌, ◌+◌, ◌-◌, ◌⊎◌, ◌==◌, ◌++◌, ℕ, zero, suc, Bool, cond, List, [], ◌∷◌, Some, length, slice_get, get_or, take, arith, inl, inr, refl, sym, ◌∙◌, ap, subst}
use Rattle.std.specs.Prelude.{insert, slice_set, Result, Ok, Err}
use Rattle.std.specs.Ordering.{nat_cmp}
use Rattle.std.specs.List.Sorted.{IsBinarySearchResult}
use Rattle.std.specs.List.{filter, range_with_len}
use Rattle.std.proofs.lemmas.Bool.{cases_eq, cases_lt, eq-eqb, ne_eqb}
use Rattle.std.proofs.lemmas.List.{append-nil, take_all}
use Rattle.std.proofs.lemmas.List.Elements.{filter-append}
use Rattle.std.proofs.lemmas.List.Sorted.{searched}
use Rattle.std.proofs.lemmas.Option.{none-some, same_Some, get_or_from_slice_get, slice_get-get_or, slice_get_within}
use Rattle.rd_event.specs.declared.events.Event.{Event}
use Rattle.rd_linear.specs.declared.lanes.Lane.{Lane}
use Rattle.rd_linear.specs.Lanes.{AreLanes, AreLanesBelow, AreThreadsBelow, HaveThreads, IsPlaceAdded, AreThreadsRising, places_below, thread_at, threads_in}
use Rattle.rd_linear.specs.Linear.{Stands}
use Rattle.rd_linear.proofs.LaneLemmas.{changed, thread_at_lane, threads_kept}
use Rattle.rd_linear.proofs.LinearLemmas.{take_one}

-- ---- one number more

inserted : (xs : List ℕ) (i y k z : ℕ) → i ≤ length xs → slice_get (insert xs i y) k ≡ Some z
    → ((k < i) × (slice_get xs k ≡ Some z)) ⊎ (((k ≡ i) × (z ≡ y)) ⊎ ((j : ℕ) × (k ≡ suc j) × (i ≤ j) × (slice_get xs j ≡ Some z)))
inserted [] zero y zero z le at = inr (inl (refl, sym (same_Some y z at)))
inserted [] zero y (suc k) z le at = absurd (none-some z at)
inserted [] (suc i) y k z le at = absurd (omega arith)
inserted (x ∷ xs) zero y zero z le at = inr (inl (refl, sym (same_Some y z at)))
inserted (x ∷ xs) zero y (suc k) z le at = inr (inr (k, refl, omega arith, at))
inserted (x ∷ xs) (suc i) y zero z le at = inl (omega arith, at)
inserted (x ∷ xs) (suc i) y (suc k) z le at = elim (inserted xs i y k z (omega arith) at) [
  | inl a ↦ (let l = a.0 in inl (omega (arith, l), a.1))
  | inr b ↦ elim b [
    | inl c ↦ inr (inl (ap suc c.0, c.1))
    | inr c ↦ (let l = c.2 in inr (inr (suc c.0, ap suc c.1, omega (arith, l), c.3)))
  ]
]

insert_here : (xs : List ℕ) (i y : ℕ) → i ≤ length xs → Stands (insert xs i y) y
insert_here [] zero y le = (0, refl)
insert_here [] (suc i) y le = absurd (omega arith)
insert_here (x ∷ xs) zero y le = (0, refl)
insert_here (x ∷ xs) (suc i) y le = let s = insert_here xs i y (omega arith) in (suc s.0, s.1)

insert_kept : (xs : List ℕ) (i y z : ℕ) → i ≤ length xs → Stands xs z → Stands (insert xs i y) z
insert_kept [] i y z le stands = absurd (none-some z stands.1)
insert_kept (x ∷ xs) zero y z le (j, at) = (suc j, at)
insert_kept (x ∷ xs) (suc i) y z le (zero, at) = (0, at)
insert_kept (x ∷ xs) (suc i) y z le (suc j, at) = let s = insert_kept xs i y z (omega arith) (j, at) in (suc s.0, s.1)

-- rising numbers don't fall
pub rising_orders : (xs : List ℕ) → AreThreadsRising xs → (i j : ℕ) → i ≤ j → j < length xs → get_or xs i 0 ≤ get_or xs j 0
rising_orders xs rising i j le inside = elim (cases_eq i j) [
  | inl same ↦ subst (λ k. get_or xs i 0 ≤ get_or xs k 0) same (omega arith)
  | inr apart ↦
      (let l = rising i j (get_or xs i 0) (get_or xs j 0) (omega (arith, le, apart)) (slice_get-get_or xs i 0 (omega (arith, le, inside))) (slice_get-get_or xs j 0 inside) in
      omega (arith, l))
]

-- a number that isn't there, between those below it and those above it
abbrev pub Gap : List ℕ → ℕ → ℕ → Type 0
Gap xs y at = (at ≤ length xs) × ((k : ℕ) → k < at → get_or xs k 0 < y) × ((k : ℕ) → at ≤ k → k < length xs → y < get_or xs k 0)

pub rising_inserted : (xs : List ℕ) (y at : ℕ) → AreThreadsRising xs → Gap xs y at → AreThreadsRising (insert xs at y)
rising_inserted xs y at rising (inside, lower, higher) i j t u less at_i at_j =
    by (inserted xs at y i t inside at_i) (inserted xs at y j u inside at_j)
  where
    below : (k z : ℕ) → k < at → slice_get xs k ≡ Some z → z < y
    below k z l is = subst (λ n. n < y) (get_or_from_slice_get xs k z 0 is) (lower k l)

    above : (k z : ℕ) → at ≤ k → slice_get xs k ≡ Some z → y < z
    above k z l is = subst (λ n. y < n) (get_or_from_slice_get xs k z 0 is) (higher k l (slice_get_within xs k z is))

    by : ((i < at) × (slice_get xs i ≡ Some t)) ⊎ (((i ≡ at) × (t ≡ y)) ⊎ ((a : ℕ) × (i ≡ suc a) × (at ≤ a) × (slice_get xs a ≡ Some t)))
        → ((j < at) × (slice_get xs j ≡ Some u)) ⊎ (((j ≡ at) × (u ≡ y)) ⊎ ((b : ℕ) × (j ≡ suc b) × (at ≤ b) × (slice_get xs b ≡ Some u))) → t < u
    by (inl p) (inl q) = rising i j t u less p.1 q.1
    by (inl p) (inr (inl q)) = subst (λ n. t < n) (sym q.1) (below i t p.0 p.1)
    by (inl p) (inr (inr (b, is, past, here))) = rising i b t u (let l = p.0 in omega (arith, l, past)) p.1 here
    by (inr (inl p)) (inl q) = (let e = p.0 in let l = q.0 in absurd (omega (arith, e, l, less)))
    by (inr (inl p)) (inr (inl q)) = (let e = p.0 in let l = q.0 in absurd (omega (arith, e, l, less)))
    by (inr (inl p)) (inr (inr (b, is, past, here))) = subst (λ n. n < u) (sym p.1) (above b u past here)
    by (inr (inr (a, is, past, here))) (inl q) = (let l = q.0 in absurd (omega (arith, is, past, l, less)))
    by (inr (inr (a, is, past, here))) (inr (inl q)) = (let l = q.0 in absurd (omega (arith, is, past, l, less)))
    by (inr (inr (a, is, past, here))) (inr (inr (b, is_too, past_too, here_too))) = rising a b t u (omega (arith, is, is_too, less)) here here_too

pub inserted_has : (xs : List ℕ) (y at : ℕ) → at ≤ length xs → (t : ℕ) → Stands (insert xs at y) t ↔ ((t ≡ y) ⊎ Stands xs t)
inserted_has xs y at inside t = (to, from)
  where
    to : Stands (insert xs at y) t → (t ≡ y) ⊎ Stands xs t
    to (k, is) = elim (inserted xs at y k t inside is) [
      | inl p ↦ inr (k, p.1)
      | inr q ↦ elim q [ inl here ↦ inl here.1 | inr r ↦ inr (r.0, r.3) ]
    ]

    from : (t ≡ y) ⊎ Stands xs t → Stands (insert xs at y) t
    from (inl same) = subst (Stands (insert xs at y)) (sym same) (insert_here xs at y inside)
    from (inr stands) = insert_kept xs at y t inside stands

pub found_has : (xs : List ℕ) (y at : ℕ) → (at < length xs) × (get_or xs at 0 ≡ y) → (t : ℕ) → Stands xs t ↔ ((t ≡ y) ⊎ Stands xs t)
found_has xs y at found t = (inr, from)
  where
    from : (t ≡ y) ⊎ Stands xs t → Stands xs t
    from (inl same) = (at, slice_get-get_or xs at 0 found.0 ∙ ap Some (found.1 ∙ sym same))
    from (inr stands) = stands

-- ---- the threads of events

pub no_threads : (es : List Event) (threads : List ℕ) → threads ≡ [] → AreThreadsBelow es 0 threads
no_threads es threads none = subst (AreThreadsBelow es 0) (sym none) (record {
  rising = λ i j t u less at. absurd (none-some t at);
  all = λ p below. absurd (omega (arith, below));
  only = λ t stands. absurd (none-some t stands.1);
})

-- the same threads, where one goes on
pub threads_same : (es : List Event) (n : ℕ) (threads : List ℕ) → AreThreadsBelow es n threads → 0 < n → thread_at es n ≡ thread_at es (n - 1) → AreThreadsBelow es (n + 1) threads
threads_same es n threads are some same = record {
  rising = are.rising;
  all = λ p below. elim (cases_eq p n) [
    | inl e ↦ subst (Stands threads) (sym (ap (thread_at es) e ∙ same)) (are.all (n - 1) (omega (arith, some)))
    | inr ne ↦ are.all p (omega (arith, below, ne))
  ];
  only = λ t stands. (let x = are.only t stands in let l = x.1 in (x.0, omega (arith, l), x.2));
}

pub threads_more : (es : List Event) (n t : ℕ) (old new : List ℕ) → AreThreadsBelow es n old → thread_at es n ≡ t → AreThreadsRising new
    → ((u : ℕ) → Stands new u ↔ ((u ≡ t) ⊎ Stands old u)) → AreThreadsBelow es (n + 1) new
threads_more es n t old new are of rising has = record { rising = rising; all = all; only = only }
  where
    all : (p : ℕ) → p < n + 1 → Stands new (thread_at es p)
    all p below = elim (cases_eq p n) [
      | inl last ↦ (has (thread_at es p)).1 (inl (ap (thread_at es) last ∙ of))
      | inr before ↦ (has (thread_at es p)).1 (inr (are.all p (omega (arith, below, before))))
    ]

    only : (u : ℕ) → Stands new u → (p : ℕ) × (p < n + 1) × (thread_at es p ≡ u)
    only u stands = elim ((has u).0 stands) [
      | inl last ↦ (n, omega arith, of ∙ sym last)
      | inr before ↦ (let x = are.only u before in let l = x.1 in (x.0, omega (arith, l), x.2))
    ]

-- ---- lanes without places

pub pushed_lane : (lanes : List Lane) (last : Lane) (i : ℕ) (lane : Lane) → slice_get (lanes ++ last ∷ []) i ≡ Some lane → (slice_get lanes i ≡ Some lane) ⊎ (lane ≡ last)
pushed_lane [] last zero lane is = inr (sym (same_Some last lane is))
pushed_lane [] last (suc i) lane is = absurd (none-some lane is)
pushed_lane (l ∷ ls) last zero lane is = inl is
pushed_lane (l ∷ ls) last (suc i) lane is = pushed_lane ls last i lane is

threads_pushed : (lanes : List Lane) (last : Lane) → threads_in (lanes ++ last ∷ []) ≡ threads_in lanes ++ last.thread ∷ []
threads_pushed [] last = refl
threads_pushed (l ∷ ls) last = ap (λ ts. l.thread ∷ ts) (threads_pushed ls last)

pub no_lanes : (es : List Event) (threads : List ℕ) (lanes : List Lane) → lanes ≡ [] → AreLanesBelow es 0 (take 0 threads) lanes
no_lanes es threads lanes none = subst (AreLanesBelow es 0 (take 0 threads)) (sym none) (record {
  threads_are = none_taken threads;
  each = λ i lane at. absurd (none-some lane at);
})
  where
    none_taken : (ts : List ℕ) → [] ≡ take 0 ts
    none_taken [] = refl
    none_taken (t ∷ ts) = refl

pub lane_pushed : (es : List Event) (threads : List ℕ) (at : ℕ) (lanes : List Lane) (last : Lane) → AreLanesBelow es 0 (take at threads) lanes → slice_get threads at ≡ Some last.thread
    → last.places.items ≡ [] → last.given ≡ 0 → AreLanesBelow es 0 (take (at + 1) threads) (lanes ++ last ∷ [])
lane_pushed es threads at lanes last are is empty given = record {
  threads_are = threads_pushed lanes last ∙ (ap (λ ts. ts ++ last.thread ∷ []) are.threads_are ∙ sym (take_one threads at last.thread is));
  each = λ i lane found. elim (pushed_lane lanes last i lane found) [
    | inl before ↦ are.each i lane before
    | inr same ↦ subst (λ (l : Lane). (l.places.items ≡ places_below es l.thread 0) × (l.given ≡ 0)) (sym same) (empty, given)
  ];
}

pub lanes_done : (es : List Event) (threads : List ℕ) (at : ℕ) (lanes : List Lane) → length threads ≤ at → AreLanesBelow es 0 (take at threads) lanes → AreLanesBelow es 0 threads lanes
lanes_done es threads at lanes past are = subst (λ ts. AreLanesBelow es 0 ts lanes) (take_all at threads past) are

pub other_events : (es fs : List Event) (threads : List ℕ) (lanes : List Lane) → AreLanesBelow es 0 threads lanes → AreLanesBelow fs 0 threads lanes
other_events es fs threads lanes are = record { threads_are = are.threads_are; each = are.each }

-- ---- one place more

range_more : (a n : ℕ) → range_with_len a (n + 1) ≡ range_with_len a n ++ (a + n) ∷ []
range_more a zero = ap (λ x. x ∷ []) (omega arith)
range_more a (suc n) = let e : suc n + 1 ≡ suc (n + 1) = omega arith in
    rw e (ap (λ l. a ∷ l) (range_more (a + 1) n ∙ ap (λ x. range_with_len (a + 1) n ++ x ∷ []) (omega arith)))

filter_more : (f : ℕ → Bool) (n : ℕ) → filter f (range_with_len 0 (n + 1)) ≡ filter f (range_with_len 0 n) ++ cond (f n) (n ∷ []) []
filter_more f n = ap (filter f) (range_more 0 n ∙ ap (λ x. range_with_len 0 n ++ x ∷ []) (omega arith)) ∙ filter-append f (range_with_len 0 n) (n ∷ [])

places_with : (es : List Event) (t n : ℕ) → thread_at es n ≡ t → places_below es t (n + 1) ≡ places_below es t n ++ n ∷ []
places_with es t n same = filter_more (λ p. thread_at es p == t) n ∙ ap (λ b. places_below es t n ++ cond b (n ∷ []) []) (eq-eqb (thread_at es n) t same)

places_without : (es : List Event) (t n : ℕ) → thread_at es n ≢ t → places_below es t (n + 1) ≡ places_below es t n
places_without es t n other = filter_more (λ p. thread_at es p == t) n
    ∙ (ap (λ b. places_below es t n ++ cond b (n ∷ []) []) (ne_eqb (thread_at es n) t other) ∙ append-nil (places_below es t n))

pub place_added : (es : List Event) (n at : ℕ) (threads : List ℕ) (old new : List Lane) → AreLanesBelow es n threads old → AreThreadsRising threads → (at < length threads) × (get_or threads at 0 ≡ thread_at es n)
    → IsPlaceAdded old new at n → AreLanesBelow es (n + 1) threads new
place_added es n at threads old new are rising found added = record {
  threads_are = added.0 ∙ are.threads_are;
  each = λ i lane is. one i lane (added.1 i lane is);
}
  where
    here : slice_get threads at ≡ Some (thread_at es n)
    here = slice_get-get_or threads at 0 found.0 ∙ ap Some found.1

    one : (i : ℕ) (lane : Lane) → (before : Lane) × (slice_get old i ≡ Some before) × (lane.thread ≡ before.thread) × (lane.given ≡ before.given)
        × (lane.places.items ≡ cond (i == at) (before.places.items ++ n ∷ []) before.places.items)
        → (lane.places.items ≡ places_below es lane.thread (n + 1)) × (lane.given ≡ 0)
    one i lane (before, is, thread, given, items) = (by, given ∙ (are.each i before is).1)
      where
        there : slice_get threads i ≡ Some before.thread
        there = ap (λ ts. slice_get ts i) (sym are.threads_are) ∙ thread_at_lane old i before is

        by : lane.places.items ≡ places_below es lane.thread (n + 1)
        by = elim (cases_eq i at) [
          | inl same ↦
              (let its : before.thread ≡ thread_at es n = same_Some before.thread (thread_at es n) (sym there ∙ (ap (slice_get threads) same ∙ here)) in
              items ∙ (ap (λ b. cond b (before.places.items ++ n ∷ []) before.places.items) (eq-eqb i at same)
              ∙ (ap (λ l. l ++ n ∷ []) (are.each i before is).0
              ∙ (sym (places_with es before.thread n (sym its)) ∙ ap (λ t. places_below es t (n + 1)) (sym thread)))))
          | inr apart ↦
              (let differs : thread_at es n ≢ before.thread = λ e. other i apart (there ∙ ap Some (sym e)) in
              items ∙ (ap (λ b. cond b (before.places.items ++ n ∷ []) before.places.items) (ne_eqb i at apart)
              ∙ ((are.each i before is).0
              ∙ (sym (places_without es before.thread n differs) ∙ ap (λ t. places_below es t (n + 1)) (sym thread)))))
        ]
          where
            other : (i : ℕ) → i ≢ at → ¬ (slice_get threads i ≡ Some (thread_at es n))
            other i apart also = elim (cases_lt i at) [
              | inl below ↦ (let l = rising i at (thread_at es n) (thread_at es n) below also here in omega (arith, l))
              | inr past ↦ (let l = rising at i (thread_at es n) (thread_at es n) (omega (arith, past, apart)) here also in omega (arith, l))
            ]

-- the lane that is written
pub place_put : (lanes : List Lane) (at place : ℕ) (old next : Lane) → slice_get lanes at ≡ Some old → next.thread ≡ old.thread → next.given ≡ old.given → next.places.items ≡ old.places.items ++ place ∷ []
    → IsPlaceAdded lanes (slice_set lanes at next) at place
place_put lanes at place old next is thread given items = (
  threads_kept lanes at old next is thread,
  λ i lane found. elim (changed lanes at next i lane found) [
    | inl here ↦ (
      old,
      ap (slice_get lanes) here.0 ∙ is,
      ap (λ (l : Lane). l.thread) here.1 ∙ thread,
      ap (λ (l : Lane). l.given) here.1 ∙ given,
      ap (λ (l : Lane). l.places.items) here.1 ∙ (items ∙ ap (λ b. cond b (old.places.items ++ place ∷ []) old.places.items) (sym (eq-eqb i at here.0))),
    )
    | inr there ↦ (lane, there.1, refl, refl, ap (λ b. cond b (lane.places.items ++ place ∷ []) lane.places.items) (sym (ne_eqb i at there.0)))
  ],
)

-- ---- what a search finds

pub gap_found : (xs slice : List ℕ) (y at : ℕ) → slice ≡ xs → AreThreadsRising xs → IsBinarySearchResult (λ z. nat_cmp z y) slice (Err at) → Gap xs y at
gap_found xs slice y at same rising is = searched xs y (Err at) (subst (λ l. IsBinarySearchResult (λ z. nat_cmp z y) l (Err at)) same is) (rising_orders xs rising)

pub hit_found : (xs slice : List ℕ) (y at : ℕ) → slice ≡ xs → AreThreadsRising xs → IsBinarySearchResult (λ z. nat_cmp z y) slice (Ok at) → (at < length xs) × (get_or xs at 0 ≡ y)
hit_found xs slice y at same rising is = searched xs y (Ok at) (subst (λ l. IsBinarySearchResult (λ z. nat_cmp z y) l (Ok at)) same is) (rising_orders xs rising)

pub gap_at : (xs slice : List ℕ) (y at : ℕ) (r : Result ℕ ℕ) → slice ≡ xs → AreThreadsRising xs → IsBinarySearchResult (λ z. nat_cmp z y) slice r → r ≡ Err at → Gap xs y at
gap_at xs slice y at r same rising told is = gap_found xs slice y at same rising (subst (IsBinarySearchResult (λ z. nat_cmp z y) slice) is told)

pub hit_at : (xs slice : List ℕ) (y at : ℕ) (r : Result ℕ ℕ) → slice ≡ xs → AreThreadsRising xs → IsBinarySearchResult (λ z. nat_cmp z y) slice r → r ≡ Ok at → (at < length xs) × (get_or xs at 0 ≡ y)
hit_at xs slice y at r same rising told is = hit_found xs slice y at same rising (subst (IsBinarySearchResult (λ z. nat_cmp z y) slice) is told)

-- a thread of an event is found
pub never_lacks : (es : List Event) (n at : ℕ) (threads : List ℕ) → HaveThreads es threads → n < length es → {t : ℕ} → t ≡ thread_at es n → Gap threads t at → ⊥
never_lacks es n at threads have inside of found =
    let gap = subst (λ t. Gap threads t at) of found in
    let s = have.all n inside in
    let is = get_or_from_slice_get threads s.0 (thread_at es n) 0 s.1 in
    elim (cases_lt s.0 at) [
      | inl below ↦ (let l = gap.1 s.0 below in omega (arith, l, is))
      | inr past ↦ (let l = gap.2 s.0 past (slice_get_within threads s.0 (thread_at es n) s.1) in omega (arith, l, is))
    ]

pub none_given : (es : List Event) (threads : List ℕ) (lanes : List Lane) → AreLanesBelow es (length es) threads lanes → AreLanes es [] lanes
none_given es threads lanes are i lane at = record {
  items_are = (are.each i lane at).0;
  given_stand = λ j p below found. (let none = (are.each i lane at).1 in absurd (omega (arith, none, below)));
  others_wait = λ j p past found stands. none-some p stands.1;
}
