-- The tests of weaving tell what the definitions say.
use Rattle.std.proofs.Common.{◌≡◌, ◌≢◌, ◌⊎◌, ◌↔◌, inl, inr, ℕ, zero, suc, ◌+◌, ◌-◌, ◌<◌, ◌≤◌, ◌==◌, ◌&&◌, ◌||◌, not, nat_lt, Bool, true, false, cond, List, [], ◌∷◌, ◌++◌, length, count_by, Option, Some, None, Decides, refl, sym, ap, subst, ◌∙◌, arith, true≢false}
use Rattle.std.specs.Prelude.{IsTrue, find, slice_get}
use Rattle.std.specs.List.{list_all, range_with_len, sum_by}
use Rattle.std.proofs.lemmas.Bool.{cases_eq, cases_lt}
use Rattle.std.proofs.lemmas.Bool.Decides.{Decides-and, Decides-eqb, Decides-like, Decides-ltb, Decides-not, Decides-or, not_from_Decides}
use Rattle.std.proofs.lemmas.List.Sums.{sum_by-cons}
use Rattle.std.proofs.lemmas.Option.{none-some, same_Some, slice_get-get_or}
use Rattle.rd_event.specs.declared.events.Call.{Call as CallOf}
use Rattle.rd_event.specs.declared.events.Event.{Event}
use Rattle.rd_event.specs.declared.events.Event.TheVariants.{Fork, Join, Acquire, Release, Share, Unshare, Call}
use Rattle.rd_order.specs.EventLists.{IsKnownThread, MayHappen, calls, forks, givings, joins, takings}
use Rattle.rd_order.specs.Order.{Hold, call_in, exclusive, hold_given, hold_taken, joined_thread, shared, thread_of}
use Rattle.rd_order.proofs.EventListLemmas.{may_acquire, may_call, may_fork, may_join, may_release}
use Rattle.rd_weavings.specs.declared.spots.Spot.{Spot}
use Rattle.rd_weavings.specs.Logs.{AreLogs, IsSpot, Logs, IsPlaced, ThreadLog, acquires_of, event_at, given, log_at, next_spot, no_log, noted_event, woven}
use Rattle.rd_weavings.specs.Weavings.{ArePlaced, HaveOwnThreads, IsUsedUp, IsWeaving, MayGive, none, one_more}
use Rattle.rd_weavings.specs.WeaveTests.{is_lock_free, is_known, is_used_up, may_give, may_place, placed_in, turns_left, with_next, woven_first}
use Rattle.rd_weavings.proofs.PlacingLemmas.{Sound, call_told, calls_are, calls_it, given_other, given_own, goes_on, placed_all, sound}
use Rattle.rd_weavings.proofs.SameLemmas.{gives_by, gives_decides, givings_are, spot_within, takes_by, takes_decides, takings_are}
use Rattle.rd_weavings.proofs.SpotLemmas.{some_counted}

-- ---- lists

pub same_test : (b : Bool) → Decides b (b ≡ true)
same_test b = (λ h. h, λ h. h)

-- each number from a on passes
pub range_all : (p : ℕ → Bool) (a n : ℕ) → (list_all p (range_with_len a n) ≡ true) ↔ ((l : ℕ) → a ≤ l → l < a + n → p l ≡ true)
range_all p a zero = (λ h l from below. absurd (omega arith), λ h. refl)
range_all p a (suc n) = (
  λ h l from below. elim (cases_eq a l) [
    | inl same ↦ subst (λ l. p l ≡ true) same ((Decides-and (p a) _ (same_test (p a)) (same_test (list_all p (range_with_len (a + 1) n)))).0 h).0
    | inr differ ↦ (range_all p (a + 1) n).0 ((Decides-and (p a) _ (same_test (p a)) (same_test (list_all p (range_with_len (a + 1) n)))).0 h).1 l (omega arith) (omega arith)
  ],
  λ h. (Decides-and (p a) _ (same_test (p a)) (same_test (list_all p (range_with_len (a + 1) n)))).1 (
    h a (omega arith) (omega arith),
    (range_all p (a + 1) n).1 (λ l from below. h l (omega arith) (omega arith)),
  ),
)

logs_all : (p : ThreadLog → Bool) (xs : List ThreadLog) → (list_all p xs ≡ true) ↔ ((l : ℕ) (x : ThreadLog) → slice_get xs l ≡ Some x → p x ≡ true)
logs_all p [] = (λ h l x at. absurd (none-some x at), λ h. refl)
logs_all p (x ∷ xs) = (
  λ h l y at. by h l y at (logs_all p xs).0,
  λ h. (Decides-and (p x) _ (same_test (p x)) (same_test (list_all p xs))).1 (h 0 x refl, (logs_all p xs).1 (λ l y at. h (suc l) y at)),
)
  where
    by : (p x && list_all p xs) ≡ true → (l : ℕ) (y : ThreadLog) → slice_get (x ∷ xs) l ≡ Some y
        → (list_all p xs ≡ true → (l : ℕ) (y : ThreadLog) → slice_get xs l ≡ Some y → p y ≡ true) → p y ≡ true
    by h zero y at rest = subst (λ z. p z ≡ true) (same_Some x y at) ((Decides-and (p x) _ (same_test (p x)) (same_test (list_all p xs))).0 h).0
    by h (suc l) y at rest = rest ((Decides-and (p x) _ (same_test (p x)) (same_test (list_all p xs))).0 h).1 l y at

-- what is found passes, or nothing does
abbrev pub FoundIn : (ℕ → Bool) → ℕ → ℕ → Option ℕ → Type 0
FoundIn p a n None = (l : ℕ) → a ≤ l → l < a + n → p l ≡ false
FoundIn p a n (Some l) = p l ≡ true

wider : (p : ℕ → Bool) (a n : ℕ) (o : Option ℕ) → p a ≡ false → FoundIn p (a + 1) n o → FoundIn p a (suc n) o
wider p a n None is rest = λ l from below. elim (cases_eq a l) [ inl same ↦ subst (λ l. p l ≡ false) same is | inr differ ↦ rest l (omega arith) (omega arith) ]
wider p a n (Some l) is rest = rest

pub find_is : (p : ℕ → Bool) (a n : ℕ) → FoundIn p a n (find p (range_with_len a n))
find_is p a zero = λ l from below. absurd (omega arith)
find_is p a (suc n) = by (p a) refl (find_is p (a + 1) n)
  where
    by : (b : Bool) → p a ≡ b → FoundIn p (a + 1) n (find p (range_with_len (a + 1) n)) → FoundIn p a (suc n) (find p (range_with_len a (suc n)))
    by true is rest = subst (λ b. FoundIn p a (suc n) (cond b (Some a) (find p (range_with_len (a + 1) n)))) (sym is) is
    by false is rest = subst (λ b. FoundIn p a (suc n) (cond b (Some a) (find p (range_with_len (a + 1) n)))) (sym is) (wider p a n (find p (range_with_len (a + 1) n)) is rest)

-- ---- sums

sum_same : (f g : ℕ → ℕ) (a n : ℕ) → ((l : ℕ) → a ≤ l → f l ≡ g l) → sum_by f (range_with_len a n) ≡ sum_by g (range_with_len a n)
sum_same f g a zero same = refl
sum_same f g a (suc n) same =
    let rest : sum_by f (range_with_len (a + 1) n) ≡ sum_by g (range_with_len (a + 1) n) = sum_same f g (a + 1) n (λ l from. same l (omega arith)) in
    omega (arith, rest, same a (omega arith), sum_by-cons f a (range_with_len (a + 1) n), sum_by-cons g a (range_with_len (a + 1) n))

sum_less : (f g : ℕ → ℕ) (a n k : ℕ) → a ≤ k → k < a + n → f k + 1 ≡ g k → ((l : ℕ) → l ≢ k → f l ≡ g l) → sum_by f (range_with_len a n) + 1 ≡ sum_by g (range_with_len a n)
sum_less f g a zero k from below less same = absurd (omega arith)
sum_less f g a (suc n) k from below less same = by (cases_eq a k) (λ above. sum_less f g (a + 1) n k above (omega arith) less same)
  where
    by : (a ≡ k) ⊎ (a ≢ k) → (a + 1 ≤ k → sum_by f (range_with_len (a + 1) n) + 1 ≡ sum_by g (range_with_len (a + 1) n)) → sum_by f (range_with_len a (suc n)) + 1 ≡ sum_by g (range_with_len a (suc n))
    by (inl here) rest =
        let others : sum_by f (range_with_len (a + 1) n) ≡ sum_by g (range_with_len (a + 1) n) = sum_same f g (a + 1) n (λ l above. same l (λ is. omega arith)) in
        let this : f a + 1 ≡ g a = subst (λ l. f l + 1 ≡ g l) (sym here) less in
        omega (arith, others, this, sum_by-cons f a (range_with_len (a + 1) n), sum_by-cons g a (range_with_len (a + 1) n))
    by (inr differ) rest =
        omega (arith, rest (omega arith), same a differ, sum_by-cons f a (range_with_len (a + 1) n), sum_by-cons g a (range_with_len (a + 1) n))

sum_none : (f : ℕ → ℕ) (a n : ℕ) → sum_by f (range_with_len a n) ≡ 0 → (l : ℕ) → a ≤ l → l < a + n → f l ≡ 0
sum_none f a zero gone l from below = absurd (omega arith)
sum_none f a (suc n) gone l from below = elim (cases_eq a l) [
  | inl same ↦ subst (λ l. f l ≡ 0) same (omega (arith, gone, sum_by-cons f a (range_with_len (a + 1) n)))
  | inr differ ↦ sum_none f (a + 1) n (omega (arith, gone, sum_by-cons f a (range_with_len (a + 1) n))) l (omega arith) (omega arith)
]

sum_zero : (f : ℕ → ℕ) (a n : ℕ) → ((l : ℕ) → f l ≡ 0) → sum_by f (range_with_len a n) ≡ 0
sum_zero f a zero gone = refl
sum_zero f a (suc n) gone = omega (arith, gone a, sum_zero f (a + 1) n gone, sum_by-cons f a (range_with_len (a + 1) n))

-- ---- the tests

never_so : (a b : Bool) → (a && (b && false)) ≡ true → ⊥
never_so true true h = true≢false (sym h)
never_so true false h = true≢false (sym h)
never_so false b h = true≢false (sym h)

same_lock : (lock other : ℕ) → Some (exclusive lock) ≡ Some (exclusive other) → lock ≡ other
same_lock lock other h = cc

module _ (all : Logs) (logs : AreLogs all) (spots : List Spot) (is : Sound all spots) where
  abbrev W : List Event
  W = woven all spots

  known_decides : (t : ℕ) → Decides (is_known all.roots W t) (IsKnownThread all.roots W t)
  known_decides t = Decides-or (all.roots t) (nat_lt 0 (forks W t)) (same_test (all.roots t)) (Decides-ltb 0 (forks W t))

  none_if : (m : ℕ) → ¬ (0 < m) → m ≡ 0
  none_if m never = omega arith

  -- a thread that took or gave back the lock has a log
  uneven : (u : ℕ) (h : Hold) → takings W u h ≢ givings W u h → (s : Spot) × IsSpot all s × (thread_of (event_at all s) ≡ u)
  uneven u h differ = elim (cases_lt 0 (count_by (takes_by all u h) spots)) [
    | inl some ↦ let x = some_counted (takes_by all u h) spots some in (x.0, is.only x.0 x.1, ((takes_decides all u h x.0).0 x.2).0)
    | inr no_taker ↦ elim (cases_lt 0 (count_by (gives_by all u h) spots)) [
      | inl some ↦ let x = some_counted (gives_by all u h) spots some in (x.0, is.only x.0 x.1, ((gives_decides all u h x.0).0 x.2).0)
      | inr no_giver ↦ absurd (differ (omega (arith, no_taker, no_giver, takings_are all spots u h, givings_are all spots u h)))
    ]
  ]

  log_is : (l : ℕ) → l < length all.logs → slice_get all.logs l ≡ Some (log_at all l)
  log_is l inside = slice_get-get_or all.logs l no_log inside

  pub free_told : (t lock : ℕ) → Decides (is_lock_free all.logs W t lock) ((u : ℕ) → u ≢ t → takings W u (exclusive lock) ≡ givings W u (exclusive lock))
  free_told t lock = (
    λ h u differ. elim (cases_eq (takings W u (exclusive lock)) (givings W u (exclusive lock))) [
      | inl even ↦ even
      | inr odd ↦
          let x = uneven u (exclusive lock) odd in
          let thread : (log_at all x.0.log).thread ≡ u = sym (logs.own x.0 x.1) ∙ x.2 in
          let told = (logs_all (test lock t) all.logs).0 h x.0.log (log_at all x.0.log) (log_is x.0.log (spot_within all x.0 x.1)) in
          elim ((Decides-or _ _ (Decides-eqb (log_at all x.0.log).thread t)
          (Decides-eqb (takings W (log_at all x.0.log).thread (exclusive lock)) (givings W (log_at all x.0.log).thread (exclusive lock)))).0 told) [
            | inl own ↦ absurd (differ (sym thread ∙ own))
            | inr even ↦ subst (λ v. takings W v (exclusive lock) ≡ givings W v (exclusive lock)) thread even
          ]
    ],
    λ h. (logs_all (test lock t) all.logs).1 (λ l x at. (Decides-or _ _ (Decides-eqb x.thread t) (Decides-eqb (takings W x.thread (exclusive lock)) (givings W x.thread (exclusive lock)))).1
        (elim (cases_eq x.thread t) [ inl own ↦ inl own | inr differ ↦ inr (h x.thread differ) ])),
  )
    where
      test : ℕ → ℕ → ThreadLog → Bool
      test lock t log = (log.thread == t) || (takings W log.thread (exclusive lock) == givings W log.thread (exclusive lock))

  few_given : (l : ℕ) → given spots l ≤ length (log_at all l).events
  few_given l = elim (cases_lt (length (log_at all l).events) (given spots l)) [
    | inl many ↦
        let s : Spot = record { log = l; place = length (log_at all l).events } in
        absurd (let inside : length (log_at all l).events < length (log_at all l).events = is.only s (is.all_below s many) in omega arith)
    | inr few ↦ few
  ]

  pub used_told : (u : ℕ) → Decides (is_used_up all spots u) (IsUsedUp all spots u)
  used_told u = (
    λ h s is_s thread.
        let told = (range_all (test u) 0 (length all.logs)).0 h s.log (omega arith) (let inside = spot_within all s is_s in omega arith) in
        elim ((Decides-or _ _ (Decides-not _ (Decides-eqb (log_at all s.log).thread u)) (Decides-eqb (given spots s.log) (length (log_at all s.log).events))).0 told) [
          | inl differ ↦ absurd (differ thread)
          | inr whole ↦ is.all_below s (omega (arith, whole, is_s))
        ],
    λ used. (range_all (test u) 0 (length all.logs)).1 (λ l from below. (Decides-or _ _ (Decides-not _ (Decides-eqb (log_at all l).thread u))
        (Decides-eqb (given spots l) (length (log_at all l).events))).1
        (elim (cases_eq (log_at all l).thread u) [ inl same ↦ inr (all_given used l same) | inr differ ↦ inl differ ])),
  )
    where
      test : ℕ → ℕ → Bool
      test u l = not ((log_at all l).thread == u) || (given spots l == length (log_at all l).events)

      all_given : IsUsedUp all spots u → (l : ℕ) → (log_at all l).thread ≡ u → given spots l ≡ length (log_at all l).events
      all_given used l same = elim (cases_lt (given spots l) (length (log_at all l).events)) [
        | inl more ↦ absurd (let low = is.below (next_spot spots l) (used (next_spot spots l) more same) in omega arith)
        | inr none_left ↦ omega (arith, few_given l, none_left)
      ]

  -- what an event has to meet, told of the event
  abbrev FollowsAs : Event → ℕ → Type 0
  FollowsAs e number =
      MayHappen all.roots W e × ((call : CallOf) → call_in e ≡ Some call → IsTrue (all.declared call.object))
      × ((lock : ℕ) → hold_taken e ≡ Some (exclusive lock) → number ≡ acquires_of W lock + 1) × ((u : ℕ) → joined_thread e ≡ Some u → IsUsedUp all spots u)

  no_sharing : (u lock : ℕ) → takings W u (shared lock) ≡ givings W u (shared lock)
  no_sharing u lock = takings_are all spots u (shared lock) ∙ none_if _ no_taker ∙ sym (givings_are all spots u (shared lock) ∙ none_if _ no_giver)
    where
      no_taker : ¬ (0 < count_by (takes_by all u (shared lock)) spots)
      no_taker some = let x = some_counted (takes_by all u (shared lock)) spots some in logs.no_share x.0 lock (is.only x.0 x.1) ((takes_decides all u (shared lock) x.0).0 x.2).1

      no_giver : ¬ (0 < count_by (gives_by all u (shared lock)) spots)
      no_giver some = let x = some_counted (gives_by all u (shared lock)) spots some in logs.no_unshare x.0 lock (is.only x.0 x.1) ((gives_decides all u (shared lock) x.0).0 x.2).1

  place_decides : (e : Event) (number : ℕ) → ((lock : ℕ) → hold_taken e ≢ Some (shared lock)) → ((lock : ℕ) → hold_given e ≢ Some (shared lock))
      → ((call : CallOf) → call_in e ≡ Some call → (kind : ℕ) → kind ≢ call.kind → calls W call.object kind ≡ 0)
      → Decides (may_place all spots W (record { event = e; number = number })) (FollowsAs e number)
  place_decides (Fork t u) number a b kinds =
      Decides-like _
      (λ h. (may_fork all.roots W t u h.1.1 h.0 h.1.0, λ call at. absurd (none-some call at), λ lock at. absurd (none-some (exclusive lock) at), λ v at. absurd (none-some v at)))
      (λ f. (f.0.known_actor, (f.0.running, λ known. f.0.fresh u refl known)))
      (Decides-and _ _ (known_decides t) (Decides-and _ _ (Decides-eqb (joins W t) 0) (Decides-not _ (known_decides u))))
  place_decides (Join t u) number a b kinds =
      Decides-like _
      (λ h. (
        may_join all.roots W t u h.1.1.0 h.1.1.1.0 h.0 h.1.0,
        λ call at. absurd (none-some call at),
        λ lock at. absurd (none-some (exclusive lock) at),
        λ v at. subst (IsUsedUp all spots) (same_Some u v at) h.1.1.1.1,
      ))
      (λ f. (f.0.known_actor, (f.0.running, (f.0.known_joined u refl, (f.0.other_joined u refl, f.3 u refl)))))
      (Decides-and _ _ (known_decides t) (Decides-and _ _ (Decides-eqb (joins W t) 0) (Decides-and _ _ (known_decides u) (Decides-and _ _ (Decides-not _ (Decides-eqb u t)) (used_told u)))))
  place_decides (Acquire t lock) number a b kinds =
      Decides-like _
      (λ h. (
        may_acquire all.roots W t lock h.0 h.1.0 h.1.1.0 (λ u differ. no_sharing u lock),
        λ call at. absurd (none-some call at),
        λ l at. subst (λ m. number ≡ acquires_of W m + 1) (same_lock lock l at) h.1.1.1,
        λ v at. absurd (none-some v at),
      ))
      (λ f. (f.0.known_actor, (f.0.running, (λ u differ. f.0.free (exclusive lock) (exclusive lock) refl refl u differ, f.2 lock refl))))
      (Decides-and _ _ (known_decides t) (Decides-and _ _ (Decides-eqb (joins W t) 0) (Decides-and _ _ (free_told t lock) (Decides-eqb number (acquires_of W lock + 1)))))
  place_decides (Release t lock) number a b kinds =
      Decides-like _
      (λ h. (may_release all.roots W t lock h.0 h.1.0 h.1.1, λ call at. absurd (none-some call at), λ l at. absurd (none-some (exclusive l) at), λ v at. absurd (none-some v at)))
      (λ f. (f.0.known_actor, (f.0.running, f.0.held (exclusive lock) refl)))
      (Decides-and _ _ (known_decides t) (Decides-and _ _ (Decides-eqb (joins W t) 0) (Decides-ltb (givings W t (exclusive lock)) (takings W t (exclusive lock)))))
  place_decides (Share t lock) number a b kinds = (λ h. absurd (never_so _ _ h), λ f. absurd (a lock refl))
  place_decides (Unshare t lock) number a b kinds = (λ h. absurd (never_so _ _ h), λ f. absurd (b lock refl))
  place_decides (Call call) number a b kinds =
      Decides-like _
      (λ h. (
        may_call all.roots W call h.0 h.1.0 (kinds call refl),
        λ c at. subst (λ (d : CallOf). IsTrue (all.declared d.object)) (same_Some call c at) h.1.1,
        λ l at. absurd (none-some (exclusive l) at),
        λ v at. absurd (none-some v at),
      ))
      (λ f. (f.0.known_actor, (f.0.running, f.1 call refl)))
      (Decides-and _ _ (known_decides call.thread) (Decides-and _ _ (Decides-eqb (joins W call.thread) 0) (same_test (all.declared call.object))))

  kinds_alike : (s : Spot) → IsSpot all s → (call : CallOf) → call_in (event_at all s) ≡ Some call → (kind : ℕ) → kind ≢ call.kind → calls W call.object kind ≡ 0
  kinds_alike s is_s call at kind differ = none_if _ (λ some.
      let x = some_counted (calls_it all call.object kind) spots (omega (arith, some, calls_are all spots call.object kind)) in
      let told = call_told all (call_in (event_at all x.0)) call.object kind x.2 in
      differ (sym told.3 ∙ logs.one_kind x.0 s told.0 call (is.only x.0 x.1) is_s told.1 at told.2))

  pub give_decides : (log : ℕ) → Decides (may_give all spots log) (MayGive all spots log)
  give_decides log = by (nat_lt (given spots log) (length (log_at all log).events)) refl
    where
      by : (b : Bool) → nat_lt (given spots log) (length (log_at all log).events) ≡ b → Decides (may_give all spots log) (MayGive all spots log)
      by false outside = (
        λ h. absurd (true≢false (sym ((Decides-and _ _ (same_test (nat_lt (given spots log) (length (log_at all log).events))) (same_test (may_place all spots W (noted_event all (next_spot spots log))))).0 h).0 ∙ outside)),
        λ m. absurd (not_from_Decides _ (Decides-ltb (given spots log) (length (log_at all log).events)) outside m.inside),
      )
      by true inside =
          let is_s : IsSpot all (next_spot spots log) = (Decides-ltb (given spots log) (length (log_at all log).events)).0 inside in
          Decides-like _
          (λ h. record { inside = h.0; follow = record { happens = h.1.0; declared = h.1.1; numbered = h.1.2 }; ended = h.1.3 })
          (λ m. (m.inside, (m.follow.happens, m.follow.declared, m.follow.numbered, m.ended)))
          (Decides-and _ _ (Decides-ltb (given spots log) (length (log_at all log).events))
          (place_decides (event_at all (next_spot spots log)) (noted_event all (next_spot spots log)).number (λ lock. logs.no_share (next_spot spots log) lock is_s) (λ lock. logs.no_unshare (next_spot spots log) lock is_s)
          (kinds_alike (next_spot spots log) is_s)))

-- ---- the turns

-- with the next event of a log, one fewer is left
pub fewer_inside : (all : Logs) (spots : List Spot) (log : ℕ) → IsSpot all (next_spot spots log) → turns_left all (spots ++ next_spot spots log ∷ []) + 1 ≡ turns_left all spots
fewer_inside all spots log more =
    sum_less (λ l. length (log_at all l).events - given (spots ++ next_spot spots log ∷ []) l) (λ l. length (log_at all l).events - given spots l) 0 (length all.logs) log (omega arith)
    (let inside = spot_within all (next_spot spots log) more in omega (arith, inside))
    (omega (arith, more, given_own spots log))
    (λ l differ. ap (λ g. length (log_at all l).events - g) (given_other spots log l (λ same. differ (sym same))))

module _ (all : Logs) (logs : AreLogs all) where
  left_in : List Spot → ℕ → ℕ
  left_in spots l = length (log_at all l).events - given spots l

  no_log_gives : (spots : List Spot) → turns_left all spots ≡ 0 → (log : ℕ) → ¬ (MayGive all spots log)
  no_log_gives spots gone log may =
      let inside = spot_within all (next_spot spots log) may.inside in
      let nothing : length (log_at all log).events - given spots log ≡ 0 = sum_none (λ l. length (log_at all l).events - given spots l) 0 (length all.logs) gone log (omega arith) (omega (arith, inside)) in
      let more : given spots log < length (log_at all log).events = may.inside in
      omega arith

  pub fewer_left : (spots : List Spot) (log : ℕ) → MayGive all spots log → turns_left all (spots ++ next_spot spots log ∷ []) + 1 ≡ turns_left all spots
  fewer_left spots log may = fewer_inside all spots log may.inside

  turned : (turns : ℕ) (spots : List Spot) → ArePlaced all spots → turns_left all spots ≤ turns → ArePlaced all (placed_in all turns spots) × ((log : ℕ) → ¬ (MayGive all (placed_in all turns spots) log))
  turned zero spots placed few = (placed, no_log_gives spots (omega arith))
  turned (suc turns) spots placed few = by (find (may_give all spots) (range_with_len 0 (length all.logs))) (find_is (may_give all spots) 0 (length all.logs))
      (λ log may. turned turns (spots ++ next_spot spots log ∷ []) (one_more spots log placed may) (omega (arith, few, fewer_left spots log may)))
    where
      by : (o : Option ℕ) → FoundIn (may_give all spots) 0 (length all.logs) o
          → ((log : ℕ) → MayGive all spots log → ArePlaced all (placed_in all turns (spots ++ next_spot spots log ∷ [])) × ((l : ℕ) → ¬ (MayGive all (placed_in all turns (spots ++ next_spot spots log ∷ [])) l)))
          → ArePlaced all (with_next spots o (placed_in all turns)) × ((log : ℕ) → ¬ (MayGive all (with_next spots o (placed_in all turns)) log))
      by None fails go = (
        placed,
        λ log may. not_from_Decides (may_give all spots log) (give_decides all logs spots (sound all spots placed) log)
            (fails log (omega arith) (let inside = spot_within all (next_spot spots log) may.inside in omega (arith, inside))) may,
      )
      by (Some log) passes go = go log ((give_decides all logs spots (sound all spots placed) log).0 passes)

  pub end : ArePlaced all (woven_first all) × ((log : ℕ) → ¬ (MayGive all (woven_first all) log))
  unfolding woven_first
  end = turned (turns_left all []) [] none (omega arith)

  pub whole_of : turns_left all (woven_first all) ≡ 0 → (s : Spot) → IsSpot all s → IsPlaced (woven_first all) s
  whole_of gone s is_s =
      let inside = spot_within all s is_s in
      let nothing : length (log_at all s.log).events - given (woven_first all) s.log ≡ 0 =
      sum_none (λ l. length (log_at all l).events - given (woven_first all) l) 0 (length all.logs) gone s.log (omega arith) (omega (arith, inside)) in
      (sound all (woven_first all) end.0).all_below s (omega (arith, is_s, nothing))

  pub nothing_left : ((s : Spot) → IsSpot all s → IsPlaced (woven_first all) s) → turns_left all (woven_first all) ≡ 0
  nothing_left every = sum_zero (λ l. length (log_at all l).events - given (woven_first all) l) 0 (length all.logs) (λ l. elim (cases_lt (given (woven_first all) l) (length (log_at all l).events)) [
    | inl more ↦ absurd (let low = (sound all (woven_first all) end.0).below (next_spot (woven_first all) l) (every (next_spot (woven_first all) l) more) in omega arith)
    | inr past ↦ omega arith
  ])

  pub weaves : HaveOwnThreads all → IsWeaving all (woven_first all) ⊎ ((whole : List Spot) → ¬ (IsWeaving all whole))
  weaves apart = elim (cases_eq (turns_left all (woven_first all)) 0) [
    | inl gone ↦ inl (placed_all all (woven_first all) apart end.0 (whole_of gone))
    | inr some_left ↦ inr (λ whole weaving. elim (goes_on all (woven_first all) whole logs end.0 weaving) [
      | inl every ↦ some_left (nothing_left every)
      | inr more ↦ end.1 more.0 more.1
    ])
  ]
