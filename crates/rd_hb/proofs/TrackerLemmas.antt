-- What one event makes of what a tracker holds.
use Rattle.std.proofs.Common.{◌≡◌, ◌≢◌, ◌⊎◌, ◌≤◌, ◌<◌, ◌↔◌, inl, inr, ℕ, ◌+◌, ◌==◌, max, Bool, true, false, IsTrue, ◌||◌, List, [], ◌∷◌, ◌++◌, take, length, Option, Some, None, Result, Ok, Err, OnOk, refl, sym, ◌∙◌, ap, subst, arith}
use Rattle.std.specs.Prelude.{if◌then◌else◌, is_some, unwrap_or}
use Rattle.std.proofs.lemmas.Bool.{cases_Bool, cases_eq, eq-eqb, ne_eqb}
use Rattle.std.proofs.lemmas.Bool.Decides.{not_from_Decides}
use Rattle.std.proofs.lemmas.List.{get_or_past, length-append}
use Rattle.std.proofs.lemmas.List.Sums.{sum_by_push}
use Rattle.std.proofs.lemmas.Option.{none-some, same_Some}
use Rattle.rd_event.specs.declared.events.Call.{Call as CallOf}
use Rattle.rd_event.specs.declared.events.Event.{Event}
use Rattle.rd_event.specs.declared.events.Event.TheVariants.{Fork, Join, Acquire, Release, Share, Unshare, Call}
use Rattle.rd_clock.specs.Clock.{component, IsTick}
use Rattle.rd_clock.specs.declared.clock.Stamp.{Stamp}
use Rattle.rd_order.specs.EventLists.{forks, joins, IsKnownThread, MayHappen, WellFormed, threads_after, is_hold}
use Rattle.rd_order.specs.Order.{GivesBack, Hold, IsOf, exclusive, forked_thread, hold_given, joined_thread, shared, thread_of}
use Rattle.rd_order.specs.OrderTests.{is_this}
use Rattle.rd_order.proofs.CountsLemmas.{counts_all, counts_le}
use Rattle.rd_order.proofs.EventListLemmas.{exclusive_not_shared, forks_more, formed_more, known_later, known_more, may_follow_at}
use Rattle.rd_order.proofs.HoldLemmas.{hold_decides}
use Rattle.rd_order.proofs.OrderLemmas.{at_end}
use Rattle.rd_hb.specs.EventClocks.{IsClock, OwnNumber}
use Rattle.rd_hb.specs.Knows.{Carries, Knows, KnownCount}
use Rattle.rd_hb.specs.declared.tracker.Tracked.{Tracked}
use Rattle.rd_hb.specs.Tracker.{TrackedLocks, Tracking, clock_of, handed_by, known_to, last_stamp, no_thread, last_release, tracked_thread, unshared, IsLastRelease, IsNextEvent, IsStamp, TrackerStandsFor}
use Rattle.rd_hb.specs.TrackerParts.{news_of, clock_after, handed_after, heard_from, known_after, IsAlike, IsForked, IsCounted, IsHeard, IsLearnt, IsReleased, IsUnshared}
use Rattle.rd_hb.proofs.ClockLemmas.{is_of_longer, own_number_longer}
use Rattle.rd_hb.proofs.KeptLemmas.{tracked_push}
use Rattle.rd_hb.proofs.KnowsLemmas.{gives_longer, gives_within, last_is_of, other_gives}
use Rattle.rd_hb.proofs.NewsLemmas.{child_heard, covers_known, lock_heard}
use Rattle.rd_hb.proofs.TrackLemmas.{clock_step, handed_step, same_lock, same_share, known_step, known_bound, known_own, own_number_new}

-- ---- clocks

-- a clock after a tick
pub ticked : (old new : List ℕ) (t u : ℕ) → IsTick old new t → component new u ≡ (if u == t then component old u + 1 else component old u)
ticked old new t u is =
    elim (cases_eq u t) [
      | inl same ↦ rw (eq-eqb u t same) (subst (λ v. component new v ≡ component old v + 1) (sym same) is.ticked)
      | inr other ↦ rw (ne_eqb u t other) (is.others u other)
    ]

-- ---- the state

or_false : (b : Bool) → b ≡ (b || false)
or_false true = refl
or_false false = refl

or_true : (b : Bool) → IsTrue (b || true)
or_true true = refl
or_true false = refl

-- nothing is held at first
pub no_threads : TrackerStandsFor (record { threads = []; locks = record { releases = []; unshares = [] } }) (λ t. false) []
unfolding forks joins
no_threads = record {
  known = λ t. (λ inside. absurd (omega arith), λ known. elim known [ inl root ↦ absurd (cc) | inr begun ↦ absurd (omega (arith, begun)) ]);
  clocks = λ t u. refl;
  joined = λ t. (λ marked. absurd (cc), λ some. absurd (omega (arith, some)));
  locks = nothing_handed;
  releases = λ lock m gives. none-some gives.0 gives.1;
}
  where
    nothing_handed : (hold : Hold) (u : ℕ) → KnownCount [] (GivesBack [] hold) u (handed_by (record { releases = []; unshares = [] }) hold u)
    nothing_handed (exclusive lock) u = refl
    nothing_handed (shared lock) u = refl

-- a root more is held
pub root_stands : (old new : Tracking) (roots : ℕ → Bool) (thread : ℕ) (x : Tracked) → thread ≡ length old.threads → new.threads ≡ old.threads ++ x ∷ [] → new.locks ≡ old.locks
    → ((u : ℕ) → component x.clock u ≡ 0) → x.joined ≡ false → TrackerStandsFor old roots [] → TrackerStandsFor new (λ t. roots t || (t == thread)) []
unfolding forks joins
root_stands old new roots thread x numbered pushed same nothing running stands = record {
  known = λ t. (there t, back t);
  clocks = λ t u. elim (cases_eq t (length old.threads)) [
    | inl last ↦ ap (λ y. component y.clock u) (at_last t last) ∙ nothing u
    | inr other ↦ ap (λ y. component y.clock u) (at_other t other) ∙ stands.clocks t u
  ];
  joined = λ t. elim (cases_eq t (length old.threads)) [
    | inl last ↦ subst (λ b. IsTrue b ↔ (0 < joins [] t)) (sym (ap (λ y. y.joined) (at_last t last) ∙ running)) (λ marked. absurd (cc), λ some. absurd (omega (arith, some)))
    | inr other ↦ subst (λ b. IsTrue b ↔ (0 < joins [] t)) (sym (ap (λ y. y.joined) (at_other t other))) (stands.joined t)
  ];
  locks = λ hold u. subst (λ l. KnownCount [] (GivesBack [] hold) u (handed_by l hold u)) (sym same) (stands.locks hold u);
  releases = λ lock. subst (λ (l : TrackedLocks). IsLastRelease [] lock (last_release l.releases lock)) (sym same) (stands.releases lock);
}
  where
    at : (t : ℕ) → tracked_thread new.threads t ≡ (if t == length old.threads then x else tracked_thread old.threads t)
    at t = ap (λ ts. tracked_thread ts t) pushed ∙ tracked_push old.threads x t

    at_last : (t : ℕ) → t ≡ length old.threads → tracked_thread new.threads t ≡ x
    at_last t last = subst (λ b. tracked_thread new.threads t ≡ (if b then x else tracked_thread old.threads t)) (eq-eqb t (length old.threads) last) (at t)

    at_other : (t : ℕ) → t ≢ length old.threads → tracked_thread new.threads t ≡ tracked_thread old.threads t
    at_other t other = subst (λ b. tracked_thread new.threads t ≡ (if b then x else tracked_thread old.threads t)) (ne_eqb t (length old.threads) other) (at t)

    total : length new.threads ≡ length old.threads + 1
    total = ap length pushed ∙ length-append old.threads (x ∷ [])

    there : (t : ℕ) → t < length new.threads → IsKnownThread (λ v. roots v || (v == thread)) [] t
    there t inside = elim (cases_eq t thread) [
      | inl last ↦ inl (rw (eq-eqb t thread last) (or_true (roots t)))
      | inr other ↦ elim ((stands.known t).0 (omega (arith, inside, total, other, numbered))) [
        | inl root ↦ inl (rw root refl)
        | inr begun ↦ absurd (omega (arith, begun))
      ]
    ]

    old_root : (t : ℕ) → t ≢ thread → IsTrue (roots t || (t == thread)) → IsTrue (roots t)
    old_root t other root = or_false (roots t) ∙ subst (λ b. IsTrue (roots t || b)) (ne_eqb t thread other) root

    back : (t : ℕ) → IsKnownThread (λ v. roots v || (v == thread)) [] t → t < length new.threads
    back t (inr begun) = absurd (omega (arith, begun))
    back t (inl root) = elim (cases_eq t thread) [
      | inl last ↦ omega (arith, last, total, numbered)
      | inr other ↦ omega (arith, total, (stands.known t).1 (inl (old_root t other root)))
    ]

-- ---- a thread is begun

pub begins_push : (old : List Tracked) (thread child : ℕ) (clock : List ℕ) → child ≡ length old → IsTick (tracked_thread old thread).clock clock thread
    → IsForked thread child old (old ++ record { clock = clock; events = 0; joined = false } ∷ [])
begins_push old thread child clock numbered ticks = record {
  count = length-append old (record { clock = clock; events = 0; joined = false } ∷ []);
  others = λ t other. tracked_push old (record { clock = clock; events = 0; joined = false }) t ∙ rw (ne_eqb t (length old) (λ last. other (last ∙ sym numbered))) refl;
  clock = subst (λ x. IsTick (tracked_thread old thread).clock x.clock thread) (sym new) ticks;
  joined = ap (λ x. x.joined) new;
}
  where
    new : tracked_thread (old ++ record { clock = clock; events = 0; joined = false } ∷ []) child ≡ record { clock = clock; events = 0; joined = false }
    new = tracked_push old (record { clock = clock; events = 0; joined = false }) child ∙ rw (eq-eqb child (length old) numbered) refl

abbrev weight : Bool → ℕ
weight b = if b then 1 else 0

abbrev weighed : Option ℕ → ℕ → ℕ
weighed o n = if is_some o then n + 1 else n

-- ---- what an event makes of it, by numbers

-- what becomes of the locks, where the event has this stamp
pub record LocksAfter (e : Event) (old new : TrackedLocks) (stamp : Stamp) : Type 0 where
  pub released : (lock : ℕ) → hold_given e ≡ Some (exclusive lock) → (last : Stamp) × (last_release new.releases lock ≡ Some last) × IsAlike last stamp
  pub others : (lock : ℕ) → hold_given e ≢ Some (exclusive lock) → last_release new.releases lock ≡ last_release old.releases lock
  pub shares : (lock u : ℕ) → hold_given e ≡ Some (shared lock) → component (unshared new.unshares lock) u ≡ max (component (unshared old.unshares lock) u) (component stamp.clock u)
  pub other_shares : (lock u : ℕ) → hold_given e ≢ Some (shared lock) → component (unshared new.unshares lock) u ≡ component (unshared old.unshares lock) u

pub record Tracks (e : Event) (old new : Tracking) (stamp : Stamp) : Type 0 where
  pub thread : stamp.thread ≡ thread_of e
  pub number : stamp.number ≡ known_to old.threads (thread_of e) (thread_of e) + 1
  pub clock : (u : ℕ) → component stamp.clock u ≡ clock_after e (known_to old.threads) (handed_by old.locks) u
  pub known : (t u : ℕ) → known_to new.threads t u ≡ known_after e (known_to old.threads) (handed_by old.locks) t u
  pub count : length new.threads ≡ threads_after e (length old.threads)
  pub joined : (t : ℕ) → (tracked_thread new.threads t).joined ≡ ((tracked_thread old.threads t).joined || is_this (joined_thread e) t)
  pub locks : LocksAfter e old.locks new.locks stamp

-- nothing, where no hold is given back
pub locks_stay : (e : Event) (old new : TrackedLocks) (stamp : Stamp) → hold_given e ≡ None → new ≡ old → LocksAfter e old new stamp
locks_stay e old new stamp none same = record {
  released = λ lock gives. absurd (none-some (exclusive lock) (sym none ∙ gives));
  others = λ lock other. ap (λ (l : TrackedLocks). last_release l.releases lock) same;
  shares = λ lock u gives. absurd (none-some (shared lock) (sym none ∙ gives));
  other_shares = λ lock u other. ap (λ (l : TrackedLocks). component (unshared l.unshares lock) u) same;
}

-- a thread learns what the event takes in, and counts the event, which forks no thread
pub learnt_tracks : (e : Event) (old new : Tracking) (middle : List Tracked) (news : ℕ → ℕ) (stamp : Stamp) → forked_thread e ≡ None
    → ((u : ℕ) → news u ≡ news_of e (known_to old.threads) (handed_by old.locks) u) → news (thread_of e) ≤ known_to old.threads (thread_of e) (thread_of e)
    → IsLearnt (thread_of e) news (joined_thread e) old.threads middle → IsCounted (thread_of e) middle new.threads stamp → LocksAfter e old.locks new.locks stamp
    → Tracks e old new stamp
learnt_tracks e old new middle news stamp alone brings less learnt is locks = record {
  thread = is.thread_is;
  number = is.number ∙ ap (λ n. n + 1) (learnt.own (thread_of e) ∙ omega (arith, less));
  clock = λ u. ticked (tracked_thread middle (thread_of e)).clock stamp.clock (thread_of e) u is.clock ∙ met_at u;
  known = λ t u. elim (cases_eq t (thread_of e)) [
    | inl same ↦ rw (eq-eqb t (thread_of e) same)
        (ap (λ v. known_to new.threads v u) same ∙ ticked (tracked_thread middle (thread_of e)).clock (tracked_thread new.threads (thread_of e)).clock (thread_of e) u is.own ∙ met_at u)
    | inr apart ↦ rw (ne_eqb t (thread_of e) apart, alone) (ap (λ x. component x.clock u) (is.others t apart) ∙ ap (λ clock. component clock u) (learnt.others t apart))
  ];
  count = is.count ∙ learnt.count ∙ ap (λ o. weighed o (length old.threads)) (sym alone);
  joined = λ t. elim (cases_eq t (thread_of e)) [
    | inl same ↦ ap (λ v. (tracked_thread new.threads v).joined) same ∙ is.joined ∙ learnt.joined (thread_of e)
        ∙ ap (λ v. (tracked_thread old.threads v).joined || is_this (joined_thread e) v) (sym same)
    | inr apart ↦ ap (λ x. x.joined) (is.others t apart) ∙ learnt.joined t
  ];
  locks = locks;
}
  where
    met_at : (u : ℕ) → (if u == thread_of e then known_to middle (thread_of e) u + 1 else known_to middle (thread_of e) u) ≡ clock_after e (known_to old.threads) (handed_by old.locks) u
    met_at u = ap (λ n. if u == thread_of e then n + 1 else n) (learnt.own u ∙ ap (λ n. max (known_to old.threads (thread_of e) u) n) (brings u))

-- nothing is learnt
pub nothing_learnt : (thread : ℕ) (threads : List Tracked) → IsLearnt thread (λ u. 0) None threads threads
nothing_learnt thread threads = record {
  count = refl;
  own = λ u. omega arith;
  others = λ t other. refl;
  joined = λ t. or_false (tracked_thread threads t).joined;
}

-- a fork
pub fork_tracks : (thread child : ℕ) (old new : Tracking) (middle : List Tracked) (stamp : Stamp) → thread < length old.threads → child ≡ length old.threads
    → IsForked thread child old.threads middle → IsCounted thread middle new.threads stamp → new.locks ≡ old.locks → Tracks (Fork thread child) old new stamp
fork_tracks thread child old new middle stamp inside numbered begun is locks = record {
  thread = is.thread_is;
  number = is.number ∙ ap (λ x. component x.clock thread + 1) (begun.others thread apart);
  clock = λ u. ticked (tracked_thread old.threads thread).clock stamp.clock thread u (subst (λ x. IsTick x.clock stamp.clock thread) (begun.others thread apart) is.clock) ∙ met_at u;
  known = λ t u. elim (cases_eq t thread) [
    | inl same ↦ rw (eq-eqb t thread same) (ap (λ v. known_to new.threads v u) same
        ∙ ticked (tracked_thread old.threads thread).clock (tracked_thread new.threads thread).clock thread u (subst (λ x. IsTick x.clock (tracked_thread new.threads thread).clock thread) (begun.others thread apart) is.own)
        ∙ met_at u)
    | inr other ↦ rw (ne_eqb t thread other) (elim (cases_eq child t) [
      | inl last ↦ rw (eq-eqb child t last) (ap (λ x. component x.clock u) (is.others t other) ∙ ap (λ v. known_to middle v u) (sym last)
          ∙ ticked (tracked_thread old.threads thread).clock (tracked_thread middle child).clock thread u begun.clock ∙ met_at u)
      | inr former ↦ rw (ne_eqb child t former) (ap (λ x. component x.clock u) (is.others t other ∙ begun.others t (λ last. former (sym last))))
    ])
  ];
  count = is.count ∙ begun.count;
  joined = λ t. joined_at t ∙ or_false (tracked_thread old.threads t).joined;
  locks = locks_stay (Fork thread child) old.locks new.locks stamp refl locks;
}
  where
    met_at : (u : ℕ) → (if u == thread then known_to old.threads thread u + 1 else known_to old.threads thread u) ≡ clock_after (Fork thread child) (known_to old.threads) (handed_by old.locks) u
    met_at u = ap (λ n. if u == thread then n + 1 else n) (let same : known_to old.threads thread u ≡ max (known_to old.threads thread u) 0 = omega arith in same)

    apart : thread ≢ child
    apart same = absurd (omega (arith, same, inside, numbered))

    middle_at : (t : ℕ) → (tracked_thread middle t).joined ≡ (tracked_thread old.threads t).joined
    middle_at t = elim (cases_eq t child) [
      | inl last ↦ ap (λ v. (tracked_thread middle v).joined) last ∙ begun.joined ∙ ap (λ x. x.joined) (sym (get_or_past old.threads t no_thread (omega (arith, last, numbered))))
      | inr former ↦ ap (λ x. x.joined) (begun.others t former)
    ]

    joined_at : (t : ℕ) → (tracked_thread new.threads t).joined ≡ (tracked_thread old.threads t).joined
    joined_at t = elim (cases_eq t thread) [
      | inl same ↦ ap (λ v. (tracked_thread new.threads v).joined) same ∙ is.joined ∙ middle_at thread ∙ ap (λ v. (tracked_thread old.threads v).joined) (sym same)
      | inr other ↦ ap (λ x. x.joined) (is.others t other) ∙ middle_at t
    ]

-- ---- the known threads after an event, where those before it have the numbers below one, and a forked thread has that one

pub known_after_event : (roots : ℕ → Bool) (es : List Event) (e : Event) (threads : ℕ) → ((t : ℕ) → (t < threads) ↔ IsKnownThread roots es t)
    → ((u : ℕ) → forked_thread e ≡ Some u → u ≡ threads) → (t : ℕ) → (t < threads_after e threads) ↔ IsKnownThread roots (es ++ e ∷ []) t
known_after_event roots es e threads known numbered t = (there (forked_thread e) refl, back (forked_thread e) refl)
  where
    there : (o : Option ℕ) → forked_thread e ≡ o → t < threads_after e threads → IsKnownThread roots (es ++ e ∷ []) t
    there None none inside = known_more roots es e t ((known t).0 (omega (arith, inside, ap (λ o. weighed o threads) none)))
    there (Some u) some inside = elim (cases_eq u t) [
      | inl same ↦ inr (omega (arith, forks_more es e t, ap weight (ap (λ o. is_this o t) some ∙ eq-eqb u t same)))
      | inr other ↦ known_more roots es e t ((known t).0 (omega (arith, inside, other, numbered u some, ap (λ o. weighed o threads) some)))
    ]

    back : (o : Option ℕ) → forked_thread e ≡ o → IsKnownThread roots (es ++ e ∷ []) t → t < threads_after e threads
    back None none (inl root) = omega (arith, (known t).1 (inl root), ap (λ o. weighed o threads) none)
    back None none (inr now) =
        omega (arith, (known t).1 (inr (omega (arith, now, forks_more es e t, ap weight (ap (λ o. is_this o t) none)))), ap (λ o. weighed o threads) none)
    back (Some u) some (inl root) = omega (arith, (known t).1 (inl root), ap (λ o. weighed o threads) some)
    back (Some u) some (inr now) = elim (cases_eq u t) [
      | inl same ↦ omega (arith, same, numbered u some, ap (λ o. weighed o threads) some)
      | inr other ↦ omega (
        arith,
        (known t).1 (inr (omega (arith, now, forks_more es e t, ap weight (ap (λ o. is_this o t) some ∙ ne_eqb u t other)))),
        ap (λ o. weighed o threads) some,
      )
    ]

-- ---- what the tracker stands for then

pub stamp_after : (old new : Tracking) (es : List Event) (e : Event) (stamp : Stamp)
    → ((t u : ℕ) → KnownCount es (Carries es t) u (known_to old.threads t u)) → ((hold : Hold) (u : ℕ) → KnownCount es (GivesBack es hold) u (handed_by old.locks hold u))
    → Tracks e old new stamp → IsStamp (es ++ e ∷ []) (length es) stamp
stamp_after old new es e stamp threads locks is = record {
  thread = λ f at. is.thread ∙ ap (λ o. thread_of (unwrap_or o e)) (sym (at_end es e) ∙ at);
  number = own_number;
  clock = λ u. subst (λ n. IsClock (es ++ e ∷ []) (length es) u n) (sym (is.clock u)) (clock_step es e (known_to old.threads) (handed_by old.locks) threads locks u);
}
  where
    own_number : OwnNumber (es ++ e ∷ []) stamp.thread (length es) stamp.number
    own_number =
        subst (λ t. OwnNumber (es ++ e ∷ []) t (length es) stamp.number) (sym is.thread)
        (subst (λ n. OwnNumber (es ++ e ∷ []) (thread_of e) (length es) n) (sym is.number)
        (own_number_new es e (known_to old.threads (thread_of e) (thread_of e)) (threads (thread_of e) (thread_of e))))

joins_more : (es : List Event) (e : Event) (t : ℕ) → joins (es ++ e ∷ []) t ≡ joins es t + (if is_this (joined_thread e) t then 1 else 0)
unfolding joins
joins_more es e t = sum_by_push (λ x. if is_this (joined_thread x) t then 1 else 0) es e

joined_more : (b c : Bool) (n m : ℕ) → (IsTrue b ↔ (0 < n)) → m ≡ n + (if c then 1 else 0) → IsTrue (b || c) ↔ (0 < m)
joined_more true c n m is more = (λ x. omega (arith, is.0 x, more), λ some. is.1 (is.0 search))
joined_more false true n m is more = (λ x. omega (arith, more), λ some. search)
joined_more false false n m is more = (λ x. omega (arith, is.0 x, more), λ some. is.1 (omega (arith, some, more)))

-- what is known where holds were given back, by numbers
handed_is : (e : Event) (old new : Tracking) (stamp : Stamp) → Tracks e old new stamp
    → (hold : Hold) (u : ℕ) → handed_by new.locks hold u ≡ handed_after e (known_to old.threads) (handed_by old.locks) hold u
handed_is e old new stamp is (exclusive lock) u = elim (cases_Bool (is_hold (hold_given e) (exclusive lock))) [
  | inl holds ↦
      (let x = is.locks.released lock ((hold_decides (hold_given e) (exclusive lock)).0 holds) in
      rw holds (ap (λ o. component (clock_of o) u) x.1 ∙ x.2.clock u ∙ is.clock u))
  | inr fails ↦ rw fails
      (ap (λ o. component (clock_of o) u) (is.locks.others lock (not_from_Decides (is_hold (hold_given e) (exclusive lock)) (hold_decides (hold_given e) (exclusive lock)) fails)))
]
handed_is e old new stamp is (shared lock) u = elim (cases_Bool (is_hold (hold_given e) (shared lock))) [
  | inl holds ↦ rw holds
      (is.locks.shares lock u ((hold_decides (hold_given e) (shared lock)).0 holds) ∙ ap (λ n. max (component (unshared old.locks.unshares lock) u) n) (is.clock u))
  | inr fails ↦ rw fails (is.locks.other_shares lock u (not_from_Decides (is_hold (hold_given e) (shared lock)) (hold_decides (hold_given e) (shared lock)) fails))
]

-- the last release of a lock is still the last one where no event gives it back
release_stays : (es : List Event) (e : Event) (lock : ℕ) (o : Option Stamp) → hold_given e ≢ Some (exclusive lock) → IsLastRelease es lock o → IsLastRelease (es ++ e ∷ []) lock o
release_stays es e lock None other none = λ m gives. none m (other_gives es e (exclusive lock) other m gives).1
release_stays es e lock (Some stamp) other (place, is) =
    let inside : place < length es = gives_within es (exclusive lock) place is.gives in (
      place,
      record {
        gives = gives_longer es (e ∷ []) (exclusive lock) place is.gives;
        last = λ m gives. is.last m (other_gives es e (exclusive lock) other m gives).1;
        thread = is_of_longer es (e ∷ []) stamp.thread place is.thread;
        number = (own_number_longer es (e ∷ []) stamp.thread place stamp.number inside).0 is.number;
      },
    )

-- and the event itself is where it does
release_is_last : (es : List Event) (e : Event) (lock : ℕ) (stamp : Stamp) → hold_given e ≡ Some (exclusive lock) → stamp.thread ≡ thread_of e
    → OwnNumber (es ++ e ∷ []) stamp.thread (length es) stamp.number → IsLastRelease (es ++ e ∷ []) lock (Some stamp)
release_is_last es e lock stamp gives same own = (
  length es,
  record {
    gives = (e, at_end es e, gives);
    last = λ m back. (let inside : m < length (es ++ e ∷ []) = gives_within (es ++ e ∷ []) (exclusive lock) m back in omega (arith, inside, length-append es (e ∷ [])));
    thread = subst (λ t. IsOf (es ++ e ∷ []) t (length es)) (sym same) (last_is_of es e);
    number = own;
  },
)

releases_after : (old new : Tracking) (roots : ℕ → Bool) (es : List Event) (e : Event) (stamp : Stamp) → TrackerStandsFor old roots es → Tracks e old new stamp
    → (lock : ℕ) → IsLastRelease (es ++ e ∷ []) lock (last_release new.locks.releases lock)
releases_after old new roots es e stamp stands is lock = elim (cases_Bool (is_hold (hold_given e) (exclusive lock))) [
  | inl holds ↦
      (let gives = (hold_decides (hold_given e) (exclusive lock)).0 holds in
      let x = is.locks.released lock gives in
      let own = (stamp_after old new es e stamp stands.clocks stands.locks is).number in
      subst (IsLastRelease (es ++ e ∷ []) lock) (sym x.1)
      (release_is_last es e lock x.0 gives (x.2.thread ∙ is.thread)
      (subst (λ t. OwnNumber (es ++ e ∷ []) t (length es) x.0.number) (sym x.2.thread) (subst (OwnNumber (es ++ e ∷ []) stamp.thread (length es)) (sym x.2.number) own))))
  | inr fails ↦
      (let other = not_from_Decides (is_hold (hold_given e) (exclusive lock)) (hold_decides (hold_given e) (exclusive lock)) fails in
      subst (IsLastRelease (es ++ e ∷ []) lock) (sym (is.locks.others lock other)) (release_stays es e lock (last_release old.locks.releases lock) other (stands.releases lock)))
]

-- the list is well-formed before the next event, which may follow it
next_formed : (old : Tracking) (roots : ℕ → Bool) (es : List Event) (e : Event) → IsNextEvent old roots es e → WellFormed roots es
next_formed old roots es e next = ((formed_more roots es e).0 next.formed).0

next_follows : (old : Tracking) (roots : ℕ → Bool) (es : List Event) (e : Event) → IsNextEvent old roots es e → MayHappen roots es e
next_follows old roots es e next = ((formed_more roots es e).0 next.formed).1

pub stands_after : (old new : Tracking) (roots : ℕ → Bool) (es : List Event) (e : Event) (stamp : Stamp)
    → IsNextEvent old roots es e → Tracks e old new stamp → TrackerStandsFor new roots (es ++ e ∷ [])
stands_after old new roots es e stamp next is = record {
  known = λ t. subst (λ n. (t < n) ↔ IsKnownThread roots (es ++ e ∷ []) t) (sym is.count) (known_after_event roots es e (length old.threads) next.stands.known next.numbered t);
  clocks = λ t u. subst (KnownCount (es ++ e ∷ []) (Carries (es ++ e ∷ []) t) u) (sym (is.known t u))
      (known_step roots es e (known_to old.threads) (handed_by old.locks) (next_formed old roots es e next) (next_follows old roots es e next) next.stands.clocks next.stands.locks t u);
  joined = λ t. subst (λ b. IsTrue b ↔ (0 < joins (es ++ e ∷ []) t)) (sym (is.joined t))
      (joined_more (tracked_thread old.threads t).joined (is_this (joined_thread e) t) (joins es t) (joins (es ++ e ∷ []) t) (next.stands.joined t) (joins_more es e t));
  locks = λ hold u. subst (KnownCount (es ++ e ∷ []) (GivesBack (es ++ e ∷ []) hold) u) (sym (handed_is e old new stamp is hold u))
      (handed_step roots es e (known_to old.threads) (handed_by old.locks) next.formed next.stands.clocks next.stands.locks hold u);
  releases = releases_after old new roots es e stamp next.stands is;
}

-- ---- what a next event may rely on

pub next_inside : (old : Tracking) (roots : ℕ → Bool) (es : List Event) (e : Event) → IsNextEvent old roots es e → thread_of e < length old.threads
next_inside old roots es e next = (next.stands.known (thread_of e)).1 (next_follows old roots es e next).known_actor

pub next_joined : (old : Tracking) (roots : ℕ → Bool) (es : List Event) (e : Event) (u : ℕ) → IsNextEvent old roots es e → joined_thread e ≡ Some u → u < length old.threads
next_joined old roots es e u next join = (next.stands.known u).1 ((next_follows old roots es e next).known_joined u join)

-- no event makes a thread unknown
pub threads_stay : (e : Event) (count : ℕ) → count ≤ threads_after e count
threads_stay e count = by (is_some (forked_thread e))
  where
    by : (b : Bool) → count ≤ (if b then count + 1 else count)
    by true = omega arith
    by false = omega arith

pub next_apart : (old : Tracking) (roots : ℕ → Bool) (es : List Event) (e : Event) (u : ℕ) → IsNextEvent old roots es e → joined_thread e ≡ Some u → u ≢ thread_of e
next_apart old roots es e u next join = (next_follows old roots es e next).other_joined u join

-- a thread doesn't join itself, so there are two
pub next_two : (old : Tracking) (roots : ℕ → Bool) (es : List Event) (e : Event) (u : ℕ) → IsNextEvent old roots es e → joined_thread e ≡ Some u → 2 ≤ length old.threads
next_two old roots es e u next join =
    omega (arith, next_inside old roots es e next, next_joined old roots es e u next join, (next_follows old roots es e next).other_joined u join)

pub next_below : (old : Tracking) (roots : ℕ → Bool) (es : List Event) (e : Event) (t u : ℕ) → IsNextEvent old roots es e → known_to old.threads t u < 4294967295
next_below old roots es e t u next =
    omega (arith, known_bound es (Carries es t) u (known_to old.threads t u) (next.stands.clocks t u), next.formed.bounded.few_events, length-append es (e ∷ []))

-- a forked thread has a number that fits, with one to spare
pub next_child : (old : Tracking) (roots : ℕ → Bool) (es : List Event) (e : Event) (u : ℕ) → IsNextEvent old roots es e → forked_thread e ≡ Some u → u < 4294967295
next_child old roots es e u next fork =
    let after = threads_after e (length old.threads) in
    let each = known_after_event roots es e (length old.threads) next.stands.known next.numbered in
    omega (
      arith,
      next.numbered u fork,
      ap (λ o. weighed o (length old.threads)) fork,
      next.formed.bounded.few_threads after after (counts_all (IsKnownThread roots (es ++ e ∷ [])) after (λ t inside. (each t).0 inside)),
    )

-- no thread and no lock knows more events of a thread than that one had
own_most : (old : Tracking) (roots : ℕ → Bool) (es : List Event) (P : ℕ → Type 0) (u c : ℕ) → TrackerStandsFor old roots es → KnownCount es P u c → c ≤ known_to old.threads u u
own_most old roots es P u c stands counts =
    counts_le (λ k. IsOf es u k × Knows es P k) (IsOf es u) (length es) c (known_to old.threads u u) (λ k l x. x.0)
    counts ((known_own es u (known_to old.threads u u)).0 (stands.clocks u u))

pub child_most : (old : Tracking) (roots : ℕ → Bool) (es : List Event) (t u : ℕ) → TrackerStandsFor old roots es → known_to old.threads t u ≤ known_to old.threads u u
child_most old roots es t u stands = own_most old roots es (Carries es t) u (known_to old.threads t u) stands (stands.clocks t u)

pub lock_most : (old : Tracking) (roots : ℕ → Bool) (es : List Event) (hold : Hold) (u : ℕ) → TrackerStandsFor old roots es → handed_by old.locks hold u ≤ known_to old.threads u u
lock_most old roots es hold u stands = own_most old roots es (GivesBack es hold) u (handed_by old.locks hold u) stands (stands.locks hold u)

pub both_most : (old : Tracking) (roots : ℕ → Bool) (es : List Event) (lock u : ℕ) → TrackerStandsFor old roots es → heard_from old.locks lock u ≤ known_to old.threads u u
both_most old roots es lock u stands =
    omega (arith, lock_most old roots es (exclusive lock) u stands, lock_most old roots es (shared lock) u stands)

-- what brings no news
pub child_no_news : (old : Tracking) (roots : ℕ → Bool) (es : List Event) (e : Event) (t w : ℕ) → IsNextEvent old roots es e
    → 0 < known_to old.threads w w → known_to old.threads w w ≤ known_to old.threads t w → (u : ℕ) → known_to old.threads w u ≤ known_to old.threads t u
child_no_news old roots es e t w next =
    child_heard roots es (Carries es t) w (known_to old.threads t) (known_to old.threads w) (next_formed old roots es e next) (next.stands.clocks t) (next.stands.clocks w)

pub lock_no_news : (old : Tracking) (roots : ℕ → Bool) (es : List Event) (e : Event) (t lock : ℕ) → IsNextEvent old roots es e
    → IsHeard (last_release old.locks.releases lock) (tracked_thread old.threads t).clock → (u : ℕ) → handed_by old.locks (exclusive lock) u ≤ known_to old.threads t u
lock_no_news old roots es e t lock next =
    lock_heard roots es (Carries es t) lock (last_release old.locks.releases lock) (tracked_thread old.threads t).clock (next_formed old roots es e next)
    (next.stands.releases lock) (next.stands.clocks t) (next.stands.locks (exclusive lock))

-- news comes from another thread, so there are two
pub lock_news : (old : Tracking) (roots : ℕ → Bool) (es : List Event) (e : Event) (t lock : ℕ) → IsNextEvent old roots es e → t < length old.threads
    → IsHeard (last_release old.locks.releases lock) (tracked_thread old.threads t).clock ⊎ (2 ≤ length old.threads)
lock_news old roots es e t lock next inside = by (last_release old.locks.releases lock) (next.stands.releases lock)
  where
    by : (o : Option Stamp) → IsLastRelease es lock o → IsHeard o (tracked_thread old.threads t).clock ⊎ (2 ≤ length old.threads)
    by None none = inl tt
    by (Some stamp) (place, is) = elim (cases_eq stamp.thread t) [
      | inl same ↦
          inl ((covers_known es (Carries es t) stamp.thread place stamp.number (known_to old.threads t stamp.thread) is.thread is.number (next.stands.clocks t stamp.thread)).1
          (inl (inl (subst (λ v. IsOf es v place) same is.thread))))
      | inr other ↦
          (let acted : IsKnownThread roots es stamp.thread =
          known_later roots es place stamp.thread
          (subst (IsKnownThread roots (take place es)) is.thread.2 (may_follow_at roots es place is.thread.0 (next_formed old roots es e next) is.thread.1).known_actor) in
          let there : stamp.thread < length old.threads = (next.stands.known stamp.thread).1 acted in
          inr (omega (arith, other, there, inside)))
    ]

-- ---- the answer

-- by its parts for each list after which this is the next event; the stamp is what is held of the event's thread
abbrev pub Taken : Tracking → Tracking → Event → Type 0
Taken old new e = (roots : ℕ → Bool) (es : List Event) → IsNextEvent old roots es e → Tracks e old new (last_stamp new.threads (thread_of e))

abbrev pub Answers : {A E : Type 0} → Tracking → Tracking → Event → Result A E → Type 0
Answers old new e result = OnOk result (Taken old new e)

pub stamp_taken : (old new : Tracking) (e : Event) → Taken old new e
    → (roots : ℕ → Bool) (es : List Event) → IsNextEvent old roots es e → IsStamp (es ++ e ∷ []) (length es) (last_stamp new.threads (thread_of e))
stamp_taken old new e is roots es next = stamp_after old new es e (last_stamp new.threads (thread_of e)) next.stands.clocks next.stands.locks (is roots es next)

pub stands_taken : (old new : Tracking) (e : Event) → Taken old new e
    → (roots : ℕ → Bool) (es : List Event) → IsNextEvent old roots es e → TrackerStandsFor new roots (es ++ e ∷ [])
stands_taken old new e is roots es next = stands_after old new roots es e (last_stamp new.threads (thread_of e)) next (is roots es next)

pub ok_stamp : {A E : Type 0} (old new : Tracking) (e : Event) (result : Result A E) → Answers old new e result
    → OnOk result ((roots : ℕ → Bool) (es : List Event) → IsNextEvent old roots es e → IsStamp (es ++ e ∷ []) (length es) (last_stamp new.threads (thread_of e)))
ok_stamp old new e (Ok value) is = stamp_taken old new e is
ok_stamp old new e (Err error) is = tt

pub ok_stands : {A E : Type 0} (old new : Tracking) (e : Event) (result : Result A E) → Answers old new e result
    → OnOk result ((roots : ℕ → Bool) (es : List Event) → IsNextEvent old roots es e → TrackerStandsFor new roots (es ++ e ∷ []))
ok_stands old new e (Ok value) is = stands_taken old new e is
ok_stands old new e (Err error) is = tt

pub call_taken : (old new : Tracking) (call : CallOf) → IsCounted call.thread old.threads new.threads (last_stamp new.threads call.thread)
    → new.locks ≡ old.locks → Taken old new (Call call)
call_taken old new call is locks = λ roots es next.
    learnt_tracks (Call call) old new old.threads (λ u. 0) (last_stamp new.threads call.thread) refl (λ u. refl) (omega arith) (nothing_learnt call.thread old.threads) is
    (locks_stay (Call call) old.locks new.locks (last_stamp new.threads call.thread) refl locks)

pub ok_release : {A E : Type 0} (old new : Tracking) (thread lock : ℕ) (result : Result A E)
    → OnOk result (IsCounted thread old.threads new.threads (last_stamp new.threads thread))
    → OnOk result (IsReleased lock old.locks.releases new.locks.releases (last_stamp new.threads thread))
    → new.locks.unshares ≡ old.locks.unshares → Answers old new (Release thread lock) result
ok_release old new thread lock (Ok value) is gives same = λ roots es next.
    learnt_tracks (Release thread lock) old new old.threads (λ u. 0) (last_stamp new.threads thread) refl (λ u. refl) (omega arith) (nothing_learnt thread old.threads) is
    (record {
      released = λ l this. subst (λ m. (last : Stamp) × (last_release new.locks.releases m ≡ Some last) × IsAlike last (last_stamp new.threads thread))
          (same_lock lock l (same_Some (exclusive lock) (exclusive l) this)) gives.given;
      others = λ l other. gives.others l (λ this. other (ap (λ m. Some (exclusive m)) (sym this)));
      shares = λ l u this. absurd (exclusive_not_shared lock l (same_Some (exclusive lock) (shared l) this));
      other_shares = λ l u other. ap (λ us. component (unshared us l) u) same;
    })
ok_release old new thread lock (Err error) is gives same = tt

pub ok_unshare : {A E : Type 0} (old new : Tracking) (thread lock : ℕ) (result : Result A E)
    → OnOk result (IsCounted thread old.threads new.threads (last_stamp new.threads thread))
    → OnOk result (IsUnshared lock old.locks.unshares new.locks.unshares (tracked_thread new.threads thread).clock)
    → new.locks.releases ≡ old.locks.releases → Answers old new (Unshare thread lock) result
ok_unshare old new thread lock (Ok value) is gives same = λ roots es next.
    learnt_tracks (Unshare thread lock) old new old.threads (λ u. 0) (last_stamp new.threads thread) refl (λ u. refl) (omega arith) (nothing_learnt thread old.threads) is
    (record {
      released = λ l this. absurd (exclusive_not_shared l lock (sym (same_Some (shared lock) (exclusive l) this)));
      others = λ l other. ap (λ rs. last_release rs l) same;
      shares = λ l u this. subst (λ m. component (unshared new.locks.unshares m) u ≡ max (component (unshared old.locks.unshares m) u) (component (tracked_thread new.threads thread).clock u))
          (same_share lock l (same_Some (shared lock) (shared l) this)) (gives.given u);
      other_shares = λ l u other. gives.others l u (λ this. other (ap (λ m. Some (shared m)) (sym this)));
    })
ok_unshare old new thread lock (Err error) is gives same = tt

pub ok_fork : {A E : Type 0} (old new : Tracking) (thread child : ℕ) (result : Result A E)
    → OnOk result ((middle : List Tracked) × IsForked thread child old.threads middle × IsCounted thread middle new.threads (last_stamp new.threads thread))
    → new.locks ≡ old.locks → Answers old new (Fork thread child) result
ok_fork old new thread child (Ok value) is locks = λ roots es next.
    fork_tracks thread child old new is.0 (last_stamp new.threads thread) (next_inside old roots es (Fork thread child) next) (next.numbered child refl) is.1 is.2 locks
ok_fork old new thread child (Err error) is locks = tt

pub ok_join : {A E : Type 0} (old new : Tracking) (thread child : ℕ) (result : Result A E)
    → OnOk result ((middle : List Tracked) × IsLearnt thread (known_to old.threads child) (Some child) old.threads middle
    × IsCounted thread middle new.threads (last_stamp new.threads thread))
    → new.locks ≡ old.locks → Answers old new (Join thread child) result
ok_join old new thread child (Ok value) is locks = λ roots es next.
    learnt_tracks (Join thread child) old new is.0 (known_to old.threads child) (last_stamp new.threads thread) refl (λ u. refl)
    (child_most old roots es child thread next.stands) is.1 is.2
    (locks_stay (Join thread child) old.locks new.locks (last_stamp new.threads thread) refl locks)
ok_join old new thread child (Err error) is locks = tt

pub ok_acquire : {A E : Type 0} (old new : Tracking) (thread lock : ℕ) (result : Result A E)
    → OnOk result ((middle : List Tracked) × IsLearnt thread (heard_from old.locks lock) None old.threads middle
    × IsCounted thread middle new.threads (last_stamp new.threads thread))
    → new.locks ≡ old.locks → Answers old new (Acquire thread lock) result
ok_acquire old new thread lock (Ok value) is locks = λ roots es next.
    learnt_tracks (Acquire thread lock) old new is.0 (heard_from old.locks lock) (last_stamp new.threads thread) refl (λ u. refl)
    (both_most old roots es lock thread next.stands) is.1 is.2
    (locks_stay (Acquire thread lock) old.locks new.locks (last_stamp new.threads thread) refl locks)
ok_acquire old new thread lock (Err error) is locks = tt

pub ok_share : {A E : Type 0} (old new : Tracking) (thread lock : ℕ) (result : Result A E)
    → OnOk result ((middle : List Tracked) × IsLearnt thread (handed_by old.locks (exclusive lock)) None old.threads middle
    × IsCounted thread middle new.threads (last_stamp new.threads thread))
    → new.locks ≡ old.locks → Answers old new (Share thread lock) result
ok_share old new thread lock (Ok value) is locks = λ roots es next.
    learnt_tracks (Share thread lock) old new is.0 (handed_by old.locks (exclusive lock)) (last_stamp new.threads thread) refl (λ u. refl)
    (lock_most old roots es (exclusive lock) thread next.stands) is.1 is.2
    (locks_stay (Share thread lock) old.locks new.locks (last_stamp new.threads thread) refl locks)
ok_share old new thread lock (Err error) is locks = tt

-- what is read of the thread makes up its stamp
pub read_stamp : (threads : List Tracked) (thread t : ℕ) (own : Tracked) (clock : List ℕ) → own ≡ tracked_thread threads t → thread ≡ t → clock ≡ own.clock
    → record { thread = thread; number = own.events; clock = clock } ≡ last_stamp threads t
read_stamp threads thread t own clock is same copied = rw (copied, same, is) refl
