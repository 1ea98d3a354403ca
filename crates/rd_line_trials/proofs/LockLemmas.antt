-- Traces of tests with locks: they are well-formed.
use Rattle.std.proofs.Common.{◌≡◌, ◌≢◌, ℕ, ◌+◌, ◌<◌, ◌≤◌, inl, inr, List, [], ◌∷◌, length, None, cond, refl, sym, ◌∙◌, ap, subst, arith, lit<, lit≤}
use Rattle.std.specs.Prelude.{◌==◌, ◌&&◌, is_some, if◌then◌else◌}
use Rattle.std.proofs.lemmas.Bool.{cases_lt, ne_eqb}
use Rattle.std.proofs.lemmas.List.Sums.{sum_by-cons}
use Rattle.std.proofs.lemmas.Option.{none-some}
use Rattle.rd_event.specs.declared.events.Event.{Event}
use Rattle.rd_event.specs.declared.events.Event.TheVariants.{Acquire, Release, Share, Unshare}
use Rattle.rd_order.specs.Order.{thread_of, forked_thread, Hold, exclusive, shared, hold_taken, hold_given}
use Rattle.rd_order.specs.EventLists.{calls, forks, joins, takings, givings, is_hold, Follow, MayHappen}
use Rattle.rd_order.specs.TestLists.{sample_call, two_roots, NextNumbers}
use Rattle.rd_order.proofs.EventListLemmas.{may_acquire, may_call, may_release, may_share, may_unshare}
use Rattle.rd_order.proofs.TestListLemmas.{few_by_numbers, numbered_call, two_below}
use Rattle.rd_hb.specs.Tracker.{TrackerStandsFor, Tracking}
use Rattle.rd_line_trials.specs.Traces.{MayTakeAll}

-- ---- lists in which only threads 0 and 1 act

abbrev pub OfTwo : List Event → Type 0
OfTwo [] = Unit {0}
OfTwo (e ∷ es) = (thread_of e < 2) × OfTwo es

-- no other thread takes a hold or gives one back
strangers_take : (es : List Event) (u : ℕ) (h : Hold) → OfTwo es → 2 ≤ u → takings es u h ≡ 0
unfolding takings
strangers_take [] u h two past = refl
strangers_take (e ∷ es) u h two past =
    let here : cond ((thread_of e == u) && is_hold (hold_taken e) h) 1 0 ≤ 0 = rw (ne_eqb (thread_of e) u (λ same. absurd (omega (arith, same, two.0, past)))) (omega arith) in
    omega (arith, sum_by-cons (λ x. cond ((thread_of x == u) && is_hold (hold_taken x) h) 1 0) e es, here, strangers_take es u h two.1 past)

strangers_give : (es : List Event) (u : ℕ) (h : Hold) → OfTwo es → 2 ≤ u → givings es u h ≡ 0
unfolding givings
strangers_give [] u h two past = refl
strangers_give (e ∷ es) u h two past =
    let here : cond ((thread_of e == u) && is_hold (hold_given e) h) 1 0 ≤ 0 = rw (ne_eqb (thread_of e) u (λ same. absurd (omega (arith, same, two.0, past)))) (omega arith) in
    omega (arith, sum_by-cons (λ x. cond ((thread_of x == u) && is_hold (hold_given x) h) 1 0) e es, here, strangers_give es u h two.1 past)

-- so it is enough to look at the other of the two
free_for_0 : (es : List Event) (h : Hold) → OfTwo es → takings es 1 h ≡ givings es 1 h → (u : ℕ) → u ≢ 0 → takings es u h ≡ givings es u h
free_for_0 es h two same u other = elim (cases_lt u 2) [
  | inl below ↦ (let here : 1 ≡ u = omega (arith, below, other) in subst (λ v. takings es v h ≡ givings es v h) here same)
  | inr past ↦ strangers_take es u h two past ∙ sym (strangers_give es u h two past)
]

free_for_1 : (es : List Event) (h : Hold) → OfTwo es → takings es 0 h ≡ givings es 0 h → (u : ℕ) → u ≢ 1 → takings es u h ≡ givings es u h
free_for_1 es h two same u other = elim (cases_lt u 2) [
  | inl below ↦ (let here : 0 ≡ u = omega (arith, below, other) in subst (λ v. takings es v h ≡ givings es v h) here same)
  | inr past ↦ strangers_take es u h two past ∙ sym (strangers_give es u h two past)
]

-- thread 0 or 1 takes the lock, where the other has given it and each share of it back
acquire_0 : (es : List Event) (lock : ℕ) → OfTwo es → takings es 1 (exclusive lock) ≡ givings es 1 (exclusive lock) → takings es 1 (shared lock) ≡ givings es 1 (shared lock)
    → joins es 0 ≡ 0 → MayHappen two_roots es (Acquire 0 lock)
acquire_0 es lock two same shares running = may_acquire two_roots es 0 lock (inl refl) running (free_for_0 es (exclusive lock) two same) (free_for_0 es (shared lock) two shares)

acquire_1 : (es : List Event) (lock : ℕ) → OfTwo es → takings es 0 (exclusive lock) ≡ givings es 0 (exclusive lock) → takings es 0 (shared lock) ≡ givings es 0 (shared lock)
    → joins es 1 ≡ 0 → MayHappen two_roots es (Acquire 1 lock)
acquire_1 es lock two same shares running = may_acquire two_roots es 1 lock (inl refl) running (free_for_1 es (exclusive lock) two same) (free_for_1 es (shared lock) two shares)

-- or a share of it, where the other has given it back
share_0 : (es : List Event) (lock : ℕ) → OfTwo es → takings es 1 (exclusive lock) ≡ givings es 1 (exclusive lock) → joins es 0 ≡ 0 → MayHappen two_roots es (Share 0 lock)
share_0 es lock two same running = may_share two_roots es 0 lock (inl refl) running (free_for_0 es (exclusive lock) two same)

share_1 : (es : List Event) (lock : ℕ) → OfTwo es → takings es 0 (exclusive lock) ≡ givings es 0 (exclusive lock) → joins es 1 ≡ 0 → MayHappen two_roots es (Share 1 lock)
share_1 es lock two same running = may_share two_roots es 1 lock (inl refl) running (free_for_1 es (exclusive lock) two same)

-- and gives it back
release_0 : (es : List Event) (lock : ℕ) → givings es 0 (exclusive lock) < takings es 0 (exclusive lock) → joins es 0 ≡ 0 → MayHappen two_roots es (Release 0 lock)
release_0 es lock has running = may_release two_roots es 0 lock (inl refl) running has

release_1 : (es : List Event) (lock : ℕ) → givings es 1 (exclusive lock) < takings es 1 (exclusive lock) → joins es 1 ≡ 0 → MayHappen two_roots es (Release 1 lock)
release_1 es lock has running = may_release two_roots es 1 lock (inl refl) running has

unshare_0 : (es : List Event) (lock : ℕ) → givings es 0 (shared lock) < takings es 0 (shared lock) → joins es 0 ≡ 0 → MayHappen two_roots es (Unshare 0 lock)
unshare_0 es lock has running = may_unshare two_roots es 0 lock (inl refl) running has

unshare_1 : (es : List Event) (lock : ℕ) → givings es 1 (shared lock) < takings es 1 (shared lock) → joins es 1 ≡ 0 → MayHappen two_roots es (Unshare 1 lock)
unshare_1 es lock has running = may_unshare two_roots es 1 lock (inl refl) running has

-- ---- lists that fork no thread

abbrev ForksNone : List Event → Type 0
ForksNone [] = Unit {0}
ForksNone (e ∷ es) = (forked_thread e ≡ None) × ForksNone es

numbered_alone : (threads : ℕ) (es : List Event) → ForksNone es → NextNumbers threads es
numbered_alone threads [] none = tt
numbered_alone threads (e ∷ es) none = (
  λ u is. absurd (none-some u (sym none.0 ∙ is)),
  subst (λ n. NextNumbers n es) (sym (ap (λ o. if is_some o then threads + 1 else threads) none.0)) (numbered_alone threads es none.1),
)

pub may_take : (tracking : Tracking) (es : List Event) → Follow two_roots [] es → ForksNone es → length es ≤ 4294967292 → TrackerStandsFor tracking two_roots [] → length tracking.threads ≡ 2
    → MayTakeAll tracking two_roots es
may_take tracking es follow alone few stands count = record {
  stands = stands;
  formed = record { follow = follow; bounded = few_by_numbers two_roots 2 es two_below (numbered_alone 2 es alone) (omega (arith, few)) };
  numbered = numbered_alone (length tracking.threads) es alone;
}

-- ---- a lock orders two calls

abbrev pub guarded : List Event
guarded = Acquire 0 0 ∷ sample_call 0 ∷ Release 0 0 ∷ Acquire 1 0 ∷ sample_call 1 ∷ []

guarded_follow : Follow two_roots [] guarded
unfolding forks joins calls takings givings
guarded_follow = (
  acquire_0 [] 0 tt refl refl refl,
  (
    may_call two_roots (Acquire 0 0 ∷ []) (numbered_call 0) (inl refl) refl (λ kind other. refl),
    (
      release_0 (Acquire 0 0 ∷ sample_call 0 ∷ []) 0 (lit< tt) refl,
      (
        acquire_1 (Acquire 0 0 ∷ sample_call 0 ∷ Release 0 0 ∷ []) 0 (lit< tt, (lit< tt, (lit< tt, tt))) refl refl refl,
        (
          may_call two_roots (Acquire 0 0 ∷ sample_call 0 ∷ Release 0 0 ∷ Acquire 1 0 ∷ []) (numbered_call 1) (inl refl) refl (λ kind other. refl),
          tt,
        ),
      ),
    ),
  ),
)

pub guarded_may : (tracking : Tracking) → TrackerStandsFor tracking two_roots [] → length tracking.threads ≡ 2 → MayTakeAll tracking two_roots guarded
guarded_may tracking = may_take tracking guarded guarded_follow (refl, (refl, (refl, (refl, (refl, tt))))) (lit≤ tt)

-- ---- a lock goes from thread to thread and back

abbrev pub rounds : List Event
rounds = Acquire 0 0 ∷ Release 0 0 ∷ Acquire 1 0 ∷ Release 1 0 ∷ Acquire 0 0 ∷ Release 0 0 ∷ Acquire 1 0 ∷ []

rounds_follow : Follow two_roots [] rounds
unfolding forks joins calls takings givings
rounds_follow = (
  acquire_0 [] 0 tt refl refl refl,
  (
    release_0 (Acquire 0 0 ∷ []) 0 (lit< tt) refl,
    (
      acquire_1 (Acquire 0 0 ∷ Release 0 0 ∷ []) 0 (lit< tt, (lit< tt, tt)) refl refl refl,
      (
        release_1 (Acquire 0 0 ∷ Release 0 0 ∷ Acquire 1 0 ∷ []) 0 (lit< tt) refl,
        (
          acquire_0 (Acquire 0 0 ∷ Release 0 0 ∷ Acquire 1 0 ∷ Release 1 0 ∷ []) 0 (lit< tt, (lit< tt, (lit< tt, (lit< tt, tt)))) refl refl refl,
          (
            release_0 (Acquire 0 0 ∷ Release 0 0 ∷ Acquire 1 0 ∷ Release 1 0 ∷ Acquire 0 0 ∷ []) 0 (lit< tt) refl,
            (
              acquire_1 (Acquire 0 0 ∷ Release 0 0 ∷ Acquire 1 0 ∷ Release 1 0 ∷ Acquire 0 0 ∷ Release 0 0 ∷ []) 0 (lit< tt, (lit< tt, (lit< tt, (lit< tt, (lit< tt, (lit< tt, tt)))))) refl refl refl,
              tt,
            ),
          ),
        ),
      ),
    ),
  ),
)

pub rounds_may : (tracking : Tracking) → TrackerStandsFor tracking two_roots [] → length tracking.threads ≡ 2 → MayTakeAll tracking two_roots rounds
rounds_may tracking = may_take tracking rounds rounds_follow (refl, (refl, (refl, (refl, (refl, (refl, (refl, tt))))))) (lit≤ tt)

-- ---- a thread takes a lock twice

abbrev pub reentrant : List Event
reentrant = Acquire 0 0 ∷ Acquire 0 0 ∷ Release 0 0 ∷ Release 0 0 ∷ Acquire 1 0 ∷ []

reentrant_follow : Follow two_roots [] reentrant
unfolding forks joins calls takings givings
reentrant_follow = (
  acquire_0 [] 0 tt refl refl refl,
  (
    acquire_0 (Acquire 0 0 ∷ []) 0 (lit< tt, tt) refl refl refl,
    (
      release_0 (Acquire 0 0 ∷ Acquire 0 0 ∷ []) 0 (lit< tt) refl,
      (
        release_0 (Acquire 0 0 ∷ Acquire 0 0 ∷ Release 0 0 ∷ []) 0 (lit< tt) refl,
        (
          acquire_1 (Acquire 0 0 ∷ Acquire 0 0 ∷ Release 0 0 ∷ Release 0 0 ∷ []) 0 (lit< tt, (lit< tt, (lit< tt, (lit< tt, tt)))) refl refl refl,
          tt,
        ),
      ),
    ),
  ),
)

pub reentrant_may : (tracking : Tracking) → TrackerStandsFor tracking two_roots [] → length tracking.threads ≡ 2 → MayTakeAll tracking two_roots reentrant
reentrant_may tracking = may_take tracking reentrant reentrant_follow (refl, (refl, (refl, (refl, (refl, tt))))) (lit≤ tt)

-- ---- a lock brings nothing that another hasn't brought

abbrev pub no_news : List Event
no_news = Acquire 0 0 ∷ Release 0 0 ∷ Acquire 0 1 ∷ Release 0 1 ∷ Acquire 1 1 ∷ Acquire 1 0 ∷ Release 1 0 ∷ Acquire 1 0 ∷ []

no_news_follow : Follow two_roots [] no_news
unfolding forks joins calls takings givings
no_news_follow = (
  acquire_0 [] 0 tt refl refl refl,
  (
    release_0 (Acquire 0 0 ∷ []) 0 (lit< tt) refl,
    (
      acquire_0 (Acquire 0 0 ∷ Release 0 0 ∷ []) 1 (lit< tt, (lit< tt, tt)) refl refl refl,
      (
        release_0 (Acquire 0 0 ∷ Release 0 0 ∷ Acquire 0 1 ∷ []) 1 (lit< tt) refl,
        (
          acquire_1 (Acquire 0 0 ∷ Release 0 0 ∷ Acquire 0 1 ∷ Release 0 1 ∷ []) 1 (lit< tt, (lit< tt, (lit< tt, (lit< tt, tt)))) refl refl refl,
          (
            acquire_1 (Acquire 0 0 ∷ Release 0 0 ∷ Acquire 0 1 ∷ Release 0 1 ∷ Acquire 1 1 ∷ []) 0 (lit< tt, (lit< tt, (lit< tt, (lit< tt, (lit< tt, tt))))) refl refl refl,
            (
              release_1 (Acquire 0 0 ∷ Release 0 0 ∷ Acquire 0 1 ∷ Release 0 1 ∷ Acquire 1 1 ∷ Acquire 1 0 ∷ []) 0 (lit< tt) refl,
              (
                acquire_1 (Acquire 0 0 ∷ Release 0 0 ∷ Acquire 0 1 ∷ Release 0 1 ∷ Acquire 1 1 ∷ Acquire 1 0 ∷ Release 1 0 ∷ []) 0 (lit< tt, (lit< tt, (lit< tt, (lit< tt, (lit< tt, (lit< tt, (lit< tt, tt))))))) refl refl refl,
                tt,
              ),
            ),
          ),
        ),
      ),
    ),
  ),
)

pub no_news_may : (tracking : Tracking) → TrackerStandsFor tracking two_roots [] → length tracking.threads ≡ 2 → MayTakeAll tracking two_roots no_news
no_news_may tracking = may_take tracking no_news no_news_follow (refl, (refl, (refl, (refl, (refl, (refl, (refl, (refl, tt)))))))) (lit≤ tt)

-- ---- a lock is shared

abbrev pub sharers : List Event
sharers = Acquire 0 0 ∷ Release 0 0 ∷ Share 1 0 ∷ Share 0 0 ∷ Unshare 1 0 ∷ Unshare 0 0 ∷ Acquire 0 0 ∷ Release 0 0 ∷ Share 1 0 ∷ []

sharers_follow : Follow two_roots [] sharers
unfolding forks joins calls takings givings
sharers_follow = (
  acquire_0 [] 0 tt refl refl refl,
  (
    release_0 (Acquire 0 0 ∷ []) 0 (lit< tt) refl,
    (
      share_1 (Acquire 0 0 ∷ Release 0 0 ∷ []) 0 (lit< tt, (lit< tt, tt)) refl refl,
      (
        share_0 (Acquire 0 0 ∷ Release 0 0 ∷ Share 1 0 ∷ []) 0 (lit< tt, (lit< tt, (lit< tt, tt))) refl refl,
        (
          unshare_1 (Acquire 0 0 ∷ Release 0 0 ∷ Share 1 0 ∷ Share 0 0 ∷ []) 0 (lit< tt) refl,
          (
            unshare_0 (Acquire 0 0 ∷ Release 0 0 ∷ Share 1 0 ∷ Share 0 0 ∷ Unshare 1 0 ∷ []) 0 (lit< tt) refl,
            (
              acquire_0 (Acquire 0 0 ∷ Release 0 0 ∷ Share 1 0 ∷ Share 0 0 ∷ Unshare 1 0 ∷ Unshare 0 0 ∷ []) 0 (lit< tt, (lit< tt, (lit< tt, (lit< tt, (lit< tt, (lit< tt, tt)))))) refl refl refl,
              (
                release_0 (Acquire 0 0 ∷ Release 0 0 ∷ Share 1 0 ∷ Share 0 0 ∷ Unshare 1 0 ∷ Unshare 0 0 ∷ Acquire 0 0 ∷ []) 0 (lit< tt) refl,
                (
                  share_1 (Acquire 0 0 ∷ Release 0 0 ∷ Share 1 0 ∷ Share 0 0 ∷ Unshare 1 0 ∷ Unshare 0 0 ∷ Acquire 0 0 ∷ Release 0 0 ∷ []) 0 (lit< tt, (lit< tt, (lit< tt, (lit< tt, (lit< tt, (lit< tt, (lit< tt, (lit< tt, tt)))))))) refl refl,
                  tt,
                ),
              ),
            ),
          ),
        ),
      ),
    ),
  ),
)

pub sharers_may : (tracking : Tracking) → TrackerStandsFor tracking two_roots [] → length tracking.threads ≡ 2 → MayTakeAll tracking two_roots sharers
sharers_may tracking = may_take tracking sharers sharers_follow (refl, (refl, (refl, (refl, (refl, (refl, (refl, (refl, (refl, tt))))))))) (lit≤ tt)

-- ---- shares order nothing among themselves

abbrev pub shares_apart : List Event
shares_apart = Share 0 1 ∷ Unshare 0 1 ∷ Share 1 1 ∷ Unshare 1 1 ∷ Acquire 1 0 ∷ Acquire 1 1 ∷ []

shares_apart_follow : Follow two_roots [] shares_apart
unfolding forks joins calls takings givings
shares_apart_follow = (
  share_0 [] 1 tt refl refl,
  (
    unshare_0 (Share 0 1 ∷ []) 1 (lit< tt) refl,
    (
      share_1 (Share 0 1 ∷ Unshare 0 1 ∷ []) 1 (lit< tt, (lit< tt, tt)) refl refl,
      (
        unshare_1 (Share 0 1 ∷ Unshare 0 1 ∷ Share 1 1 ∷ []) 1 (lit< tt) refl,
        (
          acquire_1 (Share 0 1 ∷ Unshare 0 1 ∷ Share 1 1 ∷ Unshare 1 1 ∷ []) 0 (lit< tt, (lit< tt, (lit< tt, (lit< tt, tt)))) refl refl refl,
          (
            acquire_1 (Share 0 1 ∷ Unshare 0 1 ∷ Share 1 1 ∷ Unshare 1 1 ∷ Acquire 1 0 ∷ []) 1 (lit< tt, (lit< tt, (lit< tt, (lit< tt, (lit< tt, tt))))) refl refl refl,
            tt,
          ),
        ),
      ),
    ),
  ),
)

pub shares_apart_may : (tracking : Tracking) → TrackerStandsFor tracking two_roots [] → length tracking.threads ≡ 2 → MayTakeAll tracking two_roots shares_apart
shares_apart_may tracking = may_take tracking shares_apart shares_apart_follow (refl, (refl, (refl, (refl, (refl, (refl, tt)))))) (lit≤ tt)
