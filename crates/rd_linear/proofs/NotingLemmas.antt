-- What is noted, with one event more, and the waits that it tells.
use Rattle.std.proofs.Common.{◌≡◌, ◌≢◌, ◌<◌, ◌+◌, ◌⊎◌, ℕ, zero, suc, cond, List, [], ◌∷◌, ◌++◌, Option, Some, None, length, slice_get, arith, inl, inr, refl, sym, ◌∙◌, ap, subst}
use Rattle.std.specs.Prelude.{slice_set}
use Rattle.std.proofs.lemmas.Bool.{cases_eq, eq-eqb, ne_eqb}
use Rattle.std.proofs.lemmas.Option.{none-some, same_Some, slice_get_within}
use Rattle.rd_event.specs.declared.events.Event.{Event}
use Rattle.rd_event.specs.declared.events.Event.TheVariants.{Fork, Join, Acquire, Release, Share, Unshare, Call}
use Rattle.rd_order.specs.Order.{GivesBack, IsOf, Reaches, exclusive, forked_thread, hands_over, hold_given, same_thread, shared, thread_of}
use Rattle.rd_order.proofs.OrderLemmas.{edge_reaches}
use Rattle.rd_linear.specs.declared.waits.Notes.{Notes}
use Rattle.rd_linear.specs.Linear.{Stands}
use Rattle.rd_linear.specs.Noting.{AreNotedBelow, AreUnsharesAfter, IsLastBelow, IsReplaced, Touches, UsesLock, noted_at, noted_if, release_noted, lock_in_release, touch_noted, unshares_noted}
use Rattle.rd_linear.proofs.LaneLemmas.{changed}
use Rattle.rd_linear.proofs.LinearLemmas.{stands_last, stands_more, stands_still}

-- ---- what the code writes

set_here : (xs : List ℕ) (i x : ℕ) → i < length xs → slice_get (slice_set xs i x) i ≡ Some x
set_here [] i x inside = absurd (omega arith)
set_here (y ∷ xs) zero x inside = refl
set_here (y ∷ xs) (suc i) x inside = set_here xs i x (omega arith)

set_there : (xs : List ℕ) (i x j : ℕ) → j ≢ i → slice_get (slice_set xs i x) j ≡ slice_get xs j
set_there [] i x j apart = refl
set_there (y ∷ xs) zero x zero apart = absurd (apart refl)
set_there (y ∷ xs) zero x (suc j) apart = refl
set_there (y ∷ xs) (suc i) x zero apart = refl
set_there (y ∷ xs) (suc i) x (suc j) apart = set_there xs i x j (λ same. apart (ap suc same))

pub replaced_at : (es : List Event) (thread place : ℕ) (old : List ℕ) (i w : ℕ) → slice_get old i ≡ Some w → IsOf es thread w → IsReplaced es thread place old (slice_set old i place)
replaced_at es thread place old i w at of = record {
  here = (i, set_here old i place (slice_get_within old i w at));
  kept = λ v stands. elim (cases_eq stands.0 i) [
    | inl same ↦ inr (subst (IsOf es thread) (same_Some w v (sym at ∙ (ap (slice_get old) (sym same) ∙ stands.1))) of)
    | inr apart ↦ inl (stands.0, set_there old i place stands.0 apart ∙ stands.1)
  ];
  only = λ v stands. elim (changed old i place stands.0 v stands.1) [ inl here ↦ inr here.1 | inr there ↦ inl (stands.0, there.1) ];
}

pub replaced_last : (es : List Event) (thread place : ℕ) (old : List ℕ) → IsReplaced es thread place old (old ++ place ∷ [])
replaced_last es thread place old = record {
  here = stands_last old place;
  kept = λ v stands. inl (stands_still old v place stands);
  only = λ v stands. stands_more old v place stands;
}

-- ---- one place more

last_stays : (P : ℕ → Type 0) (n : ℕ) (w : Option ℕ) → ¬ (P n) → IsLastBelow P n w → IsLastBelow P (n + 1) w
last_stays P n None lacks last = λ k below has. elim (cases_eq k n) [
  | inl same ↦ lacks (subst P same has)
  | inr apart ↦ last k (omega arith) has
]
last_stays P n (Some w) lacks last =
    let inside = last.0 in (
      omega arith,
      last.1,
      λ k below has. elim (cases_eq k n) [
        | inl same ↦ absurd (lacks (subst P same has))
        | inr apart ↦ last.2 k (omega arith) has
      ],
    )

last_here : (P : ℕ → Type 0) (n : ℕ) → P n → IsLastBelow P (n + 1) (Some n)
last_here P n has = (omega arith, has, λ k below also. omega arith)

at_more : (P : ℕ → Type 0) (known : ℕ → Option ℕ) (key n q : ℕ) → (key ≡ q → P n) → (key ≢ q → IsLastBelow P (n + 1) (known q)) → IsLastBelow P (n + 1) (noted_at known key n q)
at_more P known key n q here others = elim (cases_eq key q) [
  | inl same ↦ subst (λ b. IsLastBelow P (n + 1) (cond b (Some n) (known q))) (sym (eq-eqb key q same)) (last_here P n (here same))
  | inr apart ↦ subst (λ b. IsLastBelow P (n + 1) (cond b (Some n) (known q))) (sym (ne_eqb key q apart)) (others apart)
]

if_more : (P : ℕ → Type 0) (known : ℕ → Option ℕ) (o : Option ℕ) (n q : ℕ) → (o ≡ Some q → P n) → (¬ (o ≡ Some q) → IsLastBelow P (n + 1) (known q)) → IsLastBelow P (n + 1) (noted_if known o n q)
if_more P known None n q here others = others (λ is. none-some q is)
if_more P known (Some key) n q here others = at_more P known key n q (λ same. here (ap Some same)) (λ apart. others (λ is. apart (same_Some key q is)))

-- ---- which events are noted

event_is : (es : List Event) (n : ℕ) (e d : Event) → slice_get es n ≡ Some e → slice_get es n ≡ Some d → d ≡ e
event_is es n e d at also = same_Some d e (sym also ∙ at)

thread_more : (es : List Event) (n : ℕ) (e : Event) (known : ℕ → Option ℕ) → slice_get es n ≡ Some e → ((t : ℕ) → IsLastBelow (Touches es t) n (known t))
    → (t : ℕ) → IsLastBelow (Touches es t) (n + 1) (noted_if (noted_at known (thread_of e) n) (forked_thread e) n t)
thread_more es n e known at noted t =
    if_more (Touches es t) (noted_at known (thread_of e) n) (forked_thread e) n t (λ forks_it. (e, at, inr forks_it))
    (λ no_fork. at_more (Touches es t) known (thread_of e) n t (λ same. (e, at, inl same)) (λ apart. last_stays (Touches es t) n (known t) (lacks no_fork apart) (noted t)))
  where
    lacks : ¬ (forked_thread e ≡ Some t) → thread_of e ≢ t → ¬ (Touches es t n)
    lacks no_fork apart (d, also, inl same) = apart (sym (ap thread_of (event_is es n e d at also)) ∙ same)
    lacks no_fork apart (d, also, inr forks_it) = no_fork (sym (ap forked_thread (event_is es n e d at also)) ∙ forks_it)

exclusives : (a b : ℕ) → Some (exclusive a) ≡ Some (exclusive b) → a ≡ b
exclusives a b e = cc

shareds : (a b : ℕ) → Some (shared a) ≡ Some (shared b) → a ≡ b
shareds a b e = cc

not_shared : (a b : ℕ) → ¬ (Some (exclusive a) ≡ Some (shared b))
not_shared a b e = cc

released_gives : (e : Event) (lock : ℕ) → lock_in_release e ≡ Some lock → hold_given e ≡ Some (exclusive lock)
released_gives (Release thread released) lock is = ap (λ l. Some (exclusive l)) (same_Some released lock is)
released_gives (Fork thread child) lock is = absurd (none-some lock is)
released_gives (Join thread child) lock is = absurd (none-some lock is)
released_gives (Acquire thread taken) lock is = absurd (none-some lock is)
released_gives (Share thread taken) lock is = absurd (none-some lock is)
released_gives (Unshare thread given) lock is = absurd (none-some lock is)
released_gives (Call call) lock is = absurd (none-some lock is)

gives_released : (e : Event) (lock : ℕ) → hold_given e ≡ Some (exclusive lock) → lock_in_release e ≡ Some lock
gives_released (Release thread released) lock is = ap Some (exclusives released lock is)
gives_released (Fork thread child) lock is = absurd (none-some _ is)
gives_released (Join thread child) lock is = absurd (none-some _ is)
gives_released (Acquire thread taken) lock is = absurd (none-some _ is)
gives_released (Share thread taken) lock is = absurd (none-some _ is)
gives_released (Unshare thread given) lock is = absurd (not_shared lock given (sym is))
gives_released (Call call) lock is = absurd (none-some _ is)

release_more : (es : List Event) (n : ℕ) (e : Event) (known : ℕ → Option ℕ) → slice_get es n ≡ Some e → ((lock : ℕ) → IsLastBelow (GivesBack es (exclusive lock)) n (known lock))
    → (lock : ℕ) → IsLastBelow (GivesBack es (exclusive lock)) (n + 1) (noted_if known (lock_in_release e) n lock)
release_more es n e known at noted lock =
    if_more (GivesBack es (exclusive lock)) known (lock_in_release e) n lock (λ is. (e, at, released_gives e lock is))
    (λ other. last_stays (GivesBack es (exclusive lock)) n (known lock)
    (λ x. other (gives_released e lock (sym (ap hold_given (event_is es n e x.0 at x.1)) ∙ x.2))) (noted lock))

-- ---- unshares

-- what is noted of the unshares of a lock is right
record AreUnshares (es : List Event) (count lock : ℕ) (noted : List ℕ) : Type 0 where
  pub are : (k : ℕ) → Stands noted k → (k < count) × GivesBack es (shared lock) k
  pub others : (k : ℕ) → k < count → GivesBack es (shared lock) k → Stands noted k ⊎ ((m : ℕ) × (m < count) × Reaches es k m × UsesLock es lock m)

-- an event that gives no share of the lock back leaves them
unshares_stay : (es : List Event) (n lock : ℕ) (old new : List ℕ) → AreUnshares es n lock old → new ≡ old → ¬ (GivesBack es (shared lock) n) → AreUnshares es (n + 1) lock new
unshares_stay es n lock old new state same lacks = subst (AreUnshares es (n + 1) lock) (sym same) (record {
  are = λ k stands. let x = state.are k stands in let below = x.0 in (omega (arith, below), x.1);
  others = λ k below gives. elim (cases_eq k n) [
    | inl here ↦ absurd (lacks (subst (GivesBack es (shared lock)) here gives))
    | inr before ↦ elim (state.others k (omega (arith, below, before)) gives) [
      | inl stands ↦ inl stands
      | inr x ↦ (let inside = x.1 in inr (x.0, omega (arith, inside), x.2, x.3))
    ]
  ];
})

-- an acquire is reached by each of them
unshares_cleared : (es : List Event) (n thread lock : ℕ) (old new : List ℕ) → slice_get es n ≡ Some (Acquire thread lock) → AreUnshares es n lock old → new ≡ [] → AreUnshares es (n + 1) lock new
unshares_cleared es n thread lock old new at state none = subst (AreUnshares es (n + 1) lock) (sym none) (record {
  are = λ k stands. absurd (none-some k stands.1);
  others = λ k below gives. elim (cases_eq k n) [
    | inl here ↦ (let x = subst (GivesBack es (shared lock)) here gives in absurd (none-some (shared lock) (sym (ap hold_given (event_is es n (Acquire thread lock) x.0 at x.1)) ∙ x.2)))
    | inr before ↦ (let l : k < n = omega (arith, below, before) in inr (
      n,
      omega arith,
      edge_reaches es k n (record {
        rises = l;
        a = gives.0;
        b = Acquire thread lock;
        at_i = gives.1;
        at_j = at;
        linked = hands_over (shared lock) (exclusive lock) gives.2 refl refl;
      }),
      (Acquire thread lock, at, inl (inl refl)),
    ))
  ];
})

-- an unshare takes the place of that of its thread, which reaches it
unshares_replaced : (es : List Event) (n thread lock : ℕ) (old new : List ℕ) → slice_get es n ≡ Some (Unshare thread lock) → AreUnshares es n lock old → IsReplaced es thread n old new → AreUnshares es (n + 1) lock new
unshares_replaced es n thread lock old new at state replaced = record { are = are; others = others }
  where
    here : UsesLock es lock n
    here = (Unshare thread lock, at, inr (inr refl))

    are : (k : ℕ) → Stands new k → (k < n + 1) × GivesBack es (shared lock) k
    are k stands = elim (replaced.only k stands) [
      | inl before ↦ (let x = state.are k before in let below = x.0 in (omega (arith, below), x.1))
      | inr last ↦ subst (λ j. (j < n + 1) × GivesBack es (shared lock) j) (sym last) (omega arith, (Unshare thread lock, at, refl))
    ]

    others : (k : ℕ) → k < n + 1 → GivesBack es (shared lock) k → Stands new k ⊎ ((m : ℕ) × (m < n + 1) × Reaches es k m × UsesLock es lock m)
    others k below gives = elim (cases_eq k n) [
      | inl last ↦ inl (subst (Stands new) (sym last) replaced.here)
      | inr before ↦ (let l : k < n = omega (arith, below, before) in elim (state.others k l gives) [
        | inr x ↦ (let inside = x.1 in inr (x.0, omega (arith, inside), x.2, x.3))
        | inl stands ↦ elim (replaced.kept k stands) [
          | inl still ↦ inl still
          | inr of ↦ inr (
            n,
            omega arith,
            edge_reaches es k n (record { rises = l; a = of.0; b = Unshare thread lock; at_i = of.1; at_j = at; linked = same_thread of.2 }),
            here,
          )
        ]
      ])
    ]

gives_no_share : (es : List Event) (n : ℕ) (e : Event) (lock : ℕ) → slice_get es n ≡ Some e → ¬ (hold_given e ≡ Some (shared lock)) → ¬ (GivesBack es (shared lock) n)
gives_no_share es n e lock at none x = none (sym (ap hold_given (event_is es n e x.0 at x.1)) ∙ x.2)

unshare_more : (es : List Event) (n : ℕ) (e : Event) (old new : ℕ → List ℕ) → slice_get es n ≡ Some e → ((lock : ℕ) → AreUnshares es n lock (old lock)) → AreUnsharesAfter es e n old new
    → (lock : ℕ) → AreUnshares es (n + 1) lock (new lock)
unshare_more es n (Acquire thread taken) old new at state after lock = elim (cases_eq taken lock) [
  | inl same ↦ subst (λ l. AreUnshares es (n + 1) l (new l)) same (unshares_cleared es n thread taken (old taken) (new taken) at (state taken) after.0)
  | inr apart ↦ unshares_stay es n lock (old lock) (new lock) (state lock) (after.1 lock apart) (gives_no_share es n (Acquire thread taken) lock at (λ x. none-some _ x))
]
unshare_more es n (Unshare thread given) old new at state after lock = elim (cases_eq given lock) [
  | inl same ↦ subst (λ l. AreUnshares es (n + 1) l (new l)) same (unshares_replaced es n thread given (old given) (new given) at (state given) after.0)
  | inr apart ↦ unshares_stay es n lock (old lock) (new lock) (state lock) (after.1 lock apart) (gives_no_share es n (Unshare thread given) lock at (λ x. apart (shareds given lock x)))
]
unshare_more es n (Release thread released) old new at state after lock =
    unshares_stay es n lock (old lock) (new lock) (state lock) (after lock) (gives_no_share es n (Release thread released) lock at (λ x. not_shared released lock x))
unshare_more es n (Fork thread child) old new at state after lock =
    unshares_stay es n lock (old lock) (new lock) (state lock) (after lock) (gives_no_share es n (Fork thread child) lock at (λ x. none-some _ x))
unshare_more es n (Join thread child) old new at state after lock =
    unshares_stay es n lock (old lock) (new lock) (state lock) (after lock) (gives_no_share es n (Join thread child) lock at (λ x. none-some _ x))
unshare_more es n (Share thread taken) old new at state after lock =
    unshares_stay es n lock (old lock) (new lock) (state lock) (after lock) (gives_no_share es n (Share thread taken) lock at (λ x. none-some _ x))
unshare_more es n (Call call) old new at state after lock =
    unshares_stay es n lock (old lock) (new lock) (state lock) (after lock) (gives_no_share es n (Call call) lock at (λ x. none-some _ x))

-- ---- all that is noted

pub nothing_noted : (es : List Event) (notes : Notes) → ((t : ℕ) → touch_noted notes t ≡ None) → ((lock : ℕ) → release_noted notes lock ≡ None)
    → ((lock : ℕ) → unshares_noted notes lock ≡ []) → AreNotedBelow es 0 notes
nothing_noted es notes no_thread no_release no_unshare = record {
  threads_are = λ t. subst (IsLastBelow (Touches es t) 0) (sym (no_thread t)) (λ k below has. omega arith);
  releases_are = λ lock. subst (IsLastBelow (GivesBack es (exclusive lock)) 0) (sym (no_release lock)) (λ k below has. omega arith);
  unshares_are = λ lock k stands. absurd (none-some k (ap (λ l. slice_get l stands.0) (sym (no_unshare lock)) ∙ stands.1));
  others = λ lock k below. absurd (omega (arith, below));
}

pub noted_more : (es : List Event) (n : ℕ) (e : Event) → slice_get es n ≡ Some e → (old new : Notes) → AreNotedBelow es n old
    → ((t : ℕ) → touch_noted new t ≡ noted_if (noted_at (touch_noted old) (thread_of e) n) (forked_thread e) n t)
    → ((lock : ℕ) → release_noted new lock ≡ noted_if (release_noted old) (lock_in_release e) n lock)
    → AreUnsharesAfter es e n (unshares_noted old) (unshares_noted new) → AreNotedBelow es (n + 1) new
noted_more es n e at old new noted by_threads by_releases by_unshares = record {
  threads_are = λ t. subst (IsLastBelow (Touches es t) (n + 1)) (sym (by_threads t)) (thread_more es n e (touch_noted old) at noted.threads_are t);
  releases_are = λ lock. subst (IsLastBelow (GivesBack es (exclusive lock)) (n + 1)) (sym (by_releases lock)) (release_more es n e (release_noted old) at noted.releases_are lock);
  unshares_are = λ lock. (unshares lock).are;
  others = λ lock. (unshares lock).others;
}
  where
    unshares : (lock : ℕ) → AreUnshares es (n + 1) lock (unshares_noted new lock)
    unshares lock = unshare_more es n e (unshares_noted old) (unshares_noted new) at (λ l. record { are = noted.unshares_are l; others = noted.others l }) by_unshares lock
