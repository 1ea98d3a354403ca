-- What brings no news: who knows an event knows all that reaches it.
use Rattle.std.proofs.Common.{◌≡◌, ◌≢◌, ◌↔◌, inl, inr, ℕ, zero, suc, ◌<◌, ◌≤◌, Bool, List, take, take-take, length, Option, Some, None, sym, subst, arith}
use Rattle.std.specs.Prelude.{slice_get}
use Rattle.std.proofs.lemmas.Bool.{cases_eq, cases_lt}
use Rattle.rd_event.specs.declared.events.Event.{Event}
use Rattle.rd_order.specs.Counts.{Counts}
use Rattle.rd_order.specs.EventLists.{IsKnownThread, WellFormed}
use Rattle.rd_order.specs.Order.{GivesBack, IsOf, exclusive, forked_thread}
use Rattle.rd_order.proofs.CountsLemmas.{counts_le, covers}
use Rattle.rd_order.proofs.EventListLemmas.{known_later, may_follow_at}
use Rattle.rd_hb.specs.EventClocks.{OwnNumber}
use Rattle.rd_hb.specs.Knows.{Carries, Knows, KnownCount}
use Rattle.rd_clock.specs.Clock.{component}
use Rattle.rd_clock.specs.declared.clock.Stamp.{Stamp}
use Rattle.rd_hb.specs.Tracker.{IsLastRelease, clock_of}
use Rattle.rd_hb.specs.TrackerParts.{IsHeard}
use Rattle.rd_hb.proofs.ClockLemmas.{is_of_within}
use Rattle.rd_hb.proofs.KnowsLemmas.{carried_reaches, gives_reach, known_before, known_wider, knows_front}
use Rattle.rd_hb.proofs.TrackLemmas.{known_own}

-- ---- counts and knowing

-- an event is known exactly where its own number is covered
pub covers_known : (es : List Event) (P : ℕ → Type 0) (t i o c : ℕ) → IsOf es t i → OwnNumber es t i o → KnownCount es P t c → (o ≤ c) ↔ Knows es P i
covers_known es P t i o c of own counts = covers (IsOf es t) (Knows es P) (length es) i o c (knows_front es t P) (is_of_within es t i of) of own counts

-- where all is known that is known from other places, no count from there is greater
known_most : (es : List Event) (P Q : ℕ → Type 0) (u c d : ℕ) → ((k : ℕ) → Knows es P k → Knows es Q k) → KnownCount es P u c → KnownCount es Q u d → c ≤ d
known_most es P Q u c d wider a b =
    counts_le (λ k. IsOf es u k × Knows es P k) (λ k. IsOf es u k × Knows es Q k) (length es) c d (λ k l x. (x.0, wider k x.1)) a b

-- ---- an acquire

-- who knows the last release of a lock knows all that the lock does
release_known : (roots : ℕ → Bool) (es : List Event) (P : ℕ → Type 0) (lock place : ℕ) → WellFormed roots es → GivesBack es (exclusive lock) place
    → ((m : ℕ) → GivesBack es (exclusive lock) m → m ≤ place) → Knows es P place → (k : ℕ) → Knows es (GivesBack es (exclusive lock)) k → Knows es P k
release_known roots es P lock place formed gives last knows =
    known_wider es (GivesBack es (exclusive lock)) P
    (λ m back. elim (cases_eq m place) [
      | inl same ↦ subst (Knows es P) (sym same) knows
      | inr other ↦ known_before es P m place knows (inr (gives_reach roots es lock m place formed (omega (arith, other, last m back)) back gives))
    ])

-- so the lock counts no more than a clock that covers the own number of that release
pub lock_heard : (roots : ℕ → Bool) (es : List Event) (P : ℕ → Type 0) (lock : ℕ) (o : Option Stamp) (clock : List ℕ) → WellFormed roots es
    → IsLastRelease es lock o → ((u : ℕ) → KnownCount es P u (component clock u)) → ((u : ℕ) → KnownCount es (GivesBack es (exclusive lock)) u (component (clock_of o) u))
    → IsHeard o clock → (u : ℕ) → component (clock_of o) u ≤ component clock u
lock_heard roots es P lock None clock formed last known handed covered u = omega arith
lock_heard roots es P lock (Some stamp) clock formed (place, is) known handed covered u =
    known_most es (GivesBack es (exclusive lock)) P u (component stamp.clock u) (component clock u)
    (release_known roots es P lock place formed is.gives is.last
    ((covers_known es P stamp.thread place stamp.number (component clock stamp.thread) is.thread is.number (known stamp.thread)).0 covered))
    (handed u) (known u)

-- ---- a join

-- the last number that is counted
last_counted : (P : ℕ → Type 0) (n c : ℕ) → Counts P n c → 0 < c → (i : ℕ) × (i < n) × P i × Counts P (suc i) c × ((k : ℕ) → k < n → P k → k ≤ i)
last_counted P zero c a some = absurd (omega (arith, a, some))
last_counted P (suc n) c (inl x) some = (n, omega arith, x.0, inl x, λ k l has. omega (arith, l))
last_counted P (suc n) c (inr x) some =
    let r = last_counted P n c x.1 some in (
      r.0,
      omega (arith, r.1),
      r.2,
      r.3,
      λ k l has. elim (cases_lt k n) [
        | inl below ↦ r.4 k below has
        | inr from ↦ absurd (x.0 (let e : k ≡ n = omega (arith, l, from) in subst P e has))
      ],
    )

-- a thread is forked before it acts
fork_before : (roots : ℕ → Bool) (es : List Event) (w m i : ℕ) (a : Event) → WellFormed roots es → slice_get es m ≡ Some a → forked_thread a ≡ Some w → IsOf es w i → m < i
fork_before roots es w m i a formed at fork of = elim (cases_lt m i) [
  | inl before ↦ before
  | inr from ↦ absurd ((may_follow_at roots es m a formed at).fresh w fork (known (omega (arith, from))))
]
  where
    known : i ≤ m → IsKnownThread roots (take m es) w
    known le =
        let acted : IsKnownThread roots (take i es) w = subst (IsKnownThread roots (take i es)) of.2 (may_follow_at roots es i of.0 formed of.1).known_actor in
        known_later roots (take m es) i w (subst (λ l. IsKnownThread roots l w) (sym (take-take i m es le)) acted)

-- who knows the last event of a thread knows all that the thread does
child_known : (roots : ℕ → Bool) (es : List Event) (P : ℕ → Type 0) (w i : ℕ) → WellFormed roots es → IsOf es w i → ((k : ℕ) → IsOf es w k → k ≤ i)
    → Knows es P i → (k : ℕ) → Knows es (Carries es w) k → Knows es P k
child_known roots es P w i formed of last knows =
    known_wider es (Carries es w) P
    (λ m carries. elim (cases_eq m i) [
      | inl same ↦ subst (Knows es P) (sym same) knows
      | inr other ↦ known_before es P m i knows (inr (carried_reaches es w m i (before m carries other) carries of))
    ])
  where
    before : (m : ℕ) → Carries es w m → m ≢ i → m < i
    before m (inl of_m) other = omega (arith, other, last m of_m)
    before m (inr x) other = fork_before roots es w m i x.0 formed x.1 x.2 of

-- so the thread counts no more where its own number of events is covered, and it had one
pub child_heard : (roots : ℕ → Bool) (es : List Event) (P : ℕ → Type 0) (w : ℕ) (f g : ℕ → ℕ) → WellFormed roots es
    → ((u : ℕ) → KnownCount es P u (f u)) → ((u : ℕ) → KnownCount es (Carries es w) u (g u)) → 0 < g w → g w ≤ f w → (u : ℕ) → g u ≤ f u
child_heard roots es P w f g formed known other some covered u =
    let x = last_counted (IsOf es w) (length es) (g w) ((known_own es w (g w)).0 (other w)) some in
    known_most es (Carries es w) P u (g u) (f u)
    (child_known roots es P w x.0 formed x.2 (λ k of_k. x.4 k (is_of_within es w k of_k) of_k)
    ((covers_known es P w x.0 (g w) (f w) x.2 x.3 (known w)).0 covered))
    (other u) (known u)
