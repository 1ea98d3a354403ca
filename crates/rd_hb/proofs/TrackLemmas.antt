-- The clock of an event that is appended, and what is known then, from what was known before.
use Rattle.std.proofs.Common.{◌≡◌, ◌≢◌, ◌↔◌, ◌⊎◌, inl, inr, ℕ, ◌+◌, ◌<◌, ◌≤◌, ◌==◌, max, Bool, true, false, List, [], ◌∷◌, ◌++◌, length, Some, None, refl, sym, ◌∙◌, ap, subst, arith}
use Rattle.std.specs.Prelude.{if◌then◌else◌}
use Rattle.std.proofs.lemmas.Bool.{cases_eq, eq-eqb, ne_eqb}
use Rattle.std.proofs.lemmas.Bool.Decides.{not_from_Decides}
use Rattle.std.proofs.lemmas.Option.{none-some, same_Some}
use Rattle.rd_event.specs.declared.events.Event.{Event}
use Rattle.rd_event.specs.declared.events.Event.TheVariants.{Fork, Join, Acquire, Release, Share, Unshare, Call}
use Rattle.rd_order.specs.Order.{Against, GivesBack, Hold, IsOf, Reaches, exclusive, forked_thread, hold_given, hold_taken, joined_thread, shared, thread_of}
use Rattle.rd_order.specs.Counts.{Counts}
use Rattle.rd_hb.specs.EventClocks.{OwnNumber, IsClock}
use Rattle.rd_hb.specs.Knows.{Carries, Knows, KnownCount}
use Rattle.rd_hb.specs.TrackerParts.{news_of, known_with_news, clock_after, gathered, known_after, handed_after}
use Rattle.rd_order.proofs.CountsLemmas.{counts_bound, counts_cut, counts_like, counts_max, counts_more, counts_none, counts_same}
use Rattle.rd_order.proofs.EventListLemmas.{exclusive_not_shared}
use Rattle.rd_order.proofs.HoldLemmas.{hold_decides}
use Rattle.rd_order.specs.OrderTests.{is_this}
use Rattle.rd_order.specs.EventLists.{MayHappen, WellFormed, is_hold}
use Rattle.rd_hb.proofs.CarryLemmas.{unknown_carries_nothing}
use Rattle.rd_order.proofs.OrderLemmas.{length_more, this_decides}
use Rattle.rd_hb.proofs.ClockLemmas.{is_of_longer, is_of_shorter}
use Rattle.rd_hb.proofs.KnowsLemmas.{Brings, event_reached, actor_knows, child_knows, lock_knows, knows_front, knows_longer, knows_shorter, known_wider, last_is_of, last_thread, nothing_known, carries_longer, given_again, gives_longer, gives_within, known_by, known_from, other_carries, other_gives, place_knows}

-- ---- one list of events

-- from the same places one number of events of each thread is known
pub known_same : (es : List Event) (P : ℕ → Type 0) (u c d : ℕ) → KnownCount es P u c → KnownCount es P u d → c ≡ d
known_same es P u c d a b = counts_same (λ k. IsOf es u k × Knows es P k) (length es) c d a b

-- no count passes the number of events
pub known_bound : (es : List Event) (P : ℕ → Type 0) (u c : ℕ) → KnownCount es P u c → c ≤ length es
known_bound es P u c a = counts_bound (λ k. IsOf es u k × Knows es P k) (length es) c a

-- from no place nothing is known
pub known_nothing : (es : List Event) (P : ℕ → Type 0) → ((m : ℕ) → ¬ (P m)) → (u : ℕ) → KnownCount es P u 0
known_nothing es P none u = counts_none (λ k. IsOf es u k × Knows es P k) (length es) (λ k l x. nothing_known es P none k x.1)

-- of its own events a thread knows all
pub known_own : (es : List Event) (t c : ℕ) → KnownCount es (Carries es t) t c ↔ Counts (IsOf es t) (length es) c
known_own es t c = (
  counts_like (λ k. IsOf es t k × Knows es (Carries es t) k) (IsOf es t) (length es) c (λ k l. (λ x. x.0, λ of. (of, inl (inl of)))),
  counts_like (IsOf es t) (λ k. IsOf es t k × Knows es (Carries es t) k) (length es) c (λ k l. (λ of. (of, inl (inl of)), λ x. x.0)),
)

-- from places that are the same the same is known
pub known_alike : (es : List Event) (P Q : ℕ → Type 0) (u c : ℕ) → ((m : ℕ) → P m ↔ Q m) → KnownCount es P u c → KnownCount es Q u c
known_alike es P Q u c same =
    counts_like (λ k. IsOf es u k × Knows es P k) (λ k. IsOf es u k × Knows es Q k) (length es) c
    (λ k l. (
      λ x. (x.0, known_wider es P Q (λ m has. inl ((same m).0 has)) k x.1),
      λ x. (x.0, known_wider es Q P (λ m has. inl ((same m).1 has)) k x.1),
    ))

-- from the places of both the greater number is known
known_union : (es : List Event) (P Q : ℕ → Type 0) (u c d : ℕ) → KnownCount es P u c → KnownCount es Q u d → KnownCount es (λ m. P m ⊎ Q m) u (max c d)
known_union es P Q u c d a b =
    counts_like (λ k. IsOf es u k × (Knows es P k ⊎ Knows es Q k)) (λ k. IsOf es u k × Knows es (λ m. P m ⊎ Q m) k) (length es) (max c d)
    (λ k l. (λ x. (x.0, up k x.1), λ x. (x.0, down k x.1)))
    (counts_max (IsOf es u) (Knows es P) (Knows es Q) (length es) c d (knows_front es u P) (knows_front es u Q) a b)
  where
    up : (k : ℕ) → Knows es P k ⊎ Knows es Q k → Knows es (λ m. P m ⊎ Q m) k
    up k (inl x) = known_wider es P (λ m. P m ⊎ Q m) (λ m has. inl (inl has)) k x
    up k (inr x) = known_wider es Q (λ m. P m ⊎ Q m) (λ m has. inl (inr has)) k x

    down : (k : ℕ) → Knows es (λ m. P m ⊎ Q m) k → Knows es P k ⊎ Knows es Q k
    down k x = let y = known_by es (λ m. P m ⊎ Q m) k x in by y.0 y.1 y.2
      where
        by : (m : ℕ) → P m ⊎ Q m → (k ≡ m) ⊎ Reaches es k m → Knows es P k ⊎ Knows es Q k
        by m (inl has) way = inl (known_from es P k m has way)
        by m (inr has) way = inr (known_from es Q k m has way)

-- ---- the event that is appended

-- what counts below the end of the list, and at the end for one thread alone
last_counts : (P Q : ℕ → Type 0) (es : List Event) (e : Event) (t u c : ℕ) → ((k : ℕ) → k < length es → P k ↔ Q k)
    → (u ≡ t → Q (length es)) → (Q (length es) → u ≡ t) → Counts P (length es) c → Counts Q (length (es ++ e ∷ [])) (if u == t then c + 1 else c)
last_counts P Q es e t u c same here only counts =
    let below = counts_like P Q (length es) c same counts in
    subst (λ n. Counts Q n (if u == t then c + 1 else c)) (sym (length_more es e))
    (elim (cases_eq u t) [
      | inl own ↦ rw (eq-eqb u t own) (counts_more Q (length es) c (here own) below)
      | inr other ↦ rw (ne_eqb u t other) (inr (λ has. other (only has), below))
    ])

-- the clock of the event, where K is what reaches it
new_clock : (es : List Event) (e : Event) (K : ℕ → Type 0) → ((k : ℕ) → Reaches (es ++ e ∷ []) k (length es) ↔ K k)
    → (u c : ℕ) → Counts (λ k. IsOf es u k × K k) (length es) c → IsClock (es ++ e ∷ []) (length es) u (if u == thread_of e then c + 1 else c)
new_clock es e K reached u c counts =
    last_counts (λ k. IsOf es u k × K k) (λ k. IsOf (es ++ e ∷ []) u k × ((k ≡ length es) ⊎ Reaches (es ++ e ∷ []) k (length es)))
    es e (thread_of e) u c
    (λ k l. (
      λ x. (is_of_longer es (e ∷ []) u k x.0, inr ((reached k).1 x.1)),
      λ x. (is_of_shorter es (e ∷ []) u k l x.0, elim x.1 [ inl here ↦ absurd (omega arith) | inr r ↦ (reached k).0 r ]),
    ))
    (λ own. (subst (λ t. IsOf (es ++ e ∷ []) t (length es)) (sym own) (last_is_of es e), inl refl))
    (λ x. last_thread es e u x.0)
    counts

lock_in : Hold → ℕ
lock_in (exclusive lock) = lock
lock_in (shared lock) = lock

pub same_lock : (lock other : ℕ) → exclusive lock ≡ exclusive other → lock ≡ other
unfolding lock_in
same_lock lock other same = ap lock_in same

pub same_share : (lock other : ℕ) → shared lock ≡ shared other → lock ≡ other
unfolding lock_in
same_share lock other same = ap lock_in same

-- what is against a hold
against_shared : (h k : Hold) (lock : ℕ) → shared lock ≡ k → Against h k → h ≡ exclusive lock
against_shared (exclusive l) (shared m) lock same against = ap exclusive (against ∙ sym (same_share lock m same))
against_shared (exclusive l) (exclusive m) lock same against = absurd (exclusive_not_shared m lock (sym same))
against_shared (shared l) (exclusive m) lock same against = absurd (exclusive_not_shared m lock (sym same))
against_shared (shared l) (shared m) lock same none = absurd none

against_exclusive : (h k : Hold) (lock : ℕ) → exclusive lock ≡ k → Against h k → (h ≡ exclusive lock) ⊎ (h ≡ shared lock)
against_exclusive (exclusive l) (exclusive m) lock same against = inl (ap exclusive (against ∙ sym (same_lock lock m same)))
against_exclusive (shared l) (exclusive m) lock same against = inr (ap shared (against ∙ sym (same_lock lock m same)))
against_exclusive h (shared m) lock same against = absurd (exclusive_not_shared lock m same)

-- an event that joins no thread and takes no hold takes nothing in
nothing_brought : (es : List Event) (e : Event) → joined_thread e ≡ None → hold_taken e ≡ None → (u : ℕ) → KnownCount es (Brings es e) u 0
nothing_brought es e joins_none takes_none u =
    known_nothing es (Brings es e) (λ m x. elim x [ inl y ↦ none-some y.0 (sym joins_none ∙ y.1) | inr y ↦ none-some y.1 (sym takes_none ∙ y.2) ]) u

-- what an event takes in is counted by what the joined thread knew, or what was known where the lock was given back
brought_count : (es : List Event) (e : Event) (f : ℕ → ℕ → ℕ) (g : Hold → ℕ → ℕ) → ((t u : ℕ) → KnownCount es (Carries es t) u (f t u)) → ((hold : Hold) (u : ℕ) → KnownCount es (GivesBack es hold) u (g hold u))
    → (u : ℕ) → KnownCount es (Brings es e) u (news_of e f g u)
brought_count es (Fork thread child) f g threads locks u = nothing_brought es (Fork thread child) refl refl u
brought_count es (Join thread child) f g threads locks u =
    known_alike es (Carries es child) (Brings es (Join thread child)) u (f child u)
    (λ m. (
      λ has. inl (child, refl, has),
      λ x. elim x [ inl y ↦ subst (λ w. Carries es w m) (sym (same_Some child y.0 y.1)) y.2 | inr y ↦ absurd (none-some y.1 y.2) ],
    ))
    (threads child u)
brought_count es (Acquire thread lock) f g threads locks u =
    known_alike es (λ m. GivesBack es (exclusive lock) m ⊎ GivesBack es (shared lock) m) (Brings es (Acquire thread lock)) u (max (g (exclusive lock) u) (g (shared lock) u))
    (λ m. (up m, down m))
    (known_union es (GivesBack es (exclusive lock)) (GivesBack es (shared lock)) u (g (exclusive lock) u) (g (shared lock) u) (locks (exclusive lock) u) (locks (shared lock) u))
  where
    up : (m : ℕ) → GivesBack es (exclusive lock) m ⊎ GivesBack es (shared lock) m → Brings es (Acquire thread lock) m
    up m (inl has) = inr (exclusive lock, exclusive lock, refl, refl, has)
    up m (inr has) = inr (shared lock, exclusive lock, refl, refl, has)

    down : (m : ℕ) → Brings es (Acquire thread lock) m → GivesBack es (exclusive lock) m ⊎ GivesBack es (shared lock) m
    down m (inl y) = absurd (none-some y.0 y.1)
    down m (inr y) = elim (against_exclusive y.0 y.1 lock (same_Some (exclusive lock) y.1 y.2) y.3) [
      | inl same ↦ inl (subst (λ h. GivesBack es h m) same y.4)
      | inr same ↦ inr (subst (λ h. GivesBack es h m) same y.4)
    ]
brought_count es (Release thread lock) f g threads locks u = nothing_brought es (Release thread lock) refl refl u
brought_count es (Share thread lock) f g threads locks u =
    known_alike es (GivesBack es (exclusive lock)) (Brings es (Share thread lock)) u (g (exclusive lock) u)
    (λ m. (
      λ has. inr (exclusive lock, shared lock, refl, refl, has),
      λ x. elim x [
        | inl y ↦ absurd (none-some y.0 y.1)
        | inr y ↦ subst (λ h. GivesBack es h m) (against_shared y.0 y.1 lock (same_Some (shared lock) y.1 y.2) y.3) y.4
      ],
    ))
    (locks (exclusive lock) u)
brought_count es (Unshare thread lock) f g threads locks u = nothing_brought es (Unshare thread lock) refl refl u
brought_count es (Call call) f g threads locks u = nothing_brought es (Call call) refl refl u

-- the clock of an event is the greater of what its thread knew and what it takes in, and itself
pub clock_step : (es : List Event) (e : Event) (f : ℕ → ℕ → ℕ) (g : Hold → ℕ → ℕ) → ((t u : ℕ) → KnownCount es (Carries es t) u (f t u)) → ((hold : Hold) (u : ℕ) → KnownCount es (GivesBack es hold) u (g hold u))
    → (u : ℕ) → IsClock (es ++ e ∷ []) (length es) u (clock_after e f g u)
clock_step es e f g threads locks u =
    new_clock es e (λ k. Knows es (Carries es (thread_of e)) k ⊎ Knows es (Brings es e) k) (event_reached es e) u (known_with_news e f g u)
    (counts_max (IsOf es u) (Knows es (Carries es (thread_of e))) (Knows es (Brings es e)) (length es) (f (thread_of e) u) (news_of e f g u)
    (knows_front es u (Carries es (thread_of e))) (knows_front es u (Brings es e)) (threads (thread_of e) u) (brought_count es e f g threads locks u))

-- the own number of the event is one more than the number of events of its thread that the thread knew
pub own_number_new : (es : List Event) (e : Event) (c : ℕ) → KnownCount es (Carries es (thread_of e)) (thread_of e) c → OwnNumber (es ++ e ∷ []) (thread_of e) (length es) (c + 1)
own_number_new es e c knew =
    counts_more (IsOf (es ++ e ∷ []) (thread_of e)) (length es) c (last_is_of es e)
    (counts_like (IsOf es (thread_of e)) (IsOf (es ++ e ∷ []) (thread_of e)) (length es) c
    (λ k l. (is_of_longer es (e ∷ []) (thread_of e) k, is_of_shorter es (e ∷ []) (thread_of e) k l))
    ((known_own es (thread_of e) c).0 knew))

-- ---- what is known then

-- where the event and what reaches it is known, that is what its clock counts
known_as_clock : (es : List Event) (e : Event) (Q : ℕ → Type 0) (u c : ℕ)
    → ((k : ℕ) → ((k ≡ length es) ⊎ Reaches (es ++ e ∷ []) k (length es)) ↔ Knows (es ++ e ∷ []) Q k)
    → IsClock (es ++ e ∷ []) (length es) u c → KnownCount (es ++ e ∷ []) Q u c
known_as_clock es e Q u c knows =
    counts_like (λ k. IsOf (es ++ e ∷ []) u k × ((k ≡ length es) ⊎ Reaches (es ++ e ∷ []) k (length es)))
    (λ k. IsOf (es ++ e ∷ []) u k × Knows (es ++ e ∷ []) Q k)
    (length (es ++ e ∷ [])) c (λ k l. (λ x. (x.0, (knows k).0 x.1), λ x. (x.0, (knows k).1 x.1)))

-- from places that were there before what was known is known
known_other : (es : List Event) (e : Event) (P Q : ℕ → Type 0) (u c : ℕ) → ((m : ℕ) → P m → Q m) → ((m : ℕ) → Q m → (m < length es) × P m)
    → KnownCount es P u c → KnownCount (es ++ e ∷ []) Q u c
known_other es e P Q u c longer shorter counts =
    (counts_cut Now (length es) (length (es ++ e ∷ [])) c (omega (arith, length_more es e))
    (λ k from to x. let inside = (knows_shorter es (e ∷ []) P Q shorter k x.1).0 in absurd (omega (arith, inside)))).1
    (counts_like Before Now (length es) c (λ k l. (up k, down k l)) counts)
  where
    Before : ℕ → Type 0
    Before k = IsOf es u k × Knows es P k

    Now : ℕ → Type 0
    Now k = IsOf (es ++ e ∷ []) u k × Knows (es ++ e ∷ []) Q k

    up : (k : ℕ) → Before k → Now k
    up k x = (is_of_longer es (e ∷ []) u k x.0, knows_longer es (e ∷ []) P Q longer k x.1)

    down : (k : ℕ) → k < length es → Now k → Before k
    down k l x = (is_of_shorter es (e ∷ []) u k l x.0, (knows_shorter es (e ∷ []) P Q shorter k x.1).1)

-- what the threads know: the thread of the event and the one that it forks know what its clock counts, the others what they knew
pub known_step : (roots : ℕ → Bool) (es : List Event) (e : Event) (f : ℕ → ℕ → ℕ) (g : Hold → ℕ → ℕ) → WellFormed roots es → MayHappen roots es e
    → ((t u : ℕ) → KnownCount es (Carries es t) u (f t u)) → ((hold : Hold) (u : ℕ) → KnownCount es (GivesBack es hold) u (g hold u))
    → (t u : ℕ) → KnownCount (es ++ e ∷ []) (Carries (es ++ e ∷ []) t) u (known_after e f g t u)
known_step roots es e f g formed may threads locks t u =
    elim (cases_eq t (thread_of e)) [
      | inl own ↦ rw (eq-eqb t (thread_of e) own)
          (subst (λ v. KnownCount (es ++ e ∷ []) (Carries (es ++ e ∷ []) v) u (clock_after e f g u)) (sym own)
          (known_as_clock es e (Carries (es ++ e ∷ []) (thread_of e)) u (clock_after e f g u) (actor_knows es e) (clock_step es e f g threads locks u)))
      | inr other ↦ rw (ne_eqb t (thread_of e) other) (by (is_this (forked_thread e) t) refl other)
    ]
  where
    by : (b : Bool) → is_this (forked_thread e) t ≡ b → t ≢ thread_of e → KnownCount (es ++ e ∷ []) (Carries (es ++ e ∷ []) t) u (if b then clock_after e f g u else f t u)
    by true holds other =
        let fork = (this_decides (forked_thread e) t).0 holds in
        known_as_clock es e (Carries (es ++ e ∷ []) t) u (clock_after e f g u)
        (λ k. child_knows es e t k fork (unknown_carries_nothing roots es t formed (may.fresh t fork))) (clock_step es e f g threads locks u)
    by false fails other =
        known_other es e (Carries es t) (Carries (es ++ e ∷ []) t) u (f t u) (carries_longer es (e ∷ []) t)
        (other_carries es e t other (not_from_Decides (is_this (forked_thread e) t) (this_decides (forked_thread e) t) fails)) (threads t u)

-- what is known where a hold was given back: where it is given back now, what the clock of the event counts too, else what was known
pub handed_step : (roots : ℕ → Bool) (es : List Event) (e : Event) (f : ℕ → ℕ → ℕ) (g : Hold → ℕ → ℕ) → WellFormed roots (es ++ e ∷ [])
    → ((t u : ℕ) → KnownCount es (Carries es t) u (f t u)) → ((hold : Hold) (u : ℕ) → KnownCount es (GivesBack es hold) u (g hold u))
    → (hold : Hold) (u : ℕ) → KnownCount (es ++ e ∷ []) (GivesBack (es ++ e ∷ []) hold) u (handed_after e f g hold u)
handed_step roots es e f g formed threads locks hold u = by (is_hold (hold_given e) hold) refl
  where
    again : (h : Hold) → hold_given e ≡ Some h → KnownCount (es ++ e ∷ []) (GivesBack (es ++ e ∷ []) h) u (gathered h (g h u) (clock_after e f g u))
    again (exclusive lock) gives =
        known_as_clock es e (GivesBack (es ++ e ∷ []) (exclusive lock)) u (clock_after e f g u) (λ k. lock_knows roots es e lock k formed gives) (clock_step es e f g threads locks u)
    again (shared lock) gives =
        known_alike (es ++ e ∷ []) (λ m. GivesBack es (shared lock) m ⊎ (m ≡ length es)) (GivesBack (es ++ e ∷ []) (shared lock)) u (max (g (shared lock) u) (clock_after e f g u))
        (given_again es e (shared lock) gives)
        (known_union (es ++ e ∷ []) (GivesBack es (shared lock)) (λ m. m ≡ length es) u (g (shared lock) u) (clock_after e f g u)
        (known_other es e (GivesBack es (shared lock)) (GivesBack es (shared lock)) u (g (shared lock) u) (λ m has. has) (λ m has. (gives_within es (shared lock) m has, has)) (locks (shared lock) u))
        (known_as_clock es e (λ m. m ≡ length es) u (clock_after e f g u) (place_knows es e) (clock_step es e f g threads locks u)))

    by : (b : Bool) → is_hold (hold_given e) hold ≡ b
        → KnownCount (es ++ e ∷ []) (GivesBack (es ++ e ∷ []) hold) u (if b then gathered hold (g hold u) (clock_after e f g u) else g hold u)
    by true holds = again hold ((hold_decides (hold_given e) hold).0 holds)
    by false fails =
        known_other es e (GivesBack es hold) (GivesBack (es ++ e ∷ []) hold) u (g hold u) (gives_longer es (e ∷ []) hold)
        (other_gives es e hold (not_from_Decides (is_hold (hold_given e) hold) (hold_decides (hold_given e) hold) fails)) (locks hold u)
