-- An order of events doesn't hang on the values of calls.
use Rattle.std.proofs.Common.{◌≡◌, ◌≢◌, ◌⊎◌, ℕ, zero, suc, ◌+◌, ◌<◌, ◌==◌, ◌||◌, ◌&&◌, Bool, List, [], ◌∷◌, ◌++◌, Option, Some, None, map, cond, slice_get, refl, sym, ap, subst, ◌∙◌, arith}
use Rattle.std.specs.Prelude.{nat_lt, count_by, fold, option_map, IsTrue}
use Rattle.std.specs.Option.{option_map_or}
use Rattle.std.proofs.lemmas.List.{length-map, map-append}
use Rattle.std.proofs.lemmas.Option.{slice_get-map}
use Rattle.std.proofs.lemmas.List.Folds.{fold-map}
use Rattle.rd_event.specs.declared.events.Call.{Call as CallOf}
use Rattle.rd_event.specs.declared.events.Event.{Event}
use Rattle.rd_event.specs.declared.events.Event.TheVariants.{Fork, Join, Acquire, Release, Share, Unshare, Call}
use Rattle.rd_linear.specs.Lanes.{HaveThreads, order_by, thread_at}
use Rattle.rd_linear.specs.Linear.{Stands}
use Rattle.rd_linear.specs.Turns.{turns}
use Rattle.rd_reorder_command.specs.Values.{without_values}
use Rattle.rd_order.specs.Counts.{Counts}
use Rattle.rd_order.specs.EventLists.{Follow, IsKnownThread, MayHappen, WellFormed, calls, forks, givings, is_call_on, is_hold, joins, takings}
use Rattle.rd_order.specs.Order.{Hold, call_in, forked_thread, hold_given, hold_taken, joined_thread, thread_of}
use Rattle.rd_order.specs.OrderTests.{any_below, are_linked, is_edge, is_handed, is_linked, is_same, is_this, reaches, reaches_within}

-- ---- one event

thread_same : (e : Event) → thread_of (without_values e) ≡ thread_of e
thread_same (Fork thread child) = refl
thread_same (Join thread child) = refl
thread_same (Acquire thread lock) = refl
thread_same (Release thread lock) = refl
thread_same (Share thread lock) = refl
thread_same (Unshare thread lock) = refl
thread_same (Call call) = refl

forked_same : (e : Event) → forked_thread (without_values e) ≡ forked_thread e
forked_same (Fork thread child) = refl
forked_same (Join thread child) = refl
forked_same (Acquire thread lock) = refl
forked_same (Release thread lock) = refl
forked_same (Share thread lock) = refl
forked_same (Unshare thread lock) = refl
forked_same (Call call) = refl

joined_same : (e : Event) → joined_thread (without_values e) ≡ joined_thread e
joined_same (Fork thread child) = refl
joined_same (Join thread child) = refl
joined_same (Acquire thread lock) = refl
joined_same (Release thread lock) = refl
joined_same (Share thread lock) = refl
joined_same (Unshare thread lock) = refl
joined_same (Call call) = refl

taken_same : (e : Event) → hold_taken (without_values e) ≡ hold_taken e
taken_same (Fork thread child) = refl
taken_same (Join thread child) = refl
taken_same (Acquire thread lock) = refl
taken_same (Release thread lock) = refl
taken_same (Share thread lock) = refl
taken_same (Unshare thread lock) = refl
taken_same (Call call) = refl

given_same : (e : Event) → hold_given (without_values e) ≡ hold_given e
given_same (Fork thread child) = refl
given_same (Join thread child) = refl
given_same (Acquire thread lock) = refl
given_same (Release thread lock) = refl
given_same (Share thread lock) = refl
given_same (Unshare thread lock) = refl
given_same (Call call) = refl

on_same : (object kind : ℕ) (e : Event) → is_call_on (call_in (without_values e)) object kind ≡ is_call_on (call_in e) object kind
on_same object kind (Fork thread child) = refl
on_same object kind (Join thread child) = refl
on_same object kind (Acquire thread lock) = refl
on_same object kind (Release thread lock) = refl
on_same object kind (Share thread lock) = refl
on_same object kind (Unshare thread lock) = refl
on_same object kind (Call call) = refl

-- ---- the order

linked_same : (a b : Event) → is_linked (without_values a) (without_values b) ≡ is_linked a b
unfolding is_linked
linked_same a b i =
    (thread_same a i == thread_same b i)
    || (is_this (forked_same a i) (thread_same b i)
    || (is_this (joined_same b i) (thread_same a i)
    || (is_same (forked_same a i) (joined_same b i) || is_handed (given_same a i) (taken_same b i))))

both_same : (a b : Option Event) → are_linked (option_map without_values a) (option_map without_values b) ≡ are_linked a b
both_same None b = refl
both_same (Some a) None = refl
both_same (Some a) (Some b) = linked_same a b

thread_kept : (o : Option Event) → option_map_or thread_of (option_map without_values o) 0 ≡ option_map_or thread_of o 0
thread_kept None = refl
thread_kept (Some e) = thread_same e

module _ (es : List Event) where
  abbrev bare : List Event
  bare = map without_values es

  edge_same : (p q : ℕ) → is_edge bare p q ≡ is_edge es p q
  unfolding is_edge
  edge_same p q =
      ap (λ linked. nat_lt p q && linked)
      ((λ i. are_linked (slice_get-map without_values es p i) (slice_get-map without_values es q i)) ∙ both_same (slice_get es p) (slice_get es q))

  within_same : (edges p q : ℕ) → reaches_within bare edges p q ≡ reaches_within es edges p q
  within_same zero p q = refl
  within_same (suc edges) p q = λ i. edge_same p q i || any_below (λ k. edge_same k q i && within_same edges p k i) q

  reaches_same : (p q : ℕ) → reaches bare p q ≡ reaches es p q
  unfolding reaches
  reaches_same p q = within_same q p q

  acting_same : (p : ℕ) → thread_at bare p ≡ thread_at es p
  acting_same p = ap (λ o. option_map_or thread_of o 0) (slice_get-map without_values es p) ∙ thread_kept (slice_get es p)

  pub order_same : (threads : List ℕ) (number : ℕ) → order_by bare threads number ≡ order_by es threads number
  unfolding order_by
  order_same threads number i =
      turns (length-map es without_values i) (λ p. acting_same p i) (λ p q. reaches_same p q i) threads (length-map es without_values i) number []

  -- the same threads act
  pub threads_same : (threads : List ℕ) → HaveThreads bare threads → HaveThreads es threads
  threads_same threads have = record {
    rising = have.rising;
    all = λ p inside. subst (Stands threads) (acting_same p) (have.all p (omega (arith, inside, length-map es without_values)));
    only = λ t stands.
        let (p, below, is) = have.only t stands in
        (p, omega (arith, below, length-map es without_values), sym (acting_same p) ∙ is);
  }

-- ---- well-formed lists

counted_same : (test : Event → Bool) → ((e : Event) → test (without_values e) ≡ test e) → (es : List Event) → count_by test (map without_values es) ≡ count_by test es
counted_same test same es = fold-map (λ a x. a + cond (test x) 1 0) without_values 0 es ∙ (λ i. fold (λ a x. a + cond (same x i) 1 0) 0 es)

module _ (es : List Event) where
  forks_same : (t : ℕ) → forks (map without_values es) t ≡ forks es t
  unfolding forks
  forks_same t = counted_same (λ e. is_this (forked_thread e) t) (λ e i. is_this (forked_same e i) t) es

  joins_same : (t : ℕ) → joins (map without_values es) t ≡ joins es t
  unfolding joins
  joins_same t = counted_same (λ e. is_this (joined_thread e) t) (λ e i. is_this (joined_same e i) t) es

  takings_same : (t : ℕ) (h : Hold) → takings (map without_values es) t h ≡ takings es t h
  unfolding takings
  takings_same t h = counted_same (λ e. (thread_of e == t) && is_hold (hold_taken e) h) (λ e i. (thread_same e i == t) && is_hold (taken_same e i) h) es

  givings_same : (t : ℕ) (h : Hold) → givings (map without_values es) t h ≡ givings es t h
  unfolding givings
  givings_same t h = counted_same (λ e. (thread_of e == t) && is_hold (hold_given e) h) (λ e i. (thread_same e i == t) && is_hold (given_same e i) h) es

  calls_same : (object kind : ℕ) → calls (map without_values es) object kind ≡ calls es object kind
  unfolding calls
  calls_same object kind = counted_same (λ e. is_call_on (call_in e) object kind) (on_same object kind) es

  known_same : (roots : ℕ → Bool) (t : ℕ) → IsKnownThread roots (map without_values es) t ≡ IsKnownThread roots es t
  known_same roots t i = IsTrue (roots t) ⊎ (0 < forks_same t i)

one_kind_same : (roots : ℕ → Bool) (before : List Event) (e : Event) → MayHappen roots before e → (call : CallOf) → call_in (without_values e) ≡ Some call
    → (kind : ℕ) → kind ≢ call.kind → calls (map without_values before) call.object kind ≡ 0
one_kind_same roots before (Call own) may call is kind other =
    let object : own.object ≡ call.object = cc in
    let same : own.kind ≡ call.kind = cc in
    calls_same before call.object kind
    ∙ subst (λ o. calls before o kind ≡ 0) object (may.one_kind own refl kind (λ e. other (e ∙ same)))
one_kind_same roots before (Fork thread child) may call is kind other = cc
one_kind_same roots before (Join thread child) may call is kind other = cc
one_kind_same roots before (Acquire thread lock) may call is kind other = cc
one_kind_same roots before (Release thread lock) may call is kind other = cc
one_kind_same roots before (Share thread lock) may call is kind other = cc
one_kind_same roots before (Unshare thread lock) may call is kind other = cc

may_same : (roots : ℕ → Bool) (before : List Event) (e : Event) → MayHappen roots before e → MayHappen roots (map without_values before) (without_values e)
may_same roots before e may = record {
  fresh = λ u forked known. may.fresh u (sym (forked_same e) ∙ forked) (subst (λ (T : Type 0). T) (known_same before roots u) known);
  known_actor = subst (λ (T : Type 0). T) (sym (known_same before roots (thread_of (without_values e))))
      (subst (IsKnownThread roots before) (sym (thread_same e)) may.known_actor);
  known_joined = λ u joined. subst (λ (T : Type 0). T) (sym (known_same before roots u)) (may.known_joined u (sym (joined_same e) ∙ joined));
  running = joins_same before (thread_of (without_values e)) ∙ (ap (joins before) (thread_same e) ∙ may.running);
  other_joined = λ u joined same. may.other_joined u (sym (joined_same e) ∙ joined) (same ∙ thread_same e);
  free = λ h k taken against u other.
      takings_same before u k
      ∙ (may.free h k (sym (taken_same e) ∙ taken) against u (λ same. other (same ∙ sym (thread_same e))) ∙ sym (givings_same before u k));
  held = λ h given.
      let t = thread_of (without_values e) in
      let below = subst (λ t. givings before t h < takings before t h) (sym (thread_same e)) (may.held h (sym (given_same e) ∙ given)) in
      omega (arith, below, givings_same before t h, takings_same before t h);
  one_kind = one_kind_same roots before e may;
}

follow_same : (roots : ℕ → Bool) (before es : List Event) → Follow roots before es → Follow roots (map without_values before) (map without_values es)
follow_same roots before [] follow = tt
follow_same roots before (e ∷ es) follow = (
  may_same roots before e follow.0,
  subst (λ l. Follow roots l (map without_values es)) (map-append without_values before (e ∷ [])) (follow_same roots (before ++ e ∷ []) es follow.1),
)

pub formed_same : (roots : ℕ → Bool) (es : List Event) → WellFormed roots es → WellFormed roots (map without_values es)
formed_same roots es formed = record {
  follow = follow_same roots [] es formed.follow;
  bounded = record {
    few_events = omega (arith, formed.bounded.few_events, length-map es without_values);
    few_threads = λ n c counts. formed.bounded.few_threads n c (subst (λ (K : ℕ → Type 0). Counts K n c) (λ i t. known_same es roots t i) counts);
  };
}
