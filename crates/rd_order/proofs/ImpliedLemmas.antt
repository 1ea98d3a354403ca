-- The roots that a list implies: by them it is well-formed if it is so by others.
use Rattle.std.proofs.Common.{◌≡◌, ◌⊎◌, inl, inr, ℕ, ◌<◌, ◌==◌, Bool, List, take, Some, IsTrue, Decides, refl, subst, arith}
use Rattle.std.specs.Prelude.{slice_get}
use Rattle.std.proofs.lemmas.Bool.{cases_lt, eq-eqb}
use Rattle.std.proofs.lemmas.Bool.Decides.{Decides-and, Decides-or, Decides-eqb, Decides-ltb}
use Rattle.rd_event.specs.declared.events.Event.{Event}
use Rattle.rd_order.specs.Order.{thread_of, forked_thread, joined_thread}
use Rattle.rd_order.specs.OrderTests.{is_this}
use Rattle.rd_order.specs.EventLists.{acts, forks, joins, IsKnownThread, MayHappen, WellFormed, implied_roots}
use Rattle.rd_order.proofs.CountsLemmas.{counts_within}
use Rattle.rd_order.proofs.EventListLemmas.{counted_once, formed_by_places, known_cases, known_later, may_follow_at, some_counted}
use Rattle.rd_order.proofs.OrderLemmas.{this_decides}

-- ---- what an event counts

acts_once : (es : List Event) (j : ℕ) (e : Event) → slice_get es j ≡ Some e → 0 < acts es (thread_of e)
unfolding acts
acts_once es j e at = counted_once (λ x. thread_of x == thread_of e) es j e at (eq-eqb (thread_of e) (thread_of e) refl)

joined_once : (es : List Event) (j : ℕ) (e : Event) (u : ℕ) → slice_get es j ≡ Some e → joined_thread e ≡ Some u → 0 < joins es u
unfolding joins
joined_once es j e u at join = counted_once (λ x. is_this (joined_thread x) u) es j e at ((this_decides (joined_thread e) u).1 join)

forked_once : (es : List Event) (j : ℕ) (e : Event) (u : ℕ) → slice_get es j ≡ Some e → forked_thread e ≡ Some u → 0 < forks es u
unfolding forks
forked_once es j e u at fork = counted_once (λ x. is_this (forked_thread x) u) es j e at ((this_decides (forked_thread e) u).1 fork)

-- no event forks a root
root_unforked : (roots : ℕ → Bool) (es : List Event) (t : ℕ) → WellFormed roots es → IsTrue (roots t) → forks es t ≡ 0
unfolding forks
root_unforked roots es t formed root = elim (cases_lt 0 (forks es t)) [
  | inl some ↦
      (let x = some_counted (λ e. is_this (forked_thread e) t) es some in
      absurd ((may_follow_at roots es x.0 x.1 formed x.2).fresh t ((this_decides (forked_thread x.1) t).0 x.3) (inl root)))
  | inr none ↦ omega (arith, none)
]

-- who acts or is joined is known
acting_known : (roots : ℕ → Bool) (es : List Event) (t : ℕ) → WellFormed roots es → 0 < acts es t → IsKnownThread roots es t
unfolding acts
acting_known roots es t formed some =
    let x = some_counted (λ e. thread_of e == t) es some in
    known_later roots es x.0 t
    (subst (IsKnownThread roots (take x.0 es)) ((Decides-eqb (thread_of x.1) t).0 x.3) (may_follow_at roots es x.0 x.1 formed x.2).known_actor)

joined_known : (roots : ℕ → Bool) (es : List Event) (t : ℕ) → WellFormed roots es → 0 < joins es t → IsKnownThread roots es t
unfolding joins
joined_known roots es t formed some =
    let x = some_counted (λ e. is_this (joined_thread e) t) es some in
    known_later roots es x.0 t ((may_follow_at roots es x.0 x.1 formed x.2).known_joined t ((this_decides (joined_thread x.1) t).0 x.3))

-- ---- implied roots

implied_decides : (es : List Event) (t : ℕ) → Decides (implied_roots es t) (((0 < acts es t) ⊎ (0 < joins es t)) × (forks es t ≡ 0))
unfolding implied_roots
implied_decides es t = Decides-and _ _ (Decides-or _ _ (Decides-ltb 0 (acts es t)) (Decides-ltb 0 (joins es t))) (Decides-eqb (forks es t) 0)

-- who is known, and acts or is joined, is known by the implied roots
known_by_implied : (roots : ℕ → Bool) (es : List Event) (j t : ℕ) → WellFormed roots es → (0 < acts es t) ⊎ (0 < joins es t)
    → IsKnownThread roots (take j es) t → IsKnownThread (implied_roots es) (take j es) t
known_by_implied roots es j t formed does (inl root) = inl ((implied_decides es t).1 (does, root_unforked roots es t formed root))
known_by_implied roots es j t formed does (inr begun) = inr begun

-- who is known by the implied roots is known
implied_known : (roots : ℕ → Bool) (es : List Event) (t : ℕ) → WellFormed roots es → IsKnownThread (implied_roots es) es t → IsKnownThread roots es t
implied_known roots es t formed (inl root) = elim ((implied_decides es t).0 root).0 [
  | inl act ↦ acting_known roots es t formed act
  | inr join ↦ joined_known roots es t formed join
]
implied_known roots es t formed (inr begun) = inr begun

may_by_implied : (roots : ℕ → Bool) (es : List Event) (j : ℕ) (e : Event) → WellFormed roots es → slice_get es j ≡ Some e → MayHappen (implied_roots es) (take j es) e
may_by_implied roots es j e formed at =
    let may = may_follow_at roots es j e formed at in
    record {
      fresh = λ u fork known. elim known [
        | inl root ↦ omega (arith, ((implied_decides es u).0 root).1, forked_once es j e u at fork)
        | inr begun ↦ may.fresh u fork (inr begun)
      ];
      known_actor = known_by_implied roots es j (thread_of e) formed (inl (acts_once es j e at)) may.known_actor;
      known_joined = λ u join. known_by_implied roots es j u formed (inr (joined_once es j e u at join)) (may.known_joined u join);
      running = may.running;
      other_joined = may.other_joined;
      free = may.free;
      held = may.held;
      one_kind = may.one_kind;
    }

pub formed_by_implied : (roots : ℕ → Bool) (es : List Event) → WellFormed roots es → WellFormed (implied_roots es) es
formed_by_implied roots es formed = (formed_by_places (implied_roots es) es).1 (
  λ j e at. may_by_implied roots es j e formed at,
  record {
    few_events = formed.bounded.few_events;
    few_threads = λ n c. counts_within (IsKnownThread (implied_roots es) es) (IsKnownThread roots es) n c 4294967295 (known_cases roots es)
        (λ t. implied_known roots es t formed) (formed.bounded.few_threads n);
  },
)
