-- The counts of a list of events with one more, and in another order.
use Rattle.std.proofs.Common.{◌≡◌, ◌≢◌, ◌≤◌, ◌<◌, ◌+◌, ◌⊎◌, ◌==◌, ◌&&◌, ◌++◌, cond, ℕ, Bool, true, List, [], ◌∷◌, Option, Some, None, count_by, arith, inl, inr, refl, sym, ◌∙◌, ap}
use Rattle.std.specs.Prelude.{if◌then◌else◌}
use Rattle.std.proofs.lemmas.Bool.{cases_Bool}
use Rattle.std.proofs.lemmas.Bool.Decides.{not_from_Decides, Decides-and, Decides-eqb}
use Rattle.std.proofs.lemmas.List.Sums.{sum_by_push}
use Rattle.rd_event.specs.declared.events.Call.{Call as CallOf}
use Rattle.rd_event.specs.declared.events.Event.{Event}
use Rattle.rd_order.specs.Order.{call_in, forked_thread, joined_thread, Hold}
use Rattle.rd_order.specs.OrderTests.{is_this}
use Rattle.rd_order.specs.EventLists.{calls, forks, givings, is_call_on, joins, takings}
use Rattle.rd_order.proofs.EventListLemmas.{forks_more}
use Rattle.rd_order.proofs.OrderLemmas.{this_decides}

-- one event more
pub forks_one : (es : List Event) (e : Event) (u : ℕ) → forked_thread e ≡ Some u → 0 < forks (es ++ e ∷ []) u
forks_one es e u begins = omega (arith, forks_more es e u, ap {B = ℕ} (λ b. cond b 1 0) ((this_decides (forked_thread e) u).1 begins))

pub forks_same : (es : List Event) (e : Event) (u : ℕ) → ¬ (forked_thread e ≡ Some u) → forks (es ++ e ∷ []) u ≡ forks es u
forks_same es e u other = elim (cases_Bool (is_this (forked_thread e) u)) [
  | inl same ↦ absurd (other ((this_decides (forked_thread e) u).0 same))
  | inr no_fork ↦ omega (arith, forks_more es e u, ap {B = ℕ} (λ b. cond b 1 0) no_fork)
]

pub forks_cases : (e : Event) (u : ℕ) → (forked_thread e ≡ Some u) ⊎ ¬ (forked_thread e ≡ Some u)
forks_cases e u = elim (cases_Bool (is_this (forked_thread e) u)) [
  | inl same ↦ inl ((this_decides (forked_thread e) u).0 same)
  | inr other ↦ inr (not_from_Decides _ (this_decides (forked_thread e) u) other)
]

joins_more : (es : List Event) (e : Event) (t : ℕ) → joins (es ++ e ∷ []) t ≡ joins es t + (if is_this (joined_thread e) t then 1 else 0)
unfolding joins
joins_more es e t = sum_by_push (λ x. if is_this (joined_thread x) t then 1 else 0) es e

pub joins_grow : (es : List Event) (e : Event) (u : ℕ) → joins es u ≤ joins (es ++ e ∷ []) u
joins_grow es e u = omega (arith, joins_more es e u)

pub joins_one : (es : List Event) (e : Event) (u : ℕ) → joined_thread e ≡ Some u → 0 < joins (es ++ e ∷ []) u
joins_one es e u ends = omega (arith, joins_more es e u, ap {B = ℕ} (λ b. cond b 1 0) ((this_decides (joined_thread e) u).1 ends))

pub joins_same : (es : List Event) (e : Event) (u : ℕ) → ¬ (joined_thread e ≡ Some u) → joins (es ++ e ∷ []) u ≡ joins es u
joins_same es e u other = elim (cases_Bool (is_this (joined_thread e) u)) [
  | inl same ↦ absurd (other ((this_decides (joined_thread e) u).0 same))
  | inr no_join ↦ omega (arith, joins_more es e u, ap {B = ℕ} (λ b. cond b 1 0) no_join)
]

calls_more : (es : List Event) (e : Event) (object kind : ℕ) → calls (es ++ e ∷ []) object kind ≡ calls es object kind + (if is_call_on (call_in e) object kind then 1 else 0)
unfolding calls
calls_more es e object kind = sum_by_push (λ x. if is_call_on (call_in x) object kind then 1 else 0) es e

pub calls_grow : (es : List Event) (e : Event) (object kind : ℕ) → calls es object kind ≤ calls (es ++ e ∷ []) object kind
calls_grow es e object kind = omega (arith, calls_more es e object kind)

pub calls_one : (es : List Event) (e : Event) (call : CallOf) → call_in e ≡ Some call → 0 < calls (es ++ e ∷ []) call.object call.kind
calls_one es e call is =
    let here : is_call_on (call_in e) call.object call.kind ≡ true = (ap (λ o. is_call_on o call.object call.kind) is)
    ∙ (Decides-and _ _ (Decides-eqb call.object call.object) (Decides-eqb call.kind call.kind)).1 (refl, refl) in
    omega (arith, calls_more es e call.object call.kind, ap {B = ℕ} (λ b. cond b 1 0) here)

-- an event that isn't such a call is not counted
pub calls_same : (es : List Event) (e : Event) (object kind : ℕ) → ((call : CallOf) → call_in e ≡ Some call → call.object ≡ object → call.kind ≢ kind)
    → calls (es ++ e ∷ []) object kind ≡ calls es object kind
calls_same es e object kind other = by (call_in e) refl
  where
    by : (o : Option CallOf) → call_in e ≡ o → calls (es ++ e ∷ []) object kind ≡ calls es object kind
    by None is = omega (arith, calls_more es e object kind, ap {B = ℕ} (λ p. cond (is_call_on p object kind) 1 0) is)
    by (Some call) is = elim (cases_Bool ((call.object == object) && (call.kind == kind))) [
      | inl same ↦ (let x = (Decides-and _ _ (Decides-eqb call.object object) (Decides-eqb call.kind kind)).0 same in absurd (other call is x.0 x.1))
      | inr apart ↦ omega (arith, calls_more es e object kind, ap {B = ℕ} (λ p. cond (is_call_on p object kind) 1 0) is, ap {B = ℕ} (λ b. cond b 1 0) apart)
    ]

-- two lists in which every test counts as many events
pub record AreAlike (es fs : List Event) : Type 0 where
  pub counts : (test : Event → Bool) → count_by test es ≡ count_by test fs

pub alike_more : (es fs : List Event) (e : Event) → AreAlike es fs → AreAlike (es ++ e ∷ []) (fs ++ e ∷ [])
alike_more es fs e s = record {
  counts = λ p.
      sum_by_push (λ x. cond (p x) 1 0) es e ∙ ap (λ n. n + cond (p e) 1 0) (s.counts p) ∙ sym (sum_by_push (λ x. cond (p x) 1 0) fs e);
}

pub alike_exchanged : (es : List Event) (a b : Event) → AreAlike ((es ++ a ∷ []) ++ b ∷ []) ((es ++ b ∷ []) ++ a ∷ [])
alike_exchanged es a b = record {
  counts = λ p.
      let f : Event → ℕ = λ x. cond (p x) 1 0 in
      omega (arith, sum_by_push f (es ++ a ∷ []) b, sum_by_push f es a, sum_by_push f (es ++ b ∷ []) a, sum_by_push f es b);
}

pub alike_back : (es fs : List Event) → AreAlike es fs → AreAlike fs es
alike_back es fs s = record { counts = λ p. sym (s.counts p) }

pub forks_alike : (es fs : List Event) (u : ℕ) → AreAlike es fs → forks es u ≡ forks fs u
unfolding forks
forks_alike es fs u s = s.counts _

pub joins_alike : (es fs : List Event) (u : ℕ) → AreAlike es fs → joins es u ≡ joins fs u
unfolding joins
joins_alike es fs u s = s.counts _

pub calls_alike : (es fs : List Event) (object kind : ℕ) → AreAlike es fs → calls es object kind ≡ calls fs object kind
unfolding calls
calls_alike es fs object kind s = s.counts _

pub takings_alike : (es fs : List Event) (t : ℕ) (h : Hold) → AreAlike es fs → takings es t h ≡ takings fs t h
unfolding takings
takings_alike es fs t h s = s.counts _

pub givings_alike : (es fs : List Event) (t : ℕ) (h : Hold) → AreAlike es fs → givings es t h ≡ givings fs t h
unfolding givings
givings_alike es fs t h s = s.counts _
