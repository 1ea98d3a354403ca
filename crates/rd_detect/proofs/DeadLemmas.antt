-- Calls that each thread knows which may still act.
use Rattle.std.proofs.Common.{◌≡◌, inl, inr, ℕ, ◌<◌, ◌+◌, Bool, if◌then◌else◌, List, [], ◌∷◌, ◌++◌, length, Some, refl, sym, ap, subst, ◌∙◌, arith}
use Rattle.std.proofs.lemmas.Bool.{cases_Bool}
use Rattle.std.proofs.lemmas.List.Sums.{sum_by_push}
use Rattle.rd_event.specs.declared.events.Event.{Event}
use Rattle.rd_hb.specs.Knows.{Carries, Knows}
use Rattle.rd_hb.proofs.KnowsLemmas.{carried_reaches, carries_longer, carries_within, known_by, knows_longer}
use Rattle.rd_order.specs.EventLists.{IsKnownThread, WellFormed, forks, joins}
use Rattle.rd_order.specs.Order.{forked_thread, joined_thread, thread_of, Reaches}
use Rattle.rd_order.specs.OrderTests.{is_this}
use Rattle.rd_order.proofs.EventListLemmas.{formed_more, forks_more, known_cases}
use Rattle.rd_order.proofs.OrderLemmas.{at_end, reaches_joined, reaches_longer, this_decides}
use Rattle.rd_detect.specs.Detect.{IsDead}

-- what a thread that may act knows reaches its next event
known_reaches : (es : List Event) (e : Event) (i : ℕ) → Knows es (Carries es (thread_of e)) i → Reaches (es ++ e ∷ []) i (length es)
known_reaches es e i knows =
    let from = known_by es (Carries es (thread_of e)) i knows in
    let inside : from.0 < length es = carries_within es (thread_of e) from.0 from.1 in
    let last = carried_reaches (es ++ e ∷ []) (thread_of e) from.0 (length es) inside (carries_longer es (e ∷ []) (thread_of e) from.0 from.1) (e, at_end es e, refl) in
    elim from.2 [
      | inl here ↦ subst (λ k. Reaches (es ++ e ∷ []) k (length es)) (sym here) last
      | inr way ↦ reaches_joined (es ++ e ∷ []) i from.0 (length es) (reaches_longer es (e ∷ []) i from.0 way) last
    ]

-- a dead call reaches the next event
pub dead_reaches : (roots : ℕ → Bool) (es : List Event) (e : Event) (i : ℕ) → WellFormed roots (es ++ e ∷ []) → IsDead roots es i → Reaches (es ++ e ∷ []) i (length es)
dead_reaches roots es e i formed dead =
    let may = ((formed_more roots es e).0 formed).1 in
    known_reaches es e i (dead (thread_of e) may.known_actor may.running)

joins_more : (es : List Event) (e : Event) (t : ℕ) → joins (es ++ e ∷ []) t ≡ joins es t + (if is_this (joined_thread e) t then 1 else 0)
unfolding joins
joins_more es e t = sum_by_push (λ x. if is_this (joined_thread x) t then 1 else 0) es e

-- a thread that is known only with the event is forked by it
begun_by : (roots : ℕ → Bool) (es : List Event) (e : Event) (t : ℕ) → IsKnownThread roots (es ++ e ∷ []) t → ¬ (IsKnownThread roots es t) → forked_thread e ≡ Some t
begun_by roots es e t (inl root) new = absurd (new (inl root))
begun_by roots es e t (inr begun) new = elim (cases_Bool (is_this (forked_thread e) t)) [
  | inl this ↦ (this_decides (forked_thread e) t).0 this
  | inr other ↦ absurd (new (inr (subst (λ n. 0 < n) (forks_more es e t ∙ ap (λ b. forks es t + (if b then 1 else 0)) other ∙ omega arith) begun)))
]

-- and stays dead
pub dead_longer : (roots : ℕ → Bool) (es : List Event) (e : Event) (i : ℕ) → WellFormed roots (es ++ e ∷ []) → IsDead roots es i → IsDead roots (es ++ e ∷ []) i
dead_longer roots es e i formed dead t known running = elim (known_cases roots es t) [
  | inl was ↦ knows_longer es (e ∷ []) (Carries es t) (Carries (es ++ e ∷ []) t) (λ m carries. carries_longer es (e ∷ []) t m carries) i
      (dead t was (omega (arith, running, joins_more es e t)))
  | inr new ↦ inr (length es, inr (e, at_end es e, begun_by roots es e t known new), dead_reaches roots es e i formed dead)
]
