-- What threads carry on from in well-formed lists.
use Rattle.std.proofs.Common.{inl, inr, ℕ, Bool, List, take, refl, subst}
use Rattle.std.proofs.lemmas.Bool.{eq-eqb}
use Rattle.rd_event.specs.declared.events.Event.{Event}
use Rattle.rd_order.specs.Order.{forked_thread}
use Rattle.rd_order.specs.OrderTests.{is_this}
use Rattle.rd_order.specs.EventLists.{forks, IsKnownThread, WellFormed}
use Rattle.rd_order.proofs.EventListLemmas.{counted_once, known_later, may_follow_at}
use Rattle.rd_hb.specs.Knows.{Carries}

-- a thread that carries on from a place is known
pub carries_known : (roots : ℕ → Bool) (es : List Event) (t m : ℕ) → WellFormed roots es → Carries es t m → IsKnownThread roots es t
unfolding forks
carries_known roots es t m formed (inl of) =
    known_later roots es m t (subst (IsKnownThread roots (take m es)) of.2 (may_follow_at roots es m of.0 formed of.1).known_actor)
carries_known roots es t m formed (inr x) =
    inr (counted_once (λ e. is_this (forked_thread e) t) es m x.0 x.1 (rw x.2 (eq-eqb t t refl)))

-- so a thread that isn't known carries on from no place
pub unknown_carries_nothing : (roots : ℕ → Bool) (es : List Event) (t : ℕ) → WellFormed roots es → ¬ (IsKnownThread roots es t) → (m : ℕ) → ¬ (Carries es t m)
unknown_carries_nothing roots es t formed unknown m carries = unknown (carries_known roots es t m formed carries)
