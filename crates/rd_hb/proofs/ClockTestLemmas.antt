-- The clocks that are computed are the clocks.
use Rattle.std.proofs.Common.{◌≡◌, ◌⊎◌, inl, inr, ℕ, zero, suc, ◌==◌, Bool, ◌&&◌, ◌||◌, List, length, Option, Some, None, Decides, refl, ◌∙◌, ap}
use Rattle.std.specs.Prelude.{slice_get}
use Rattle.std.proofs.lemmas.Bool.{cases_Bool}
use Rattle.std.proofs.lemmas.Bool.Decides.{Decides-and, Decides-or, Decides-eqb, Decides-like, not_from_Decides}
use Rattle.std.proofs.lemmas.Option.{none-some, same_Some}
use Rattle.rd_event.specs.declared.events.Event.{Event}
use Rattle.rd_hb.specs.ClockTests.{count_below, is_of, clock_at}
use Rattle.rd_order.specs.Counts.{Counts}
use Rattle.rd_hb.specs.EventClocks.{IsClock}
use Rattle.rd_order.specs.Order.{IsOf, Reaches, thread_of}
use Rattle.rd_order.specs.OrderTests.{reaches}
use Rattle.rd_order.proofs.OrderLemmas.{reaches_decides}

-- of the numbers below n, as many have P as pass the test for it
pub counts_by_test : (test : ℕ → Bool) (P : ℕ → Type 0) → ((k : ℕ) → Decides (test k) (P k)) → (n : ℕ) → Counts P n (count_below test n)
counts_by_test test P tells zero = refl
counts_by_test test P tells (suc n) = elim (cases_Bool (test n)) [
  | inl pass ↦ rw pass (inl ((tells n).0 pass, (count_below test n, refl, counts_by_test test P tells n)))
  | inr fail ↦ rw fail (inr (not_from_Decides (test n) (tells n) fail, counts_by_test test P tells n))
]

is_of_decides : (o : Option Event) (t : ℕ) → Decides (is_of o t) ((e : Event) × (o ≡ Some e) × (thread_of e ≡ t))
is_of_decides None t = (λ h. cc, λ x. absurd (none-some x.0 x.1))
is_of_decides (Some e) t =
    Decides-like (thread_of e == t) (λ same. (e, refl, same)) (λ x. ap thread_of (same_Some e x.0 x.1) ∙ x.2) (Decides-eqb (thread_of e) t)

pub clock_at_is : (es : List Event) (j t : ℕ) → IsClock es j t (clock_at es j t)
unfolding clock_at
clock_at_is es j t =
    counts_by_test (λ k. is_of (slice_get es k) t && ((k == j) || reaches es k j)) (λ k. IsOf es t k × ((k ≡ j) ⊎ Reaches es k j))
    (λ k. Decides-and _ _ (is_of_decides (slice_get es k) t) (Decides-or _ _ (Decides-eqb k j) (reaches_decides es k j)))
    (length es)
