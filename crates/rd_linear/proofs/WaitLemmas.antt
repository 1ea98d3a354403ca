-- An event is ready where its waits stand.
use Rattle.std.proofs.Common.{◌<◌, ◌≤◌, ◌+◌, ◌⊎◌, ◌↔◌, ℕ, List, zero, suc, arith, inl, inr}
use Rattle.rd_event.specs.declared.events.Event.{Event}
use Rattle.rd_order.specs.Order.{Reaches}
use Rattle.rd_order.proofs.OrderLemmas.{reaches_rises}
use Rattle.rd_linear.specs.Linear.{Placed, Stands}
use Rattle.rd_linear.specs.Waits.{AllStand, AreWaits}

module _ (es : List Event) (places waits : List ℕ) (p : ℕ) (placed : Placed es places) (are : AreWaits es p waits) (stand : AllStand places waits) where
  -- what reaches the event stands, from the last place down
  stands_within : (n k : ℕ) → p ≤ k + n → Reaches es k p → Stands places k
  stands_within zero k near reach = let rises : k < p = reaches_rises es k p reach in absurd (omega arith)
  stands_within (suc n) k near reach = by (are.rest k reach) (λ m l. stands_within n m l)
    where
      by : Stands waits k ⊎ ((m : ℕ) × Reaches es k m × Reaches es m p) → ((m : ℕ) → p ≤ m + n → Reaches es m p → Stands places m) → Stands places k
      by (inl own) on = stand k own
      by (inr (m, first, then)) on =
          let rises : k < m = reaches_rises es k m first in
          let s = on m (omega arith) then in
          let c = placed.closed k m s.0 first s.1 in
          (c.0, c.2)

  stands_all : (k : ℕ) → Reaches es k p → Stands places k
  stands_all k reach = stands_within p k (omega arith) reach

pub ready_law : (es : List Event) (places waits : List ℕ) (p : ℕ) → Placed es places → AreWaits es p waits
    → ((k : ℕ) → Reaches es k p → Stands places k) ↔ AllStand places waits
ready_law es places waits p placed are = (
  λ ready w stands. ready w (are.reach w stands),
  λ stand. stands_all es places waits p placed are stand,
)
