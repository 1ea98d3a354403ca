-- Vector clocks: Fidge 1988 and Mattern 1989.
use Rattle.std.specs.Prelude.{◌≡◌, ◌⊎◌, ℕ, suc, List, length}
use Rattle.rd_event.specs.declared.events.Event.{Event}
use Rattle.rd_order.specs.Counts.{Counts}
use Rattle.rd_order.specs.Order.{IsOf, Reaches}

-- the event at place i is the o-th of thread t, counted from 1
abbrev pub OwnNumber : List Event → ℕ → ℕ → ℕ → Type 0
OwnNumber es t i o = Counts (IsOf es t) (suc i) o

-- the clock of place j has c at thread t: of the events of t, c are at j or reach it
abbrev pub IsClock : List Event → ℕ → ℕ → ℕ → Type 0
IsClock es j t c = Counts (λ k. IsOf es t k × ((k ≡ j) ⊎ Reaches es k j)) (length es) c
