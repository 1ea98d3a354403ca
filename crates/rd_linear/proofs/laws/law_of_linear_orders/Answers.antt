use Rattle.std.proofs.Common.{refl}
use Rattle.rd_order.specs.EventLists.{WellFormed}
use Rattle.rd_linear.proofs.CountLemmas.{AreAlike}
use Rattle.rd_linear.proofs.LinearLemmas.{linear_below}
use Rattle.rd_linear.proofs.OrderLemmas.{counts_last, event_at, formed_lasts, order_kept, order_same}
use Rattle.rd_linear.proofs.ReachedLemmas.{linear_is_reached, reached_is_linear}
use Rattle.rd_linear.proofs.laws.law_of_linear_orders.Goals as goal

pub returns-clause-reached : goal.returns-clause-reached
returns-clause-reached c es places = (linear_is_reached es places, reached_is_linear es)

pub returns-clause-events : goal.returns-clause-events
returns-clause-events c es places i p l at = event_at es places (linear_below es places l) i p at

pub returns-clause-formed : goal.returns-clause-formed
returns-clause-formed c roots es places formed l = order_kept roots (WellFormed roots) (formed_lasts roots) es formed formed places l

pub returns-clause-reaches : goal.returns-clause-reaches
returns-clause-reaches c roots es places formed l = order_same roots (WellFormed roots) (formed_lasts roots) es formed formed places l

pub returns-clause-counts : goal.returns-clause-counts
returns-clause-counts c roots es places formed l =
    (order_kept roots (λ xs. AreAlike xs es) (counts_last roots es) es formed (record { counts = λ test. refl }) places l).counts
