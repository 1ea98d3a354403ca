use Rattle.std.proofs.Common.{subst, sym}
use Rattle.rd_linear.specs.Orders.{IsLinear}
use Rattle.rd_adjacent.proofs.BesideLemmas.{beside_linear}
use Rattle.rd_order.specs.Order.{Reaches}
use Rattle.rd_adjacent.proofs.ReachLemmas.{none_told}
use Rattle.rd_adjacent.proofs.calls.adjacent.Goals as goal

pub returns-clause-linear : goal.returns-clause-linear
returns-clause-linear c =
    let loose = none_told c.in_ok-path.field-0 (¬ (Reaches c.args.events.now c.args.i c.args.j)) c.in_ok-path.ensures.none c.in_default.not-Some in
    subst (IsLinear c.args.events.now) (sym c.in_ok-places.ensures)
    (beside_linear c.args.events.now c.args.i c.args.j c.requires.below c.requires.inside loose)
