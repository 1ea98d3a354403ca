use Rattle.std.proofs.Common.{subst, sym, Decides}
use Rattle.rd_order.specs.Order.{Edge}
use Rattle.rd_order.proofs.OrderLemmas.{edge_told}
use Rattle.rd_order.proofs.edges.edge.Goals as goal

pub returns-then-i-j : goal.returns-then-i-j
returns-then-i-j c =
    subst (λ b. Decides b (Edge c.args.events.now c.args.i c.args.j)) (sym c.are_linked.ensures)
    (edge_told c.args.events.now c.args.i c.args.j c.index-events-i.result c.index-events-j.result c.if-i-j.true c.requires.from c.requires.to c.index-events-i.is c.index-events-j.is)
