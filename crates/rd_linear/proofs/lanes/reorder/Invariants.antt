use Rattle.std.proofs.Common.{◌≡◌, map}
use Rattle.rd_linear.specs.Lanes.{AreTurning, ready_in}
use Rattle.rd_linear.proofs.lanes.reorder.Given as goal

abbrev pub invariant-loop-turn : goal.invariant-loop-turn
invariant-loop-turn l =
    AreTurning l.events l.number l.turn l.threads.items l.lanes.items l.seen.items l.places l.left × (l.ranks ≡ map (ready_in l.waits l.seen.items) l.lanes.items)
