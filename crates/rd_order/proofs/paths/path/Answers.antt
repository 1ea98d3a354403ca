use Rattle.std.proofs.Common.{List, ℕ, Option, Some, None, Result, Ok, Err, IfOk, IfSome, ◌<◌, arith}
use Rattle.rd_event.specs.declared.events.Event.{Event}
use Rattle.rd_order.specs.Order.{IsPath}
use Rattle.rd_order.specs.Paths.{IsFarthestPath}
use Rattle.rd_order.proofs.FarthestLemmas.{farthest_is_path}
use Rattle.rd_order.proofs.OrderLemmas.{reaches_rises}
use Rattle.rd_order.proofs.paths.path.Goals as goal

pub returns-then-j-i-clause-none : goal.returns-then-j-i-clause-none
returns-then-j-i-clause-none c = λ reaches. omega (arith, c.if-j-i.true, reaches_rises c.args.events.now c.args.i c.args.j reaches)

-- what is the farthest path is a path
found_path : {E : Type 0} (es : List Event) (i j : ℕ) (result : Result (Option (List ℕ)) E) → i < j → IfOk result (λ found. IfSome found (λ places. IsFarthestPath es i places j))
    → IfOk result (λ found. IfSome found (λ places. IsPath es i places j))
found_path es i j (Ok None) below farthest = farthest
found_path es i j (Ok (Some places)) below farthest = farthest_is_path es places i j below farthest
found_path es i j (Err e) below farthest = farthest

pub returns-clause-some : goal.returns-clause-some
returns-clause-some c = found_path c.args.events.now c.args.i c.args.j c.path_along.result (omega (arith, c.if-j-i.false)) c.path_along.ensures.farthest
