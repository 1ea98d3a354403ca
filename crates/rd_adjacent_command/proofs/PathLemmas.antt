-- A farthest path shows that its first place reaches its last, and it is the computed one.
use Rattle.std.proofs.Common.{◌≡◌, ℕ, ◌<◌, List}
use Rattle.rd_event.specs.declared.events.Event.{Event}
use Rattle.rd_order.specs.Order.{Reaches}
use Rattle.rd_order.specs.Paths.{IsFarthestPath, farthest_path}
use Rattle.rd_order.proofs.FarthestLemmas.{farthest_alone, farthest_is_path, path_is_farthest}

pub path_reaches : (es : List Event) (places : List ℕ) (i j : ℕ) → i < j → IsFarthestPath es i places j → Reaches es i j
path_reaches es places i j below path = let is = farthest_is_path es places i j below path in (is.0, is.2)

pub path_computed : (es : List Event) (places : List ℕ) (i j : ℕ) → i < j → IsFarthestPath es i places j → places ≡ farthest_path es i j
path_computed es places i j below path =
    farthest_alone es places (farthest_path es i j) i j path (path_is_farthest es i j (path_reaches es places i j below path))
