-- Where the cells of a call stand in the store: what the detector goes by between looking and touching.
use Rattle.std.specs.Prelude.{◌≡◌, ◌==◌, not, ℕ, List, length, Some, slice_get}
use Rattle.std.specs.List.{filter}
use Rattle.rd_points.specs.declared.points.Point.{Point}
use Rattle.rd_store.specs.Stores.{IsSeat, PointCells}
use Rattle.rd_store.specs.declared.Seat.{Seat}

-- where the cells of a thread at these points stand, or will stand, in their order
pub record AreSeats (store : List PointCells) (thread : ℕ) (points : List Point) (seats : List Seat) : Type 0 where
  pub long : length seats ≡ length points
  pub each : (i : ℕ) (point : Point) → slice_get points i ≡ Some point → (seat : Seat) × (slice_get seats i ≡ Some seat) × IsSeat store thread point seat

-- the classes but this one
abbrev pub other_classes : ℕ → List ℕ → List ℕ
other_classes own classes = filter (λ class. not (class == own)) classes
