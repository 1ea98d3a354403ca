-- What stays where a store gets room for cells.
use Rattle.std.proofs.Common.{◌≡◌, inl, inr, ℕ, ◌+◌, ◌<◌, List, [], ◌∷◌, ◌++◌, length, Option, Some, None, sym, ap, subst, ◌∙◌, arith}
use Rattle.std.specs.Prelude.{IsSome, slice_get, slice_index_or, take}
use Rattle.std.proofs.lemmas.List.{take_more}
use Rattle.std.proofs.lemmas.Option.{get_or_from_slice_get, slice_get-get_or, slice_get_within}
use Rattle.rd_order.proofs.OrderLemmas.{at_end, at_front, length_more}
use Rattle.rd_points.specs.declared.points.Point.{Point}
use Rattle.rd_store.specs.Stores.{HasRoom, IsSameStore, IsSeat, PointCells, cell_at, cell_of, place_of, point_at}
use Rattle.rd_store.specs.declared.Seat.{Seat}
use Rattle.rd_store.specs.declared.Witness.{Witness}
use Rattle.rd_detect.specs.Detect.{AreBelow, IsLatestOf, IsUncovered}
use Rattle.rd_detect.specs.Seats.{AreSeats}
use Rattle.rd_detect.proofs.WitnessLemmas.{at_more}

-- ---- cells

abbrev pub SameCells : List PointCells → List PointCells → Type 0
SameCells old new = (point : Point) (thread : ℕ) → cell_at new point thread ≡ cell_at old point thread

pub same_cell : (old new : List PointCells) → IsSameStore old new → SameCells old new
same_cell old new same point thread = ap (λ cells. cell_of cells thread) (same.cells point)

pub same_joined : (old middle new : List PointCells) → IsSameStore old middle → IsSameStore middle new → IsSameStore old new
same_joined old middle new one other = record {
  cells = λ point. other.cells point ∙ one.cells point;
  count = other.count ∙ one.count;
  spare = λ point. let first = one.spare point in let second = other.spare point in omega arith;
}

uncovered_same : (old new : List PointCells) (points : List Point) (clock : List ℕ) (seen : Witness) → SameCells old new → IsUncovered old points clock seen → IsUncovered new points clock seen
uncovered_same old new points clock seen same found = record {
  point = found.point;
  among = found.among;
  thread = found.thread;
  cell = same found.point found.thread ∙ found.cell;
  uncovered = found.uncovered;
}

pub latest_same : (old new : List PointCells) (points : List Point) (clock : List ℕ) (latest : Option Witness) → SameCells old new → IsLatestOf old points clock latest → IsLatestOf new points clock latest
latest_same old new points clock None same none = λ seen found. none seen (uncovered_same new old points clock seen (λ p t. sym (same p t)) found)
latest_same old new points clock (Some latest) same is = (
  uncovered_same old new points clock latest same is.0,
  λ seen found. is.1 seen (uncovered_same new old points clock seen (λ p t. sym (same p t)) found),
)

pub below_same : (old new : List PointCells) (threads : ℕ) → SameCells old new → AreBelow threads old → AreBelow threads new
below_same old new threads same below point thread seen cell = below point thread seen (sym (same point thread) ∙ cell)

-- ---- room

room_same : (old new : List PointCells) (thread : ℕ) (point : Point) → IsSameStore old new → HasRoom old thread point → HasRoom new thread point
room_same old new thread point same room = elim room [
  | inl some ↦ inl (subst (λ o. IsSome o) (sym (same_cell old new same point thread)) some)
  | inr spare ↦ let more = same.spare point in inr (omega arith)
]

seat_same : (old new : List PointCells) (thread : ℕ) (point : Point) (seat : Seat) → IsSameStore old new
    → ((i : ℕ) (other : Point) → point_at old i ≡ Some other → point_at new i ≡ Some other) → IsSeat old thread point seat → IsSeat new thread point seat
seat_same old new thread point seat same stay was = record {
  at = stay seat.index point was.at;
  place = was.place ∙ ap (λ cells. place_of cells thread) (sym (same.cells point));
  room = room_same old new thread point same was.room;
}

-- the seat at one point more
pub seats_more : (old new : List PointCells) (thread : ℕ) (points : List Point) (seats : List Seat) (point : Point) (seat : Seat) → IsSameStore old new
    → ((i : ℕ) (other : Point) → point_at old i ≡ Some other → point_at new i ≡ Some other) → IsSeat new thread point seat
    → AreSeats old thread points seats → AreSeats new thread (points ++ point ∷ []) (seats ++ seat ∷ [])
seats_more old new thread points seats point seat same stay entered was = record {
  long = omega (arith, was.long, length_more points point, length_more seats seat);
  each = λ i other at. elim (at_more points point other i at) as (λ _. (one : Seat) × (slice_get (seats ++ seat ∷ []) i ≡ Some one) × IsSeat new thread other one) [
    | inl before ↦
        let one = was.each i other before.1 in
        (one.0, at_front seats (seat ∷ []) i (slice_get_within seats i one.0 one.1) ∙ one.1, seat_same old new thread other one.0 same stay one.2)
    | inr last ↦ (
      seat,
      ap (slice_get (seats ++ seat ∷ [])) (last.0 ∙ sym was.long) ∙ at_end seats seat,
      subst (λ p. IsSeat new thread p seat) (sym last.1) entered,
    )
  ];
}

-- ---- the seat at a point

abbrev no_point : Point
no_point = record { object = 0; class = 0; value = None }

-- the point whose seat stands at a place
pub seat_of : (store : List PointCells) (thread : ℕ) (points : List Point) (seats : List Seat) (i : ℕ) (d : Seat) → AreSeats store thread points seats → i < length seats
    → (point : Point) × (slice_get points i ≡ Some point) × IsSeat store thread point (slice_index_or seats i d)
seat_of store thread points seats i d are inside =
    let within : i < length points = omega (arith, inside, are.long) in
    let at : slice_get points i ≡ Some (slice_index_or points i no_point) = slice_get-get_or points i no_point within in
    let seat = are.each i (slice_index_or points i no_point) at in
    (slice_index_or points i no_point, at, subst (IsSeat store thread (slice_index_or points i no_point)) (sym (get_or_from_slice_get seats i seat.0 d seat.1)) seat.2)

-- as far as the next point
pub done_more : (points : List Point) (i : ℕ) (point : Point) → slice_get points i ≡ Some point → take i points ++ point ∷ [] ≡ take (i + 1) points
done_more points i point at =
    ap (λ p. take i points ++ p ∷ []) (sym (get_or_from_slice_get points i point point at)) ∙ sym (take_more points i point (slice_get_within points i point at))
