-- What is found step by step among the points that are asked.
use Rattle.std.proofs.Common.{◌≡◌, ◌⊎◌, inl, inr, ℕ, ◌+◌, ◌-◌, ◌*◌, ◌<◌, ◌≤◌, if◌then◌else◌, List, [], ◌∷◌, ◌++◌, length, Option, Some, None, refl, sym, ap, subst, ◌∙◌, arith, true≢false, drop}
use Rattle.std.specs.List.{sum_by}
use Rattle.std.specs.Prelude.{flat_map, map, nat_lt, slice_index_or, take}
use Rattle.std.proofs.lemmas.Bool.{cases_Bool, cases_lt, lt-ltb, ltb-true}
use Rattle.std.proofs.lemmas.List.Elements.{Contains-append_left, Contains-push, Contains-push_cases}
use Rattle.std.proofs.lemmas.List.{append_assoc, flat_map_more, map-append, map_more, take-append-drop}
use Rattle.std.proofs.lemmas.List.Sums.{sum_by-append, sum_by_push}
use Rattle.rd_order.proofs.OrderLemmas.{length_more}
use Rattle.rd_base.specs.declared.values.Value.{Value}
use Rattle.rd_event.specs.declared.events.Call.{Call as CallOf}
use Rattle.rd_points.specs.declared.touches.Touch.{Touch}
use Rattle.rd_points.specs.Tables.{PointTable, conflicts_at}
use Rattle.rd_points.specs.declared.points.Point.{Point}
use Rattle.rd_store.specs.Stores.{IsCovered, IsLatestUncovered, PointCells, cell_at}
use Rattle.rd_store.specs.declared.Witness.{Witness}
use Rattle.rd_detect.specs.Detect.{IsLatestOf, IsUncovered, asking_bound, conflicting_points, in_class, later_of, point_of}
use Rattle.rd_detect.proofs.TouchLemmas.{same_points}

module _ (store : List PointCells) (points : List Point) (point : Point) (clock : List ℕ) where
  abbrev more : List Point
  more = points ++ point ∷ []

  -- a cell of the last point that isn't covered
  abbrev OfLast : Witness → Type 0
  OfLast seen = (thread : ℕ) × (cell_at store point thread ≡ Some seen) × ¬ (IsCovered clock thread seen)

  split : (seen : Witness) → IsUncovered store more clock seen → IsUncovered store points clock seen ⊎ OfLast seen
  split seen found = elim (Contains-push_cases points point found.point found.among) [
    | inl before ↦ inl (record { point = found.point; among = before; thread = found.thread; cell = found.cell; uncovered = found.uncovered })
    | inr last ↦ inr (found.thread, subst (λ p. cell_at store p found.thread ≡ Some seen) (sym last) found.cell, found.uncovered)
  ]

  wider : (seen : Witness) → IsUncovered store points clock seen → IsUncovered store more clock seen
  wider seen found = record {
    point = found.point;
    among = Contains-append_left points (point ∷ []) found.point found.among;
    thread = found.thread;
    cell = found.cell;
    uncovered = found.uncovered;
  }

  of_last : (seen : Witness) → OfLast seen → IsUncovered store more clock seen
  of_last seen found = record { point = point; among = Contains-push points point; thread = found.0; cell = found.1; uncovered = found.2 }

  pub latest_more : (one other : Option Witness) → IsLatestOf store points clock one → IsLatestUncovered store point clock other
      → IsLatestOf store more clock (later_of one other)
  latest_more None None none also = λ seen found. elim (split seen found) [ inl before ↦ none seen before | inr last ↦ last.2 (also last.0 seen last.1) ]
  latest_more None (Some last) none is = (
    of_last last is.0,
    λ seen found. elim (split seen found) [ inl before ↦ absurd (none seen before) | inr other ↦ is.1 other.0 seen other.1 other.2 ],
  )
  latest_more (Some latest) None is none = (
    wider latest is.0,
    λ seen found. elim (split seen found) [ inl before ↦ is.1 seen before | inr other ↦ absurd (other.2 (none other.0 seen other.1)) ],
  )
  latest_more (Some latest) (Some last) is also = elim (cases_Bool (nat_lt latest.place last.place)) [
    | inl above ↦ subst (IsLatestOf store more clock) (sym (ap (λ b. if b then Some last else Some latest) above))
        (let rises : latest.place < last.place = ltb-true latest.place last.place above in (
          of_last last also.0,
          λ seen found. elim (split seen found) [
            | inl before ↦ omega (arith, rises, is.1 seen before)
            | inr other ↦ also.1 other.0 seen other.1 other.2
          ],
        ))
    | inr below ↦ subst (IsLatestOf store more clock) (sym (ap (λ b. if b then Some last else Some latest) below)) (
      wider latest is.0,
      λ seen found. elim (split seen found) [
        | inl before ↦ is.1 seen before
        | inr other ↦ elim (cases_lt latest.place last.place) [
          | inl rises ↦ absurd (true≢false (sym (lt-ltb latest.place last.place rises) ∙ below))
          | inr falls ↦ omega (arith, falls, also.1 other.0 seen other.1 other.2)
        ]
      ],
    )
  ]

-- ---- one class more

pub in_class_more : (point : Point) (points : List Point) (done : List ℕ) (class object : ℕ) (value : Option Value) → object ≡ point.object → value ≡ point.value
    → (points ++ map (in_class point) done) ++ record { object = object; class = class; value = value } ∷ [] ≡ points ++ map (in_class point) (done ++ class ∷ [])
in_class_more point points done class object value same_object same_value =
    append_assoc points (map (in_class point) done) _
    ∙ ap (λ last. points ++ (map (in_class point) done ++ last ∷ []))
    (same_points object point.object class class value point.value same_object refl same_value)
    ∙ ap (λ list. points ++ list) (sym (map-append (in_class point) done (class ∷ [])))

pub cost_more : (start before after cells threads i : ℕ) → before ≤ start + i * (threads + 1) → after ≡ (before + 1) + cells → cells ≤ threads → after ≤ start + (i + 1) * (threads + 1)
cost_more start before after cells threads i below is few = omega (arith, below, is, few)

-- a step for each cell of one class more
pub cost_one : (start before after cells threads : ℕ) (done : List ℕ) (class : ℕ) → before ≤ start + length done * (threads + 1) → after ≡ (before + 1) + cells → cells ≤ threads
    → after ≤ start + length (done ++ class ∷ []) * (threads + 1)
cost_one start before after cells threads done class below is few =
    let longer : length done + 1 ≡ length (done ++ class ∷ []) = omega (arith, length_more done class) in
    subst (λ n. after ≤ start + n * (threads + 1)) longer (cost_more start before after cells threads (length done) below is few)

-- fewer classes than all cost no more
pub cost_within : (start after all n some : ℕ) → some ≤ all → after ≤ start + some * n → after ≤ start + all * n
cost_within start after all n some within below =
    let rest : ℕ = all - some in
    let parts : all ≡ some + rest = omega arith in
    subst (λ m. after ≤ start + m * n) (sym parts) (omega (arith, below))

-- ---- one point more

module _ (table : PointTable) (points : List Point) (point : Point) (classes : List ℕ) (conflicts : classes ≡ conflicts_at table point.class) where
  pub points_more : flat_map (conflicting_points table) points ++ map (in_class point) classes ≡ flat_map (conflicting_points table) (points ++ point ∷ [])
  points_more =
      ap (λ list. flat_map (conflicting_points table) points ++ map (in_class point) list) conflicts
      ∙ flat_map_more (conflicting_points table) [] points point

  pub asking_more : (threads start before after : ℕ) → before ≤ start + sum_by (asking_bound table threads) points → after ≤ before + length classes * (threads + 1)
      → after ≤ start + sum_by (asking_bound table threads) (points ++ point ∷ [])
  asking_more threads start before after below cost =
      let more : sum_by (asking_bound table threads) (points ++ point ∷ []) ≡ sum_by (asking_bound table threads) points + length (conflicts_at table point.class) * (threads + 1)
      = sum_by_push (asking_bound table threads) points point in
      let same : length classes * (threads + 1) ≡ length (conflicts_at table point.class) * (threads + 1) = ap (λ list. length list * (threads + 1)) conflicts in
      omega (arith, below, cost, more, same)

abbrev pub no_touch : Touch
no_touch = record { class = 0; slot = None }

-- the points behind cost no less than nothing
pub asking_less : (table : PointTable) (threads : ℕ) (call : CallOf) (touches : List Touch) (i start steps : ℕ) → steps ≤ start + sum_by (asking_bound table threads) (map (point_of call) (take i touches))
    → steps ≤ start + sum_by (asking_bound table threads) (map (point_of call) touches)
asking_less table threads call touches i start steps below =
    let parts : sum_by (asking_bound table threads) (map (point_of call) touches)
    ≡ sum_by (asking_bound table threads) (map (point_of call) (take i touches)) + sum_by (asking_bound table threads) (map (point_of call) (drop i touches))
    = ap (λ list. sum_by (asking_bound table threads) (map (point_of call) list)) (sym (take-append-drop i touches)) ∙ ap (sum_by (asking_bound table threads)) (map-append (point_of call) (take i touches) (drop i touches))
    ∙ sum_by-append (asking_bound table threads) (map (point_of call) (take i touches)) (map (point_of call) (drop i touches)) in
    omega (arith, below, parts)

-- nor does it where the next point was asked
pub asked_less : (table : PointTable) (threads : ℕ) (call : CallOf) (touches all : List Touch) (i start before after : ℕ) (classes : List ℕ) → i < length touches
    → classes ≡ conflicts_at table (slice_index_or touches i no_touch).class → touches ≡ all
    → before ≤ start + sum_by (asking_bound table threads) (map (point_of call) (take i touches)) → after ≤ before + length classes * (threads + 1)
    → after ≤ start + sum_by (asking_bound table threads) (map (point_of call) all)
asked_less table threads call touches all i start before after classes inside conflicts same below cost =
    subst (λ list. after ≤ start + sum_by (asking_bound table threads) (map (point_of call) list)) same
    (asking_less table threads call touches (i + 1) start after
    (subst (λ points. after ≤ start + sum_by (asking_bound table threads) points) (sym (map_more (point_of call) touches i no_touch inside))
    (asking_more table (map (point_of call) (take i touches)) (point_of call (slice_index_or touches i no_touch)) classes conflicts threads start before after below cost)))
