-- What is known of points beside their cells.
use Rattle.std.proofs.Common.{◌≡◌, ◌⊎◌, inl, inr, ℕ, zero, suc, ◌+◌, ◌*◌, ◌<◌, ◌≤◌, true, false, if◌then◌else◌, Bool, List, [], ◌∷◌, ◌++◌, length, Option, None, Some, refl, sym, ap, subst, ◌∙◌, arith, true≢false}
use Rattle.std.specs.List.{list_any}
use Rattle.std.specs.Option.{option_map_or}
use Rattle.std.specs.Prelude.{◌==◌, is_some, map, not, option_map}
use Rattle.std.proofs.lemmas.Bool.{leb-true}
use Rattle.std.proofs.lemmas.List.{append-nil}
use Rattle.std.proofs.lemmas.Option.{none-some, same_Some}
use Rattle.rd_clock.specs.Clock.{component}
use Rattle.rd_order.proofs.OrderLemmas.{length_more}
use Rattle.rd_points.specs.declared.points.Point.{Point}
use Rattle.rd_store.specs.Stores.{IsSameStore, PointCells, cell_of, held_of, point_at}
use Rattle.rd_store.specs.declared.Seat.{Seat}
use Rattle.rd_store.specs.declared.Witness.{Witness}
use Rattle.rd_store.proofs.IndexLemmas.{point_within}
use Rattle.rd_detect.specs.Covers.{AreCoveredAt, AreOwn, AreTrueFor, CoversFollow, CoversKept, IsCoverOf, CountsEpoch, cover_at, counts_epoch}
use Rattle.rd_detect.specs.declared.covers.Epoch.{Epoch}
use Rattle.rd_detect.specs.Detect.{IsLatestOf, in_class, later_of}
use Rattle.rd_detect.specs.Seats.{other_classes}
use Rattle.rd_detect.proofs.AskingLemmas.{cost_within, latest_more}
use Rattle.rd_detect.proofs.OwnLemmas.{all_others, latest_with_own, less}
use Rattle.rd_detect.proofs.WitnessLemmas.{at_more}

-- ---- lists

-- where there is an epoch, its place is within the list
pub cover_within : (covers : List (Option Epoch)) (index : ℕ) (epoch : Epoch) → cover_at covers index ≡ Some epoch → index < length covers
cover_within [] zero epoch at = absurd (none-some epoch at)
cover_within [] (suc index) epoch at = absurd (none-some epoch at)
cover_within (cover ∷ covers) zero epoch at = omega arith
cover_within (cover ∷ covers) (suc index) epoch at = omega (arith, cover_within covers index epoch at)

-- a point stands at each index within a store
point_there : (store : List PointCells) (index : ℕ) → index < length store → (point : Point) × (point_at store index ≡ Some point)
point_there [] index inside = absurd (omega (arith, inside))
point_there (held ∷ store) zero inside = (held.point, refl)
point_there (held ∷ store) (suc index) inside = point_there store index (omega (arith, inside))

-- a clock that has heard of an epoch
pub heard_is : (clock : List ℕ) (cover : Option Epoch) → counts_epoch clock cover ≡ true → (epoch : Epoch) × (cover ≡ Some epoch) × CountsEpoch clock epoch
heard_is clock None heard = absurd (true≢false (sym heard))
heard_is clock (Some epoch) heard = (epoch, refl, leb-true epoch.number (component clock epoch.thread) heard)

-- ---- what follows

module _ (store : List PointCells) (clock : List ℕ) (own : Epoch) where
  pub kept_refl : (covers : List (Option Epoch)) → length covers ≤ length store → CoversKept store clock own covers covers
  kept_refl covers few = record { few = few; follow = λ index. inl refl }

  pub follow_joined : (old middle new : List (Option Epoch)) → CoversFollow store clock own old middle → CoversFollow store clock own middle new → CoversFollow store clock own old new
  follow_joined old middle new one other index = elim (other index) [
    | inl same ↦ elim (one index) [
      | inl before ↦ inl (same ∙ before)
      | inr changed ↦ elim changed [
        | inl none ↦ inr (inl (same ∙ none))
        | inr is ↦ inr (inr (same ∙ is.0, is.1))
      ]
    ]
    | inr changed ↦ inr changed
  ]

  pub kept_joined : (old middle new : List (Option Epoch)) → CoversKept store clock own old middle → CoversKept store clock own middle new → CoversKept store clock own old new
  kept_joined old middle new one other = record { few = other.few; follow = follow_joined old middle new one.follow other.follow }

  pub true_after : (old new : List (Option Epoch)) → AreTrueFor store old clock → CoversKept store clock own old new → AreTrueFor store new clock
  true_after old new told kept = record {
    few = kept.few;
    each = λ index epoch point at stands heard. elim (kept.follow index) [
      | inl same ↦ told.each index epoch point (sym same ∙ at) stands heard
      | inr changed ↦ elim changed [
        | inl none ↦ absurd (none-some epoch (sym none ∙ at))
        | inr is ↦ is.1 point stands
      ]
    ];
  }

  -- one index is changed
  pub kept_at : (old new : List (Option Epoch)) (index : ℕ) → length new ≤ length store → ((other : ℕ) → (other ≡ index) ⊎ (cover_at new other ≡ cover_at old other))
      → IsCoverOf store clock own (cover_at old index) (cover_at new index) index → CoversKept store clock own old new
  kept_at old new index few others here = record {
    few = few;
    follow = λ other. elim (others other) [
      | inl same ↦ subst (λ i. IsCoverOf store clock own (cover_at old i) (cover_at new i) i) (sym same) here
      | inr stays ↦ inl stays
    ];
  }

  -- own seats stay so
  pub own_kept : (old new : List (Option Epoch)) (seats : List Seat) → CoversFollow store clock own old new → AreOwn own old seats → AreOwn own new seats
  own_kept old new seats follow are i seat at = elim (follow seat.index) [
    | inl same ↦ elim (are i seat at) [ inl none ↦ inl (same ∙ none) | inr is ↦ inr (same ∙ is) ]
    | inr changed ↦ elim changed [ inl none ↦ inl none | inr is ↦ inr is.0 ]
  ]

-- ---- a store in which points were entered

module _ (old new : List PointCells) (stay : (index : ℕ) (point : Point) → point_at old index ≡ Some point → point_at new index ≡ Some point) where
  pub no_fewer : length old ≤ length new
  no_fewer = by old stay
    where
      by : (old : List PointCells) → ((index : ℕ) (point : Point) → point_at old index ≡ Some point → point_at new index ≡ Some point) → length old ≤ length new
      by [] stay = omega arith
      by (held ∷ rest) stay =
          let last = point_there (held ∷ rest) (length rest) (omega arith) in
          omega (arith, point_within new (length rest) last.0 (stay (length rest) last.0 last.1))

  pub was_at : (index : ℕ) (point : Point) → index < length old → point_at new index ≡ Some point → point_at old index ≡ Some point
  was_at index point inside at =
      let was = point_there old index inside in
      was.1 ∙ ap Some (same_Some was.0 point (sym (stay index was.0 was.1) ∙ at))

pub covered_entered : (old new : List PointCells) → IsSameStore old new → (point : Point) (clock : List ℕ) → AreCoveredAt old point clock → AreCoveredAt new point clock
covered_entered old new same point clock are thread seen cell = are thread seen (sym (ap (λ cells. cell_of cells thread) (same.cells point)) ∙ cell)

module _ (old new : List PointCells) (same : IsSameStore old new) (stay : (index : ℕ) (point : Point) → point_at old index ≡ Some point → point_at new index ≡ Some point) where
  pub true_entered : (covers : List (Option Epoch)) (clock : List ℕ) → AreTrueFor old covers clock → AreTrueFor new covers clock
  true_entered covers clock told = record {
    few = omega (arith, told.few, no_fewer old new stay);
    each = λ index epoch point at stands heard.
        covered_entered old new same point clock (told.each index epoch point at
        (was_at old new stay index point (omega (arith, told.few, cover_within covers index epoch at)) stands) heard);
  }

  pub kept_entered : (clock : List ℕ) (own : Epoch) (before after : List (Option Epoch)) → CoversKept old clock own before after → CoversKept new clock own before after
  kept_entered clock own before after kept = record {
    few = omega (arith, kept.few, no_fewer old new stay);
    follow = λ index. elim (kept.follow index) [
      | inl stays ↦ inl stays
      | inr changed ↦ inr (elim changed [
        | inl none ↦ inl none
        | inr is ↦ inr (
          is.0,
          λ point stands. covered_entered old new same point clock (is.1 point
              (was_at old new stay index point (omega (arith, kept.few, cover_within after index own is.0)) stands)),
        )
      ])
    ];
  }

-- ---- asking

later_none : (found : Option Witness) → later_of found None ≡ found
later_none None = refl
later_none (Some found) = refl

-- where the clock covers the point's cells, what was found stays
pub latest_covered : (store : List PointCells) (points : List Point) (point : Point) (clock : List ℕ) (found : Option Witness) → AreCoveredAt store point clock
    → IsLatestOf store points clock found → IsLatestOf store (points ++ point ∷ []) clock found
latest_covered store points point clock found covered before =
    subst (IsLatestOf store (points ++ point ∷ []) clock) (later_none found) (latest_more store points point clock found None before covered)

pub mapped_none : {X Y : Type 0} (f : X → Y) (o : Option X) (test : Bool) → is_some o ≡ not test → test ≡ true → option_map f o ≡ None
mapped_none f None test is found = refl
mapped_none f (Some x) test is found = absurd (true≢false (is ∙ ap not found))

-- a point that was never entered has no cell
pub covered_none : (store : List PointCells) (point : Point) (clock : List ℕ) → held_of store point ≡ None → AreCoveredAt store point clock
covered_none store point clock none thread seen cell =
    absurd (none-some seen (sym (ap (λ o. cell_of (option_map_or (λ held. held.cells) o []) thread) none) ∙ cell))

-- one point more costs a step for each thread and one more
pub cost_next : (start before after threads : ℕ) (done : List ℕ) (class : ℕ) → before ≤ start + length done * (threads + 1) → after ≤ before + (threads + 1)
    → after ≤ start + length (done ++ class ∷ []) * (threads + 1)
cost_next start before after threads done class below is =
    let longer : length done + 1 ≡ length (done ++ class ∷ []) = omega (arith, length_more done class) in
    subst (λ n. after ≤ start + n * (threads + 1)) longer (omega (arith, below, is))

-- so does the own one, where it is asked
pub own_next : (start before after threads own : ℕ) (classes : List ℕ) (asked : Bool) → asked ≡ list_any (λ class. class == own) classes
    → before ≤ start + length (other_classes own classes) * (threads + 1) → after ≤ before + (if asked then threads + 1 else 0) → after ≤ start + length classes * (threads + 1)
own_next start before after threads own classes true any below is =
    cost_within start after (length classes) (threads + 1) (length (other_classes own classes) + 1) (less own classes (sym any)) (omega (arith, below, is))
own_next start before after threads own classes false any below is =
    subst (λ list. after ≤ start + length list * (threads + 1)) (all_others own classes (sym any)) (omega (arith, below, is))

-- the own class, where it is asked, and the others are all
pub latest_all : (store : List PointCells) (clock : List ℕ) (points : List Point) (point : Point) (own : ℕ) (classes : List ℕ) (latest : Option Witness) (asked : Bool)
    → asked ≡ list_any (λ class. class == own) classes → point.class ≡ own
    → IsLatestOf store ((points ++ map (in_class point) (other_classes own classes)) ++ (if asked then point ∷ [] else [])) clock latest
    → IsLatestOf store (points ++ map (in_class point) classes) clock latest
latest_all store clock points point own classes latest true any is found = latest_with_own store clock points point own classes latest (sym any) is found
latest_all store clock points point own classes latest false any is found =
    subst (λ list. IsLatestOf store (points ++ map (in_class point) list) clock latest) (all_others own classes (sym any))
    (subst (λ list. IsLatestOf store list clock latest) (append-nil (points ++ map (in_class point) (other_classes own classes))) found)

-- one seat more
pub own_more : (own : Epoch) (covers : List (Option Epoch)) (seats : List Seat) (seat : Seat) → (cover_at covers seat.index ≡ None) ⊎ (cover_at covers seat.index ≡ Some own)
    → AreOwn own covers seats → AreOwn own covers (seats ++ seat ∷ [])
own_more own covers seats seat last are i other at = elim (at_more seats seat other i at) [
  | inl before ↦ are i other before.1
  | inr is ↦ subst (λ (s : Seat). (cover_at covers s.index ≡ None) ⊎ (cover_at covers s.index ≡ Some own)) (sym is.1) last
]
