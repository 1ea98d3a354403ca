-- What a sweep leaves.
use Rattle.std.proofs.Common.{◌≡◌, ◌⊎◌, inl, inr, ℕ, ◌≤◌, Bool, true, false, if◌then◌else◌, List, [], ◌∷◌, ◌++◌, length, Option, Some, None, refl, sym, ap, subst, ◌∙◌, arith}
use Rattle.std.specs.Prelude.{Contains, slice_get}
use Rattle.std.proofs.lemmas.Bool.{cases_Bool, cases_eq, leb-true}
use Rattle.std.proofs.lemmas.Option.{none-some, slice_get_within}
use Rattle.rd_order.specs.Order.{IsOf}
use Rattle.rd_event.specs.declared.events.Call.{Call as CallOf}
use Rattle.rd_event.specs.declared.events.Event.{Event}
use Rattle.rd_event.specs.declared.events.Event.TheVariants.{Call}
use Rattle.rd_clock.specs.Clock.{component}
use Rattle.rd_clock.specs.declared.clock.Stamp.{Stamp}
use Rattle.rd_ecl.specs.Specified.{SpecifiedKind}
use Rattle.rd_hb.specs.EventClocks.{OwnNumber}
use Rattle.rd_hb.specs.Knows.{Carries, Knows}
use Rattle.rd_hb.specs.Tracker.{IsFloor, TrackerStandsFor, Tracking, known_to, tracked_thread}
use Rattle.rd_hb.proofs.ClockLemmas.{own_reaches}
use Rattle.rd_hb.proofs.KnowsLemmas.{known_before, knows_front}
use Rattle.rd_order.specs.EventLists.{joins}
use Rattle.rd_order.proofs.CountsLemmas.{covers}
use Rattle.rd_points.specs.Tables.{PointTable}
use Rattle.rd_points.specs.declared.points.Point.{Point}
use Rattle.rd_store.specs.Stores.{IsCovered, IsSwept, PointCells, cell_at, cell_count, is_covered, uncovered}
use Rattle.rd_store.specs.declared.Witness.{Witness}
use Rattle.rd_detect.specs.Detect.{Detecting, DetectorStandsFor, IsCell, IsDead, IsInCell, IsNextCall, IsSweptWhere, IsCallKept, is_due, touched_points}
use Rattle.rd_detect.proofs.CellLemmas.{stands_longer}
use Rattle.rd_detect.proofs.TouchLemmas.{MergedTell}

-- a cell that is left was there
pub uncovered_was : (floor : List ℕ) (o : Option Witness) (thread : ℕ) (seen : Witness) → uncovered floor thread o ≡ Some seen → o ≡ Some seen
uncovered_was floor None thread seen is = absurd (cc)
uncovered_was floor (Some other) thread seen is = elim (cases_Bool (is_covered floor thread other)) [
  | inl gone ↦ absurd (none-some _ (sym (ap (λ b. if b then None else Some other) gone) ∙ is))
  | inr stays ↦ sym (ap (λ b. if b then None else Some other) stays) ∙ is
]

-- ---- a clock that covers a cell

module _ (tracking : Tracking) (roots : ℕ → Bool) (lines : List ℕ) (es : List Event) (stands : TrackerStandsFor tracking roots es) (floor : List ℕ) (least : IsFloor tracking.threads floor) where
  -- a thread that may still act is live
  not_joined : (t : ℕ) → joins es t ≡ 0 → (tracked_thread tracking.threads t).joined ≡ false
  not_joined t running = elim (cases_Bool (tracked_thread tracking.threads t).joined) [
    | inl marked ↦ absurd (omega (arith, running, (stands.joined t).0 marked))
    | inr is ↦ is
  ]

  -- a call that the floor covers is dead
  pub covered_dead : (tables : _) (point : Point) (thread : ℕ) (seen : Witness) → IsCell tables lines es point thread seen → IsCovered floor thread seen → IsDead roots es seen.place
  covered_dead tables point thread seen cell below t known running =
      let of : IsOf es thread seen.place = (Call seen.call, cell.is.call, cell.of_thread) in
      let own : OwnNumber es thread seen.place seen.stamp.number
      = subst (λ u. OwnNumber es u seen.place seen.stamp.number) (cell.is.stamp.thread (Call seen.call) cell.is.call ∙ cell.of_thread) cell.is.stamp.number in
      let least_t : component floor thread ≤ known_to tracking.threads t thread = least.below t thread ((stands.known t).1 known, not_joined t running) in
      (covers (IsOf es thread) (Knows es (Carries es t)) (length es) seen.place seen.stamp.number (known_to tracking.threads t thread)
      (knows_front es thread (Carries es t)) (slice_get_within es seen.place (Call seen.call) cell.is.call) of own (stands.clocks t thread)).0
      (omega (arith, below, least_t))

  -- and so are the earlier ones of its thread
  earlier_dead : (i : ℕ) (call : CallOf) (seen : Witness) → slice_get es i ≡ Some (Call call) → slice_get es seen.place ≡ Some (Call seen.call) → seen.call.thread ≡ call.thread → i ≤ seen.place
      → IsDead roots es seen.place → IsDead roots es i
  earlier_dead i call seen at at_seen same below dead t known running = known_before es (Carries es t) i seen.place (dead t known running) (elim (cases_eq i seen.place) [
    | inl here ↦ inl here
    | inr other ↦ inr (own_reaches es call.thread i seen.place (omega (arith, below, other)) (Call call, at, refl) (Call seen.call, at_seen, same))
  ])

  pub stands_swept : (kinds : List SpecifiedKind) (old new : Detecting) → new.tables ≡ old.tables → IsSwept floor old.store new.store
      → DetectorStandsFor kinds old roots lines es → DetectorStandsFor kinds new roots lines es
  stands_swept kinds old new tables swept was = record {
    kinds_are = was.kinds_are;
    tables_are = tables ∙ was.tables_are;
    formed = was.formed;
    lengths = was.lengths;
    cells = λ point thread seen cell. longer point thread seen (was.cells point thread seen (was_cell point thread seen cell));
    last = λ i call point at touches.
        elim (was.last i call point at (subst (λ t. Contains (touched_points t call) point) tables touches)) [
          | inl held ↦ held_or_dead i call point at held
          | inr dead ↦ inr dead
        ];
  }
    where
      longer : (point : Point) (thread : ℕ) (seen : Witness) → IsCell old.tables lines es point thread seen → IsCell new.tables lines es point thread seen
      longer point thread seen cell = subst (λ t. IsCell t lines es point thread seen) (sym tables) cell

      was_cell : (point : Point) (thread : ℕ) (seen : Witness) → cell_at new.store point thread ≡ Some seen → cell_at old.store point thread ≡ Some seen
      was_cell point thread seen cell = uncovered_was floor (cell_at old.store point thread) thread seen (sym (swept point thread) ∙ cell)

      held_or_dead : (i : ℕ) (call : CallOf) (point : Point) → slice_get es i ≡ Some (Call call) → IsInCell old.store point call i → IsInCell new.store point call i ⊎ IsDead roots es i
      held_or_dead i call point at held = elim (cases_Bool (is_covered floor call.thread held.0)) [
        | inl gone ↦
            let cell : IsCell old.tables lines es point call.thread held.0 = was.cells point call.thread held.0 held.1 in
            inr (earlier_dead i call held.0 at cell.is.call cell.of_thread held.2
            (covered_dead old.tables point call.thread held.0 cell (leb-true held.0.stamp.number (component floor call.thread) gone)))
        | inr stays ↦ inl (
          held.0,
          swept point call.thread ∙ ap (uncovered floor call.thread) held.1 ∙ ap (λ b. if b then None else Some held.0) stays,
          held.2,
        )
      ]

-- ---- what the detector stands for behind a call

detecting_is : (d : Detecting) (tables : List PointTable) (store : List PointCells) (count : ℕ) → d.tables ≡ tables → d.store ≡ store → d.kept ≡ count
    → d ≡ record { tables = tables; store = store; kept = count }
detecting_is d tables store count a b c = rw (← a, ← b, ← c) refl

pub stands_taken : (kinds : List SpecifiedKind) (old new : Detecting) (tracking : Tracking) (roots : ℕ → Bool) (lines : List ℕ) (es : List Event) (place : ℕ) (call : CallOf) (stamp : Stamp) (line : ℕ)
    → (tell : MergedTell) (next : IsNextCall kinds old tracking roots lines es place call stamp)
    → IsCallKept tracking.threads old new call (record { line = line; place = place; call = call; stamp = stamp })
    → DetectorStandsFor kinds new roots (lines ++ line ∷ []) (es ++ Call call ∷ [])
stands_taken kinds old new tracking roots lines es place call stamp line tell next taken = by (is_due (cell_count taken.store) old.kept) taken.swept
  where
    middle : Detecting
    middle = record { tables = old.tables; store = taken.store; kept = old.kept }

    between : DetectorStandsFor kinds middle roots (lines ++ line ∷ []) (es ++ Call call ∷ [])
    between = stands_longer tell kinds old tracking roots lines es place call stamp next line middle refl taken.touched

    by : (due : Bool) → IsSweptWhere due tracking.threads old.kept taken.store new.store new.kept → DetectorStandsFor kinds new roots (lines ++ line ∷ []) (es ++ Call call ∷ [])
    by true swept = stands_swept tracking roots (lines ++ line ∷ []) (es ++ Call call ∷ []) next.tracked swept.0 swept.1 kinds middle new taken.tables swept.2 between
    by false swept = subst (λ d. DetectorStandsFor kinds d roots (lines ++ line ∷ []) (es ++ Call call ∷ [])) (sym same) between
      where
        same : new ≡ middle
        same = detecting_is new old.tables taken.store old.kept taken.tables swept.0 swept.1
