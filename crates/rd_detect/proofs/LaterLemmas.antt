-- What is known of points, for the clocks of later events.
use Rattle.std.proofs.Common.{◌≡◌, ◌⊎◌, inl, inr, ℕ, ◌<◌, ◌≤◌, Bool, true, false, List, [], ◌∷◌, ◌++◌, length, Option, Some, Result, Ok, Err, refl, sym, ap, subst, ◌∙◌, arith}
use Rattle.std.specs.Prelude.{Contains, OnOk, slice_get}
use Rattle.std.proofs.lemmas.Bool.{cases_eq}
use Rattle.std.proofs.lemmas.List.{append-nil, append_assoc, length-append}
use Rattle.std.proofs.lemmas.Option.{none-some, same_Some, slice_get-get_or}
use Rattle.rd_clock.specs.Clock.{component}
use Rattle.rd_clock.specs.declared.clock.Stamp.{Stamp}
use Rattle.rd_event.specs.declared.events.Call.{Call as CallOf}
use Rattle.rd_event.specs.declared.events.Event.{Event}
use Rattle.rd_event.specs.declared.events.Event.TheVariants.{Call}
use Rattle.rd_hb.specs.EventClocks.{IsClock}
use Rattle.rd_hb.specs.Tracker.{IsStamp}
use Rattle.rd_hb.specs.declared.tracker.Tracked.{Tracked}
use Rattle.rd_hb.proofs.ClockLemmas.{clock_longer, clock_same, clock_tells, own_number_longer}
use Rattle.rd_order.specs.Order.{IsOf, Reaches}
use Rattle.rd_order.proofs.CountsLemmas.{counts_le}
use Rattle.rd_order.proofs.OrderLemmas.{at_end, at_front, length_more, reaches_joined}
use Rattle.rd_points.specs.declared.points.Point.{Point}
use Rattle.rd_store.specs.Stores.{IsCovered, IsOneEach, PointCells, cell_at, point_at}
use Rattle.rd_store.specs.declared.Seat.{Seat}
use Rattle.rd_store.specs.declared.Witness.{Witness}
use Rattle.rd_detect.specs.Covers.{AreCoveredAt, AreLeft, AreOwn, AreTrueFor, CoversKept, CoversStandFor, CountsEpoch, IsLater, cover_at}
use Rattle.rd_detect.specs.Detect.{Detecting, IsCallKept, IsCallLeft, IsSweptWhere, touched_points}
use Rattle.rd_detect.specs.Seats.{AreSeats}
use Rattle.rd_detect.specs.declared.covers.Epoch.{Epoch}
use Rattle.rd_detect.proofs.CoverLemmas.{cover_within, covered_entered, no_fewer, was_at}
use Rattle.rd_detect.proofs.SweepLemmas.{uncovered_was}

-- ---- later clocks

later_shorter : (es more : List Event) (clock : List ℕ) → IsLater (es ++ more) clock → IsLater es clock
later_shorter es more clock later = record {
  rest = more ++ later.rest;
  place = later.place;
  stamp = later.stamp;
  late = omega (arith, later.late, length-append es more);
  inside = subst (λ list. later.place < length list) (append_assoc es more later.rest) later.inside;
  stamped = subst (λ list. IsStamp list later.place later.stamp) (append_assoc es more later.rest) later.stamped;
  clock_is = later.clock_is;
}

-- what stands for a list stands for one with more events
pub stand_longer : (es more : List Event) (store : List PointCells) (covers : List (Option Epoch)) → CoversStandFor es store covers → CoversStandFor (es ++ more) store covers
stand_longer es more store covers stand = record {
  few = stand.few;
  each = λ index epoch point clock at stands later heard. stand.each index epoch point clock at stands (later_shorter es more clock later) heard;
}

-- where nothing is known of any point
pub stand_none : (es : List Event) (store : List PointCells) (covers : List (Option Epoch)) → length covers ≡ 0 → CoversStandFor es store covers
stand_none es store covers none = record {
  few = omega (arith, none);
  each = λ index epoch point clock at stands later heard. absurd (omega (arith, none, cover_within covers index epoch at));
}

module _ (es : List Event) (e : Event) (stamp : Stamp) (stamped : IsStamp (es ++ e ∷ []) (length es) stamp) where
  now_later : IsLater (es ++ e ∷ []) stamp.clock
  now_later = record {
    rest = [];
    place = length es;
    stamp = stamp;
    late = omega (arith, length_more es e);
    inside = subst (λ list. length es < length list) (sym (append-nil (es ++ e ∷ []))) (omega (arith, length_more es e));
    stamped = subst (λ list. IsStamp list (length es) stamp) (sym (append-nil (es ++ e ∷ []))) stamped;
    clock_is = refl;
  }

  pub true_now : (store : List PointCells) (covers : List (Option Epoch)) → CoversStandFor es store covers → AreTrueFor store covers stamp.clock
  true_now store covers stand = record {
    few = stand.few;
    each = λ index epoch point at stands heard.
        (stand_longer es (e ∷ []) store covers stand).each index epoch point stamp.clock at stands now_later heard;
  }

  -- a later clock that counts the event counts all that it knows
  above : (clock : List ℕ) → IsLater (es ++ e ∷ []) clock → stamp.number ≤ component clock stamp.thread → (t : ℕ) → component stamp.clock t ≤ component clock t
  above clock later heard t = subst (λ c. component stamp.clock t ≤ component c t) (sym later.clock_is) (elim (cases_eq (length es) later.place) [
    | inl same ↦ omega (
      arith,
      clock_same whole later.place t (component stamp.clock t) (component later.stamp.clock t)
          (subst (λ i. IsClock whole i t (component stamp.clock t)) same (mine t)) (later.stamped.clock t),
    )
    | inr other ↦
        let before : length es < later.place = omega (arith, other, later.late, length_more es e) in
        let reaches : Reaches whole (length es) later.place
        = (clock_tells whole (length es) later.place stamp.thread stamp.number (component later.stamp.clock stamp.thread) before later.inside of
        ((own_number_longer (es ++ e ∷ []) later.rest stamp.thread (length es) stamp.number inside).0 stamped.number) (later.stamped.clock stamp.thread)).0
        (subst (λ c. stamp.number ≤ component c stamp.thread) later.clock_is heard) in
        counts_le (λ k. IsOf whole t k × ((k ≡ length es) ⊎ Reaches whole k (length es))) (λ k. IsOf whole t k × ((k ≡ later.place) ⊎ Reaches whole k later.place)) (length whole)
        (component stamp.clock t) (component later.stamp.clock t)
        (λ k below at. (
          at.0,
          elim at.1 [
            | inl here ↦ inr (subst (λ i. Reaches whole i later.place) (sym here) reaches)
            | inr way ↦ inr (reaches_joined whole k (length es) later.place way reaches)
          ],
        ))
        (mine t) (later.stamped.clock t)
  ])
    where
      whole : List Event
      whole = (es ++ e ∷ []) ++ later.rest

      inside : length es < length (es ++ e ∷ [])
      inside = omega (arith, length_more es e)

      mine : (t : ℕ) → IsClock whole (length es) t (component stamp.clock t)
      mine t = (clock_longer (es ++ e ∷ []) later.rest (length es) t (component stamp.clock t) inside).0 (stamped.clock t)

      of : IsOf whole stamp.thread (length es)
      of = (e, at_front (es ++ e ∷ []) later.rest (length es) inside ∙ at_end es e, sym (stamped.thread e (at_end es e)))

-- ---- what a sweep leaves

swept_was : (due : Bool) (threads : List Tracked) (kept : ℕ) (store new : List PointCells) (left : ℕ) → IsSweptWhere due threads kept store new left
    → (point : Point) (thread : ℕ) (seen : Witness) → cell_at new point thread ≡ Some seen → cell_at store point thread ≡ Some seen
swept_was true threads kept store new left swept point thread seen cell = uncovered_was swept.0 (cell_at store point thread) thread seen (sym (swept.2 point thread) ∙ cell)
swept_was false threads kept store new left swept point thread seen cell = subst (λ s. cell_at s point thread ≡ Some seen) swept.0 cell

-- ---- a call that is kept

-- indices stay the same
no_fewer_left : (old new : List PointCells) → ((index : ℕ) → point_at new index ≡ point_at old index) → length old ≤ length new
no_fewer_left old new stay = no_fewer old new (λ index point at. stay index ∙ at)

module _ (es : List Event) (call : CallOf) (stamp : Stamp) (stamped : IsStamp (es ++ Call call ∷ []) (length es) stamp)
    (old middle new : Detecting) (before between after : List (Option Epoch)) (stand : CoversStandFor es old.store before)
    (left : IsCallLeft old middle) (stay : (index : ℕ) (point : Point) → point_at old.store index ≡ Some point → point_at middle.store index ≡ Some point) where
  abbrev now : List Event
  now = es ++ Call call ∷ []

  abbrev own : Epoch
  own = record { thread = stamp.thread; number = stamp.number }

  module _ (kept : CoversKept middle.store stamp.clock own before between) where
    -- behind the look
    covered : (index : ℕ) (epoch : Epoch) (point : Point) (clock : List ℕ) → cover_at between index ≡ Some epoch → point_at middle.store index ≡ Some point
        → IsLater now clock → CountsEpoch clock epoch → AreCoveredAt middle.store point clock
    covered index epoch point clock at stands later heard = elim (kept.follow index) [
      | inl same ↦
          let was : cover_at before index ≡ Some epoch = sym same ∙ at in
          covered_entered old.store middle.store left.store point clock
          (stand.each index epoch point clock was
          (was_at old.store middle.store stay index point (omega (arith, stand.few, cover_within before index epoch was)) stands)
          (later_shorter es (Call call ∷ []) clock later) heard)
      | inr changed ↦ elim changed [
        | inl none ↦ absurd (none-some epoch (sym none ∙ at))
        | inr is ↦
            let same : own ≡ epoch = same_Some own epoch (sym is.0 ∙ at) in
            λ thread seen cell. omega (arith, is.1 point stands thread seen cell, above es (Call call) stamp stamped clock later (subst (CountsEpoch clock) (sym same) heard) thread)
      ]
    ]

    module _ (seats : List Seat) (owned : AreOwn own between seats) (are : AreSeats middle.store call.thread (touched_points middle.tables call) seats) (once : IsOneEach middle.store)
        (threads : List Tracked) (line place : ℕ)
        (taken : IsCallKept threads middle new call (record { line = line; place = place; call = call; stamp = stamp })) where
      -- the epoch of a point that the call touches is its own
      own_there : (index : ℕ) (epoch : Epoch) (point : Point) → cover_at between index ≡ Some epoch → point_at middle.store index ≡ Some point
          → Contains (touched_points middle.tables call) point → epoch ≡ own
      own_there index epoch point at stands among =
          let i : ℕ = among.0 in
          let there : slice_get (touched_points middle.tables call) i ≡ Some point = slice_get-get_or (touched_points middle.tables call) i point among.1 ∙ ap Some among.2 in
          let seat = are.each i point there in
          let one : seat.0.index ≡ index = once.once seat.0.index index point seat.2.at stands in
          elim (owned i seat.0 seat.1) [
            | inl none ↦ absurd (none-some epoch (sym (ap (cover_at between) (sym one) ∙ none) ∙ at))
            | inr is ↦ same_Some epoch own (sym at ∙ ap (cover_at between) (sym one) ∙ is)
          ]

      covered_then : (index : ℕ) (epoch : Epoch) (point : Point) (clock : List ℕ) → cover_at between index ≡ Some epoch → point_at middle.store index ≡ Some point
          → IsLater now clock → CountsEpoch clock epoch → AreCoveredAt new.store point clock
      covered_then index epoch point clock at stands later heard thread seen cell =
          let was : cell_at taken.store point thread ≡ Some seen = swept_was _ threads middle.kept taken.store new.store new.kept taken.swept point thread seen cell in
          elim (cases_eq thread call.thread) [
            | inl same ↦ elim (taken.touched.rest point) [
              | inl among ↦
                  let is : record { line = line; place = place; call = call; stamp = stamp } ≡ seen
                  = same_Some _ seen (sym (taken.touched.own point among) ∙ ap (cell_at taken.store point) (sym same) ∙ was) in
                  let mine : epoch ≡ own = own_there index epoch point at stands among in
                  let heard_own : CountsEpoch clock own = subst (CountsEpoch clock) mine heard in
                  let of : stamp.thread ≡ call.thread = stamped.thread (Call call) (at_end es (Call call)) in
                  subst (IsCovered clock thread) is (subst (λ t. stamp.number ≤ component clock t) (of ∙ sym same) heard_own)
              | inr as_before ↦ covered index epoch point clock at stands later heard thread seen
                  (subst (λ t. cell_at middle.store point t ≡ Some seen) (sym same) (sym as_before ∙ ap (cell_at taken.store point) (sym same) ∙ was))
            ]
            | inr other ↦ covered index epoch point clock at stands later heard thread seen (sym (taken.touched.others point thread other) ∙ was)
          ]

      pub stand_kept : AreLeft middle.store new.store between after → CoversStandFor now new.store after
      stand_kept (inl none) = stand_none now new.store after none
      stand_kept (inr same) = subst (CoversStandFor now new.store) (sym same.0) (record {
        few = omega (arith, kept.few, no_fewer_left middle.store new.store same.1);
        each = λ index epoch point clock at stands later heard. covered_then index epoch point clock at (sym (same.1 index) ∙ stands) later heard;
      })

pub both_on_ok : {T E : Type 0} (r : Result T E) (A B : Type 0) → OnOk r A → OnOk r B → OnOk r (A × B)
both_on_ok (Ok x) A B a b = (a, b)
both_on_ok (Err e) A B a b = tt
