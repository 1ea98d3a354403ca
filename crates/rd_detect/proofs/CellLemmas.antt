-- What the cells of a detector say of races.
use Rattle.std.proofs.Common.{◌≡◌, ◌≢◌, ◌↔◌, inl, inr, ℕ, ◌<◌, ◌≤◌, Bool, List, [], ◌∷◌, ◌++◌, length, Option, Some, None, refl, sym, ap, subst, ◌∙◌, arith}
use Rattle.std.specs.Prelude.{Contains, slice_get}
use Rattle.std.proofs.lemmas.Bool.{cases_eq}
use Rattle.std.proofs.lemmas.Option.{same_Some, slice_get_within}
use Rattle.rd_event.specs.declared.events.Call.{Call as CallOf}
use Rattle.rd_event.specs.declared.events.Event.{Event}
use Rattle.rd_event.specs.declared.events.Event.TheVariants.{Call}
use Rattle.rd_clock.specs.Clock.{component}
use Rattle.rd_clock.specs.declared.clock.Stamp.{Stamp}
use Rattle.rd_ecl.specs.Kinds.{kinds_of}
use Rattle.rd_ecl.specs.Specified.{SpecifiedKind}
use Rattle.rd_hb.specs.EventClocks.{OwnNumber}
use Rattle.rd_hb.specs.Tracker.{Tracking}
use Rattle.rd_hb.proofs.ClockLemmas.{clock_tells, own_number_longer, own_reaches}
use Rattle.rd_order.specs.EventLists.{IsCallOf, WellFormedWith}
use Rattle.rd_order.specs.Order.{Reaches}
use Rattle.rd_order.proofs.OrderLemmas.{at_end, at_front, length_more, reaches_joined}
use Rattle.rd_points.specs.declared.points.Point.{Point}
use Rattle.rd_store.specs.Stores.{IsCovered, cell_at}
use Rattle.rd_store.specs.declared.Race.{Race}
use Rattle.rd_store.specs.declared.Witness.{Witness}
use Rattle.rd_races.specs.Commuting.{Commute}
use Rattle.rd_detect.specs.Detect.{Answers, AreTouched, Detecting, DetectorStandsFor, IsAnswer, IsCell, IsInCell, IsLatestOf, IsNextCall, IsUncovered, IsWitness, asked_points, tables_of, touched_points}
use Rattle.rd_races.specs.Races.{Racing}
use Rattle.rd_detect.proofs.AskLemmas.{call_fits, one_kind}
use Rattle.rd_detect.proofs.DeadLemmas.{dead_longer, dead_reaches}
use Rattle.rd_detect.proofs.TouchLemmas.{MergedTell, apart, met, same_object}
use Rattle.rd_detect.proofs.WitnessLemmas.{at_more, newest_witness, same_call, witness_longer}

same_Call : (a b : CallOf) → Call a ≡ Call b → a ≡ b
same_Call a b h = cc

-- ---- a cell, and the next call

module _ (tell : MergedTell) (kinds : List SpecifiedKind) (detecting : Detecting) (tracking : Tracking) (roots : ℕ → Bool) (lines : List ℕ) (es : List Event) (place : ℕ) (call : CallOf) (stamp : Stamp)
    (next : IsNextCall kinds detecting tracking roots lines es place call stamp) where
  abbrev now : List Event
  now = es ++ Call call ∷ []

  abbrev stands : DetectorStandsFor kinds detecting roots lines es
  stands = next.stands

  fits_this : IsCallOf (kinds_of kinds) call
  fits_this = call_fits (kinds_of kinds) now (length es) call next.formed.fit (at_end es (Call call))

  fits_at : (i : ℕ) (other : CallOf) → slice_get es i ≡ Some (Call other) → IsCallOf (kinds_of kinds) other
  fits_at i other at = call_fits (kinds_of kinds) now i other next.formed.fit (at_front es (Call call ∷ []) i (slice_get_within es i (Call other) at) ∙ at)

  -- its own number in its thread
  own : (seen : Witness) → IsWitness lines es seen → OwnNumber es seen.call.thread seen.place seen.stamp.number
  own seen is = subst (λ t. OwnNumber es t seen.place seen.stamp.number) (is.stamp.thread (Call seen.call) is.call) is.stamp.number

  -- the clock of the call covers it exactly where it reaches the call
  told : (seen : Witness) → IsWitness lines es seen → (seen.stamp.number ≤ component stamp.clock seen.call.thread) ↔ Reaches now seen.place (length es)
  told seen is = clock_tells now seen.place (length es) seen.call.thread seen.stamp.number (component stamp.clock seen.call.thread)
      inside (omega (arith, length_more es (Call call)))
      (Call seen.call, at_front es (Call call ∷ []) seen.place inside ∙ is.call, refl)
      ((own_number_longer es (Call call ∷ []) seen.call.thread seen.place seen.stamp.number inside).0 (own seen is))
      (next.stamped.clock seen.call.thread)
    where
      inside : seen.place < length es
      inside = slice_get_within es seen.place (Call seen.call) is.call

  covered : (thread : ℕ) (seen : Witness) → IsWitness lines es seen → seen.call.thread ≡ thread → (IsCovered stamp.clock thread seen) ↔ Reaches now seen.place (length es)
  covered thread seen is same = subst (λ t. (seen.stamp.number ≤ component stamp.clock t) ↔ Reaches now seen.place (length es)) same (told seen is)

  -- an earlier call on its object is of its kind
  kind_of : (i : ℕ) (other : CallOf) → slice_get es i ≡ Some (Call other) → other.object ≡ call.object → other.kind ≡ call.kind
  kind_of i other at same = one_kind roots es call other i next.formed.formed at same

  abbrev asked : List Point
  asked = asked_points (tables_of kinds) call

  -- a cell that is uncovered at a point that is asked is of a call that races with this one
  pub races : (seen : Witness) → IsUncovered detecting.store asked stamp.clock seen → Racing (Commute kinds) now seen.place (length es)
  races seen found = record {
    a = seen.call;
    b = call;
    at_i = at_front es (Call call ∷ []) seen.place inside ∙ is.call;
    at_j = at_end es (Call call);
    object = both.0;
    unordered = (inside, λ reaches. found.uncovered ((covered found.thread seen is cell.of_thread).1 reaches));
    apart = both.1;
  }
    where
      cell : IsCell detecting.tables lines es found.point found.thread seen
      cell = stands.cells found.point found.thread seen found.cell

      is : IsWitness lines es seen
      is = cell.is

      inside : seen.place < length es
      inside = slice_get_within es seen.place (Call seen.call) is.call

      touches : Contains (touched_points (tables_of kinds) seen.call) found.point
      touches = subst (λ tables. Contains (touched_points tables seen.call) found.point) stands.tables_are cell.touches

      -- they are on one object, so of one kind
      one : seen.call.kind ≡ call.kind
      one = kind_of seen.place seen.call is.call (same_object (tables_of kinds) seen.call call found.point found.among touches)

      both : (seen.call.object ≡ call.object) × ¬ (Commute kinds seen.call call)
      both = apart tell kinds stands.kinds_are seen.call call (fits_at seen.place seen.call is.call) fits_this one found.point found.among touches

  -- an earlier call that races with it has such a cell, or a later one of its thread has
  pub seen_of : (i : ℕ) → Racing (Commute kinds) now i (length es) → (seen : Witness) × IsUncovered detecting.store asked stamp.clock seen × (i ≤ seen.place)
  seen_of i racing = elim (stands.last i racing.a meeting.0 at touches) [
    | inl held ↦
        let seen : Witness = held.0 in
        let cell : IsCell detecting.tables lines es meeting.0 racing.a.thread seen = stands.cells meeting.0 racing.a.thread seen held.1 in (
          seen,
          record {
            point = meeting.0;
            among = meeting.1;
            thread = racing.a.thread;
            cell = held.1;
            uncovered = λ below. racing.unordered.1 (from_later seen cell held.2 ((covered racing.a.thread seen cell.is cell.of_thread).0 below));
          },
          held.2,
        )
    | inr dead ↦ absurd (racing.unordered.1 (dead_reaches roots es (Call call) i next.formed.formed dead))
  ]
    where
      inside : i < length es
      inside = racing.unordered.0

      at : slice_get es i ≡ Some (Call racing.a)
      at = sym (at_front es (Call call ∷ []) i inside) ∙ racing.at_i

      this : racing.b ≡ call
      this = same_call (slice_get now (length es)) racing.b call racing.at_j (at_end es (Call call))

      object : racing.a.object ≡ call.object
      object = racing.object ∙ ap (λ (c : CallOf). c.object) this

      meeting : (p : Point) × Contains asked p × Contains (touched_points (tables_of kinds) racing.a) p
      meeting = met tell kinds stands.kinds_are racing.a call (fits_at i racing.a at) fits_this (kind_of i racing.a at object) object
          (subst (λ c. ¬ (Commute kinds racing.a c)) this racing.apart)

      touches : Contains (touched_points detecting.tables racing.a) meeting.0
      touches = subst (λ tables. Contains (touched_points tables racing.a) meeting.0) (sym stands.tables_are) meeting.2

      -- what a later call of the thread reaches, this one reaches
      from_later : (seen : Witness) → IsCell detecting.tables lines es meeting.0 racing.a.thread seen → i ≤ seen.place → Reaches now seen.place (length es) → Reaches now i (length es)
      from_later seen cell below reaches = elim (cases_eq i seen.place) [
        | inl same ↦ subst (λ k. Reaches now k (length es)) (sym same) reaches
        | inr other ↦ reaches_joined now i seen.place (length es)
            (own_reaches now racing.a.thread i seen.place (omega (arith, below, other)) (Call racing.a, racing.at_i, refl)
            (Call seen.call, at_front es (Call call ∷ []) seen.place (slice_get_within es seen.place (Call seen.call) cell.is.call) ∙ cell.is.call, cell.of_thread))
            reaches
      ]

  -- ---- the answer

  abbrev kept : ℕ → Witness
  kept line = record { line = line; place = place; call = call; stamp = stamp }

  pub is_answer : (line : ℕ) (latest : Option Witness) → IsLatestOf detecting.store asked stamp.clock latest → (answer : Option Race) → Answers (kept line) latest answer
      → IsAnswer kinds (lines ++ line ∷ []) now (length es) answer
  unfolding races
  is_answer line None none answer is = subst (IsAnswer kinds (lines ++ line ∷ []) now (length es)) (sym is)
      (λ reported. let seen = seen_of reported.0 reported.1 in none seen.0 seen.1)
  is_answer line (Some seen) latest answer is = subst (IsAnswer kinds (lines ++ line ∷ []) now (length es)) (sym is.1) (
    seen.place,
    record {
      racing = races seen latest.0;
      latest = λ k racing. let other = seen_of k racing in omega (arith, other.2, latest.1 other.0 other.1);
    },
    record {
      later = kept line;
      earlier = seen;
      is = is.2;
      at_j = newest_witness lines es call stamp line place stands.lengths next.at_end next.stamped;
      later_place = next.at_end;
      at_i = witness_longer lines (line ∷ []) es (Call call ∷ []) seen stands.lengths cell.is;
      earlier_place = refl;
      one_kind = kind_of seen.place seen.call cell.is.call (races seen latest.0).object;
    },
  )
    where
      cell : IsCell detecting.tables lines es latest.0.point latest.0.thread seen
      cell = stands.cells latest.0.point latest.0.thread seen latest.0.cell

  -- ---- what the detector stands for then

  pub stands_longer : (line : ℕ) (new : Detecting) → new.tables ≡ detecting.tables
      → AreTouched detecting.store new.store (touched_points detecting.tables call) call.thread (kept line)
      → DetectorStandsFor kinds new roots (lines ++ line ∷ []) now
  stands_longer line new tables touched = record {
    kinds_are = stands.kinds_are;
    tables_are = tables ∙ stands.tables_are;
    formed = next.formed;
    lengths = omega (arith, length_more lines line, length_more es (Call call), stands.lengths);
    cells = λ point thread seen cell. elim (cases_eq thread call.thread) [
      | inl same ↦ elim (touched.rest point) [
        | inl touches ↦ fresh point thread seen (sym same) touches
            (same_Some seen (kept line) (sym cell ∙ ap (cell_at new.store point) same ∙ touched.own point touches))
        | inr as_before ↦ older point thread seen cell (subst (λ t. cell_at detecting.store point t ≡ Some seen) (sym same) (sym as_before ∙ ap (cell_at new.store point) (sym same) ∙ cell))
      ]
      | inr other ↦ older point thread seen cell (sym (touched.others point thread other) ∙ cell)
    ];
    last = λ i other point at touches.
        let before : Contains (touched_points detecting.tables other) point = subst (λ t. Contains (touched_points t other) point) tables touches in
        elim (at_more es (Call call) (Call other) i at) [
          | inl old ↦ elim (stands.last i other point old.1 before) [
            | inl held ↦ inl (held_then i other point old.0 held)
            | inr dead ↦ inr (dead_longer roots es (Call call) i next.formed.formed dead)
          ]
          | inr new_one ↦
              let same : other ≡ call = same_Call other call new_one.1 in
              inl (
                kept line,
                ap (λ (c : CallOf). cell_at new.store point c.thread) same ∙ touched.own point (subst (λ c. Contains (touched_points detecting.tables c) point) same before),
                omega (arith, new_one.0, next.at_end),
              )
        ];
  }
    where
      -- where the call touches the point, it is that of its thread's cell there
      older : (point : Point) (thread : ℕ) (seen : Witness) → cell_at new.store point thread ≡ Some seen → cell_at detecting.store point thread ≡ Some seen
          → IsCell new.tables (lines ++ line ∷ []) now point thread seen
      older point thread seen held cell =
          let was : IsCell detecting.tables lines es point thread seen = stands.cells point thread seen cell in
          record {
            is = witness_longer lines (line ∷ []) es (Call call ∷ []) seen stands.lengths was.is;
            of_thread = was.of_thread;
            touches = subst (λ t. Contains (touched_points t seen.call) point) (sym tables) was.touches;
            last = λ i other at own touches.
                let before : Contains (touched_points detecting.tables other) point = subst (λ t. Contains (touched_points t other) point) tables touches in
                elim (at_more es (Call call) (Call other) i at) [
                  | inl old ↦ was.last i other old.1 own before
                  | inr new_one ↦
                      let same : other ≡ call = same_Call other call new_one.1 in
                      let here : Contains (touched_points detecting.tables call) point
                      = subst (λ c. Contains (touched_points detecting.tables c) point) same before in
                      let mine : call.thread ≡ thread = ap (λ (c : CallOf). c.thread) (sym same) ∙ own in
                      let is : seen ≡ kept line = same_Some seen (kept line) (sym held ∙ ap (cell_at new.store point) (sym mine) ∙ touched.own point here) in
                      omega (arith, new_one.0, next.at_end, ap (λ (w : Witness). w.place) is)
                ];
          }

      fresh : (point : Point) (thread : ℕ) (seen : Witness) → call.thread ≡ thread → Contains (touched_points detecting.tables call) point → seen ≡ kept line
          → IsCell new.tables (lines ++ line ∷ []) now point thread seen
      fresh point thread seen same touches is = subst (IsCell new.tables (lines ++ line ∷ []) now point thread) (sym is) (record {
        is = newest_witness lines es call stamp line place stands.lengths next.at_end next.stamped;
        of_thread = same;
        touches = subst (λ t. Contains (touched_points t call) point) (sym tables) touches;
        last = λ i other at own before. omega (arith, slice_get_within now i (Call other) at, length_more es (Call call), next.at_end);
      })

      held_then : (i : ℕ) (other : CallOf) (point : Point) → i < length es → IsInCell detecting.store point other i → IsInCell new.store point other i
      held_then i other point inside held = elim (cases_eq other.thread call.thread) [
        | inl same ↦ elim (touched.rest point) [
          | inl touches ↦ (kept line, ap (cell_at new.store point) same ∙ touched.own point touches, omega (arith, inside, next.at_end))
          | inr as_before ↦ (held.0, ap (cell_at new.store point) same ∙ as_before ∙ ap (cell_at detecting.store point) (sym same) ∙ held.1, held.2)
        ]
        | inr differ ↦ (held.0, touched.others point other.thread differ ∙ held.1, held.2)
      ]

-- ---- other events

-- an event that is no call leaves what the detector stands for
pub stands_quiet : (kinds : List SpecifiedKind) (detecting : Detecting) (roots : ℕ → Bool) (lines : List ℕ) (es : List Event) (line : ℕ) (e : Event) → ((call : CallOf) → e ≢ Call call)
    → WellFormedWith (kinds_of kinds) roots (es ++ e ∷ []) → DetectorStandsFor kinds detecting roots lines es
    → DetectorStandsFor kinds detecting roots (lines ++ line ∷ []) (es ++ e ∷ [])
stands_quiet kinds detecting roots lines es line e other formed stands = record {
  kinds_are = stands.kinds_are;
  tables_are = stands.tables_are;
  formed = formed;
  lengths = omega (arith, length_more lines line, length_more es e, stands.lengths);
  cells = λ point thread seen cell.
      let was : IsCell detecting.tables lines es point thread seen = stands.cells point thread seen cell in
      record {
        is = witness_longer lines (line ∷ []) es (e ∷ []) seen stands.lengths was.is;
        of_thread = was.of_thread;
        touches = was.touches;
        last = λ i call at own touches. elim (at_more es e (Call call) i at) [
          | inl old ↦ was.last i call old.1 own touches
          | inr new ↦ absurd (other call (sym new.1))
        ];
      };
  last = λ i call point at touches. elim (at_more es e (Call call) i at) [
    | inl old ↦ elim (stands.last i call point old.1 touches) [ inl held ↦ inl held | inr dead ↦ inr (dead_longer roots es e i formed.formed dead) ]
    | inr new ↦ absurd (other call (sym new.1))
  ];
}

-- before the first event the roots don't matter
pub stands_unbegun : (kinds : List SpecifiedKind) (detecting : Detecting) (roots others : ℕ → Bool) → WellFormedWith (kinds_of kinds) others []
    → DetectorStandsFor kinds detecting roots [] [] → DetectorStandsFor kinds detecting others [] []
stands_unbegun kinds detecting roots others formed stands = record {
  kinds_are = stands.kinds_are;
  tables_are = stands.tables_are;
  formed = formed;
  lengths = refl;
  cells = stands.cells;
  last = λ i call point at. absurd (omega (arith, slice_get_within [] i (Call call) at));
}
