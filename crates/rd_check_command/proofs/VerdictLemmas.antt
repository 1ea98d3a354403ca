-- From accepted lines to the events, the calls and the objects of the verdict, and the verdict.
use Rattle.std.proofs.Common.{◌≡◌, ◌<◌, ◌+◌, ℕ, zero, suc, Bool, true, false, cond, List, [], ◌∷◌, ◌++◌, Option, Some, None, length, slice_get, map, arith, refl, sym, ◌∙◌, ap, subst}
use Rattle.std.specs.Prelude.{option_map, unwrap_or}
use Rattle.std.specs.List.{cons_option, range_with_len}
use Rattle.std.specs.Option.{option_and_then}
use Rattle.std.proofs.lemmas.Bool.Decides.{Decides-and, Decides-eqb}
use Rattle.std.proofs.lemmas.List.FromFn.{length-map-range_with_len}
use Rattle.std.proofs.lemmas.Option.{slice_get_within}
use Rattle.rd_order.proofs.EventListLemmas.{counted_once}
use Rattle.rd_ecl.specs.Kinds.{Kind, kinds_of}
use Rattle.rd_ecl.specs.Specified.{SpecifiedKind}
use Rattle.rd_check_command.proofs.ReportLemmas.{none_reported}
use Rattle.rd_check_command.specs.Checked.{entry_events, races_of}
use Rattle.rd_check_command.specs.Verdicts.{AreDeterministic, kinds_of_objects}
use Rattle.rd_kinds.specs.Machines.{shipped_machines}
use Rattle.rd_kinds.specs.Shipped.{shipped_kinds}
use Rattle.rd_kinds.proofs.MachineLemmas.{all_keep, all_sound}
use Rattle.rd_linear.proofs.DeterminismLemmas.{deterministic}
use Rattle.rd_object.specs.declared.shapes.ReplayEnd.TheVariants.{Exact}
use Rattle.rd_replay.proofs.LawLemmas.{exact_where}
use Rattle.rd_replay_command.proofs.DeclaredLemmas.{calls_declared}
use Rattle.rd_rules.proofs.EventsLemmas.{accepted_told}
use Rattle.rd_event.specs.declared.events.Call.{Call as CallOf}
use Rattle.rd_event.specs.declared.events.Event.{Event}
use Rattle.rd_event.specs.declared.events.Event.TheVariants.{Call}
use Rattle.rd_event.specs.declared.items.Line.{Line}
use Rattle.rd_linear.specs.Determinism.{AreOnObjects, NoneReported, Ends, held_behind, recorded_calls}
use Rattle.rd_object.specs.Machines.{Machine}
use Rattle.rd_object.specs.declared.shapes.Shape.{Shape}
use Rattle.rd_object.specs.declared.shapes.Shape.TheVariants.{One}
use Rattle.rd_base.specs.declared.values.Value.TheVariants.{Nil}
use Rattle.rd_order.specs.EventLists.{calls, is_call_on}
use Rattle.rd_order.specs.Order.{call_in}
use Rattle.rd_replay.specs.Replays.{Recorded, ReplaysAll, calls_on, held_shape, is_on, object_machine, result_of, shape_after, shape_by, step_at}
use Rattle.rd_replay_command.specs.Replaying.{recorded_from, recorded_of, replay_of}
use Rattle.rd_walk.specs.Walk.{Entry, items}
use Rattle.rd_rules.specs.Events.{AreAccepted, AreTold, roots_of, event_of, events_from, events_of}
use Rattle.rd_rules.specs.MayFollow.{object_kinds}

-- ---- the number of a line doesn't matter

abbrev stripped : Recorded → Recorded
stripped recorded = (0, recorded.1)

shape_stripped : (machine : Machine) (shape : Shape) (calls : List Recorded) → shape_by machine shape (map stripped calls) ≡ shape_by machine shape calls
shape_stripped machine shape [] = refl
shape_stripped machine shape (recorded ∷ calls) = go (shape_after (step_at machine shape recorded.1) (result_of recorded.1.slots)) (λ s. shape_stripped machine s calls)
  where
    go : (o : Option Shape) → ((s : Shape) → shape_by machine s (map stripped calls) ≡ shape_by machine s calls)
        → option_and_then (λ next. shape_by machine next (map stripped calls)) o ≡ option_and_then (λ next. shape_by machine next calls) o
    go None same = refl
    go (Some s) same = same s

calls_stripped : (object : ℕ) (calls : List Recorded) → calls_on object (map stripped calls) ≡ map stripped (calls_on object calls)
calls_stripped object [] = refl
calls_stripped object (recorded ∷ calls) = go (is_on object recorded) (calls_stripped object calls)
  where
    go : (b : Bool) → calls_on object (map stripped calls) ≡ map stripped (calls_on object calls)
        → cond b (stripped recorded ∷ calls_on object (map stripped calls)) (calls_on object (map stripped calls)) ≡ map stripped (cond b (recorded ∷ calls_on object calls) (calls_on object calls))
    go true same = ap (λ l. stripped recorded ∷ l) same
    go false same = same

held_stripped : (kinds : List ℕ) (calls : List Recorded) (object : ℕ) → held_shape kinds (map stripped calls) object ≡ held_shape kinds calls object
held_stripped kinds calls object = go (object_machine kinds object)
  where
    go : (o : Option Machine) → option_and_then (λ machine. shape_by machine machine.first (calls_on object (map stripped calls))) o
        ≡ option_and_then (λ machine. shape_by machine machine.first (calls_on object calls)) o
    go None = refl
    go (Some machine) = ap (shape_by machine machine.first) (calls_stripped object calls) ∙ shape_stripped machine machine.first (calls_on object calls)

-- ---- the calls of the events are those of the lines

with_call : (number : ℕ) (es : List Event) (rs : List Recorded) (o : Option CallOf) → recorded_calls es ≡ map stripped rs
    → cons_option (option_map {U = Recorded} (λ call. (0, call)) o) (recorded_calls es) ≡ map stripped (cons_option (option_map {U = Recorded} (λ call. (number, call)) o) rs)
with_call number es rs None same = same
with_call number es rs (Some call) same = ap (λ l. (0, call) ∷ l) same

with_event : (number : ℕ) (es : List Event) (rs : List Recorded) (o : Option Event) → recorded_calls es ≡ map stripped rs
    → recorded_calls (cons_option o es) ≡ map stripped (cons_option (option_map {U = Recorded} (λ call. (number, call)) (option_and_then call_in o)) rs)
with_event number es rs None same = same
with_event number es rs (Some e) same = with_call number es rs (call_in e) same

recorded_same : (kinds : List Kind) (before : List Line) (entries : List Entry) → recorded_calls (events_from kinds before (items entries)) ≡ map stripped (recorded_from kinds before entries)
recorded_same kinds before [] = refl
recorded_same kinds before (entry ∷ entries) =
    with_event entry.number (events_from kinds (before ++ entry.item ∷ []) (items entries)) (recorded_from kinds (before ++ entry.item ∷ []) entries)
    (event_of kinds before entry.item) (recorded_same kinds (before ++ entry.item ∷ []) entries)

pub held_same : (kinds : List Kind) (objects : List ℕ) (entries : List Entry) (object : ℕ) → held_behind shipped_machines objects (events_of kinds (items entries)) object ≡ held_shape objects (recorded_of kinds entries) object
unfolding recorded_of
held_same kinds objects entries object = ap (λ l. held_shape objects l object) (recorded_same kinds [] entries) ∙ held_stripped objects (recorded_from kinds [] entries) object

-- ---- the calls are on objects of their kinds

pub on_objects : (kinds : List Kind) (lines : List Line) → AreTold kinds lines → AreOnObjects (object_kinds kinds lines) (events_of kinds lines)
unfolding calls
on_objects kinds lines told i call at = told.told.one_kind call.object call.kind
    (counted_once (λ e. is_call_on (call_in e) call.object call.kind) (events_of kinds lines) i (Call call) at
    ((Decides-and _ _ (Decides-eqb call.object call.object) (Decides-eqb call.kind call.kind)).1 (refl, refl)))

-- ---- the shapes

abbrev pub shapes_of : List ℕ → List Recorded → List Shape
shapes_of objects calls = map (λ object. unwrap_or (held_shape objects calls object) (One Nil)) (range_with_len 0 (length objects))

got : (f : ℕ → Shape) (a n i : ℕ) → i < n → slice_get (map f (range_with_len a n)) i ≡ Some (f (a + i))
got f a zero i below = absurd (omega (arith, below))
got f a (suc n) zero below = ap (λ m. Some (f m)) (let e : a ≡ a + 0 = omega arith in e)
got f a (suc n) (suc i) below = got f (a + 1) n i (omega (arith, below)) ∙ ap (λ m. Some (f m)) (let e : a + 1 + i ≡ a + suc i = omega arith in e)

pub shapes_held : (objects : List ℕ) (calls : List Recorded) → ReplaysAll objects calls → (object : ℕ) → object < length objects → held_shape objects calls object ≡ slice_get (shapes_of objects calls) object
shapes_held objects calls all object inside =
    let shape = all.1 object inside in
    shape.1 ∙ (ap (λ o. Some (unwrap_or o (One Nil))) (sym shape.1) ∙ (ap (λ m. Some (unwrap_or (held_shape objects calls m) (One Nil))) (let e : object ≡ 0 + object = omega arith in e)
    ∙ sym (got (λ object. unwrap_or (held_shape objects calls object) (One Nil)) 0 (length objects) object inside)))

pub all_end : (kinds : List Kind) (objects : List ℕ) (entries : List Entry) → ReplaysAll objects (recorded_of kinds entries)
    → Ends shipped_machines objects (events_of kinds (items entries)) (shapes_of objects (recorded_of kinds entries))
all_end kinds objects entries all object shape at =
    let below = slice_get_within (shapes_of objects (recorded_of kinds entries)) object shape at in
    let inside : object < length objects = omega (arith, below, length-map-range_with_len (λ object. unwrap_or (held_shape objects (recorded_of kinds entries) object) (One Nil)) 0 (length objects)) in
    held_same kinds objects entries object ∙ (shapes_held objects (recorded_of kinds entries) all object inside ∙ at)

-- ---- the verdict

pub verdicts : (more kinds : List SpecifiedKind) → kinds ≡ shipped_kinds ++ more → (entries : List Entry) → AreAccepted (kinds_of kinds) (items entries)
    → races_of kinds entries ≡ 0 → replay_of (kinds_of kinds) entries ≡ Exact → AreDeterministic kinds entries
verdicts more kinds are entries accepted none exact =
    let told = accepted_told (kinds_of kinds) (items entries) accepted in
    let objects = kinds_of_objects kinds entries in
    let calls = recorded_of (kinds_of kinds) entries in
    let all = (exact_where objects calls (calls_declared (kinds_of kinds) entries accepted)).0 exact in
    record {
      shapes = shapes_of objects calls;
      held = λ object inside.
          let shape = all.1 object inside in
          (shape.0, sym (shapes_held objects calls all object inside) ∙ shape.1, shape.1);
      orders = deterministic shipped_machines (roots_of (items entries)) more objects (shapes_of objects calls) (entry_events kinds entries) all_sound all_keep
          told.told.formed (on_objects (kinds_of kinds) (items entries) told)
          (subst (λ k. NoneReported k (entry_events kinds entries)) are ((none_reported kinds entries).0 none))
          (all_end (kinds_of kinds) objects entries all);
    }
