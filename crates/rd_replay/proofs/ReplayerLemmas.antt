-- What a replayer stands for behind one object or one call more.
use Rattle.std.proofs.Common.{◌≡◌, ◌≢◌, inl, inr, ℕ, zero, suc, ◌<◌, ◌≤◌, List, [], ◌∷◌, ◌++◌, length, Some, None, refl, sym, ap, ◌∙◌, subst, arith}
use Rattle.std.specs.Prelude.{◌-◌, get_or, set, slice_get}
use Rattle.std.specs.Option.{option_and_then}
use Rattle.std.proofs.lemmas.Bool.{cases_eq, cases_lt}
use Rattle.std.proofs.lemmas.List.{length-set, length-take}
use Rattle.std.proofs.lemmas.List.Elements.{All-append, All-cons, All-nil, All-weaker}
use Rattle.std.proofs.lemmas.Option.{none-some, same_Some, slice_get-get_or, slice_get_within}
use Rattle.rd_event.specs.declared.events.Call.{Call}
use Rattle.rd_kinds.proofs.ObjectKinds.{machine_of_kind}
use Rattle.rd_kinds.specs.Machines.{machine_of, shipped_machines}
use Rattle.rd_kinds.specs.Objects.{object_kind, machine_for, shape_of}
use Rattle.rd_kinds.specs.declared.objects.Object.{Object}
use Rattle.rd_object.specs.Machines.{IsTaken}
use Rattle.rd_object.specs.declared.shapes.Expected.{Expected}
use Rattle.rd_object.specs.declared.shapes.ReplayEnd.TheVariants.{Exact, Differs, NotShipped}
use Rattle.rd_order.proofs.OrderLemmas.{at_end, at_front, length_more}
use Rattle.rd_replay.specs.Replays.{Recorded, arguments_of, difference, held_shape, object_machine, replay_end, result_of, shape_after, step_at, step_difference}
use Rattle.rd_replay.specs.Replayer.{AreObjectsHeld, IsHeld, IsRecordable, ReplayerStandsFor, match_of}
use Rattle.rd_replay.specs.declared.replayer.Match.TheVariants as match
use Rattle.rd_replay.specs.declared.replayer.Replayer.{Replayer}
use Rattle.rd_replay.proofs.ReplayLemmas.{AreDeclared, difference_here, end_differs, end_foreign, end_longer, end_same, end_stopped, end_unknown, held_elsewhere, held_here, held_longer, held_new}

-- ---- lists

set_here : {X : Type 0} (xs : List X) (k : ℕ) (y : X) → k < length xs → slice_get (set xs k y) k ≡ Some y
set_here [] k y inside = absurd (omega arith)
set_here (x ∷ xs) zero y inside = refl
set_here (x ∷ xs) (suc k) y inside = set_here xs k y (omega arith)

set_there : {X : Type 0} (xs : List X) (k n : ℕ) (y : X) → k ≢ n → slice_get (set xs n y) k ≡ slice_get xs k
set_there [] k n y other = refl
set_there (x ∷ xs) zero zero y other = absurd (other refl)
set_there (x ∷ xs) zero (suc n) y other = refl
set_there (x ∷ xs) (suc k) zero y other = refl
set_there (x ∷ xs) (suc k) (suc n) y other = set_there xs k n y (λ e. other (ap suc e))

-- ---- objects

none_held : AreObjectsHeld [] [] []
none_held = record { count = refl; each = λ number kind object at. absurd (none-some kind at) }

pub stands_none : (replayer : Replayer) → replayer.end ≡ Exact → replayer.objects.items ≡ [] → ReplayerStandsFor replayer [] []
unfolding replay_end
stands_none replayer end empty = record {
  end = end;
  declared = All-nil (λ (r : Recorded). r.1.object < 0);
  objects = λ _. subst (AreObjectsHeld [] []) (sym empty) none_held;
}

-- the machine of an object that is kept
machine_held : (kinds : List ℕ) (number kind : ℕ) (object : Object) → slice_get kinds number ≡ Some kind → object_kind object ≡ kind
    → machine_of (object_kind object) ≡ Some (machine_for object) → object_machine kinds number ≡ Some (machine_for object)
machine_held kinds number kind object at is machine = ap (option_and_then machine_of) at ∙ (ap machine_of (sym is) ∙ machine)

-- one object more
held_push : (kinds : List ℕ) (calls : List Recorded) (objects : List Object) (kind : ℕ) (object : Object) → AreDeclared kinds calls → AreObjectsHeld kinds calls objects
    → object_kind object ≡ kind → machine_of (object_kind object) ≡ Some (machine_for object) → shape_of object ≡ (machine_for object).first
    → AreObjectsHeld (kinds ++ kind ∷ []) calls (objects ++ object ∷ [])
held_push kinds calls objects kind object all kept is machine first = record {
  count = omega (arith, kept.count, length_more objects object, length_more kinds kind);
  each = λ number k o at_kind at_object. elim (cases_lt number (length kinds)) [
    | inl inside ↦
        let was = kept.each number k o (sym (at_front kinds (kind ∷ []) number inside) ∙ at_kind)
        (sym (at_front objects (object ∷ []) number (omega (arith, kept.count))) ∙ at_object) in
        record { kind_is = was.kind_is; holds = held_longer kinds (kind ∷ []) calls number inside ∙ was.holds }
    | inr past ↦
        let within = slice_get_within (kinds ++ kind ∷ []) number k at_kind in
        let last : number ≡ length kinds = omega (arith, past, within, length_more kinds kind) in
        last_held number k o last
        (same_Some k kind (sym at_kind ∙ (ap (slice_get (kinds ++ kind ∷ [])) last ∙ at_end kinds kind)))
        (same_Some o object (sym at_object ∙ (ap (slice_get (objects ++ object ∷ [])) (last ∙ sym kept.count) ∙ at_end objects object)))
  ];
}
  where
    last_held : (number k : ℕ) (o : Object) → number ≡ length kinds → k ≡ kind → o ≡ object → IsHeld (kinds ++ kind ∷ []) calls number k o
    last_held number k o last same_kind same_object = record {
      kind_is = ap object_kind same_object ∙ (is ∙ sym same_kind);
      holds =
          ap (held_shape (kinds ++ kind ∷ []) calls) last
          ∙ (held_new kinds kind calls (machine_for object) all (ap machine_of (sym is) ∙ machine) (at_end kinds kind)
          ∙ ap Some (sym first ∙ ap shape_of (sym same_object)));
    }

more_declared : (kinds : List ℕ) (kind : ℕ) (calls : List Recorded) → AreDeclared kinds calls → AreDeclared (kinds ++ kind ∷ []) calls
more_declared kinds kind calls all =
    All-weaker (λ (r : Recorded). r.1.object < length kinds) (λ (r : Recorded). r.1.object < length (kinds ++ kind ∷ []))
    (λ r inside. omega (arith, inside, length_more kinds kind)) calls all

pub stands_declared : (old now : Replayer) (kinds : List ℕ) (calls : List Recorded) (kind : ℕ) (object : Object) → ReplayerStandsFor old kinds calls → old.end ≡ Exact
    → now.end ≡ old.end → now.objects.items ≡ old.objects.items ++ object ∷ [] → kind < length shipped_machines
    → object_kind object ≡ kind → machine_of (object_kind object) ≡ Some (machine_for object) → shape_of object ≡ (machine_for object).first
    → ReplayerStandsFor now (kinds ++ kind ∷ []) calls
stands_declared old now kinds calls kind object stands exact same pushed known is machine first = record {
  end = same ∙ (stands.end ∙ sym (end_longer kinds kind calls stands.declared known));
  declared = more_declared kinds kind calls stands.declared;
  objects = λ _. subst (AreObjectsHeld (kinds ++ kind ∷ []) calls) (sym pushed)
      (held_push kinds calls old.objects.items kind object stands.declared (stands.objects exact) is machine first);
}

-- where the replay has stopped already
pub stands_unkept : (old now : Replayer) (kinds : List ℕ) (calls : List Recorded) (kind : ℕ) → ReplayerStandsFor old kinds calls → old.end ≢ Exact → now.end ≡ old.end
    → kind < length shipped_machines → ReplayerStandsFor now (kinds ++ kind ∷ []) calls
stands_unkept old now kinds calls kind stands stopped same known = record {
  end = same ∙ (stands.end ∙ sym (end_longer kinds kind calls stands.declared known));
  declared = more_declared kinds kind calls stands.declared;
  objects = λ exact. absurd (stopped (sym same ∙ exact));
}

-- where the kind isn't built in
pub stands_foreign : (old now : Replayer) (kinds : List ℕ) (calls : List Recorded) (kind : ℕ) → ReplayerStandsFor old kinds calls → now.end ≡ NotShipped
    → length shipped_machines ≤ kind → ReplayerStandsFor now (kinds ++ kind ∷ []) calls
stands_foreign old now kinds calls kind stands foreign past = record {
  end = foreign ∙ sym (end_unknown kinds kind calls past);
  declared = more_declared kinds kind calls stands.declared;
  objects = λ exact. let apart : NotShipped ≡ Exact = sym foreign ∙ exact in cc;
}

-- ---- calls

push_declared : (kinds : List ℕ) (calls : List Recorded) (last : Recorded) (kind : ℕ) → AreDeclared kinds calls → slice_get kinds last.1.object ≡ Some kind
    → AreDeclared kinds (calls ++ last ∷ [])
push_declared kinds calls last kind all at =
    All-append (λ (r : Recorded). r.1.object < length kinds) calls (last ∷ []) all
    (All-cons (λ (r : Recorded). r.1.object < length kinds) last [] (slice_get_within kinds last.1.object kind at) (All-nil (λ (r : Recorded). r.1.object < length kinds)))

-- a call that isn't run, since the replay has stopped
pub stands_stopped : (old now : Replayer) (kinds : List ℕ) (calls : List Recorded) (last : Recorded) (line : ℕ) (expected : Expected) → ReplayerStandsFor old kinds calls
    → IsRecordable kinds last.1 → old.end ≡ Differs line expected → now.end ≡ old.end → ReplayerStandsFor now kinds (calls ++ last ∷ [])
stands_stopped old now kinds calls last line expected stands may differs same = record {
  end = same ∙ (differs ∙ sym (end_stopped kinds calls last line expected (sym stands.end ∙ differs)));
  declared = push_declared kinds calls last last.1.kind stands.declared may.declared;
  objects = λ exact. let apart : Differs line expected ≡ Exact = sym differs ∙ (sym same ∙ exact) in cc;
}

pub stands_unshipped : (old now : Replayer) (kinds : List ℕ) (calls : List Recorded) (last : Recorded) → ReplayerStandsFor old kinds calls
    → IsRecordable kinds last.1 → old.end ≡ NotShipped → now.end ≡ old.end → ReplayerStandsFor now kinds (calls ++ last ∷ [])
stands_unshipped old now kinds calls last stands may foreign same = record {
  end = same ∙ (foreign ∙ sym (end_foreign kinds calls (last ∷ []) (sym stands.end ∙ foreign)));
  declared = push_declared kinds calls last last.1.kind stands.declared may.declared;
  objects = λ exact. let apart : NotShipped ≡ Exact = sym foreign ∙ (sym same ∙ exact) in cc;
}

-- a call that is run: the object that it is on, before it and then
module _ (kinds : List ℕ) (calls : List Recorded) (objects : List Object) (last : Recorded) (object next : Object) (kept : AreObjectsHeld kinds calls objects)
    (may : IsRecordable kinds last.1) (at : slice_get objects last.1.object ≡ Some object)
    (machine : machine_of (object_kind object) ≡ Some (machine_for object)) (kind : object_kind next ≡ object_kind object) where
  here : IsHeld kinds calls last.1.object last.1.kind object
  here = kept.each last.1.object last.1.kind object may.declared at

  pub machine_here : object_machine kinds last.1.object ≡ Some (machine_for object)
  machine_here = machine_held kinds last.1.object last.1.kind object may.declared here.kind_is machine

  pub unlike_here : difference kinds calls last.1 ≡ step_difference (step_at (machine_for object) (shape_of object) last.1) (result_of last.1.slots)
  unlike_here = difference_here kinds calls last.1 (machine_for object) (shape_of object) machine_here here.holds

  -- it gave what was recorded
  pub held_run : shape_after (step_at (machine_for object) (shape_of object) last.1) (result_of last.1.slots) ≡ Some (shape_of next)
      → AreObjectsHeld kinds (calls ++ last ∷ []) (set objects last.1.object next)
  held_run goes = record {
    count = length-set objects last.1.object next ∙ kept.count;
    each = λ number k o at_kind at_object. elim (cases_eq number last.1.object) [
      | inl same ↦
          run_here number k o same
          (same_Some k last.1.kind (sym at_kind ∙ (ap (slice_get kinds) same ∙ may.declared)))
          (same_Some o next (sym at_object ∙ (ap (slice_get (set objects last.1.object next)) same
          ∙ set_here objects last.1.object next (slice_get_within objects last.1.object object at))))
      | inr other ↦
          let was = kept.each number k o at_kind (sym (set_there objects number last.1.object next other) ∙ at_object) in
          record { kind_is = was.kind_is; holds = held_elsewhere kinds calls last number (λ e. other (sym e)) ∙ was.holds }
    ];
  }
    where
      run_here : (number k : ℕ) (o : Object) → number ≡ last.1.object → k ≡ last.1.kind → o ≡ next → IsHeld kinds (calls ++ last ∷ []) number k o
      run_here number k o same same_kind same_object = record {
        kind_is = ap object_kind same_object ∙ (kind ∙ (here.kind_is ∙ sym same_kind));
        holds =
            ap (held_shape kinds (calls ++ last ∷ [])) same
            ∙ (held_here kinds calls last (machine_for object) (shape_of object) machine_here here.holds ∙ (goes ∙ ap (λ x. Some (shape_of x)) (sym same_object)));
      }

  -- it was refused for want of memory, and the object is as before
  pub held_still : shape_of next ≡ shape_of object → AreObjectsHeld kinds calls (set objects last.1.object next)
  held_still still = record {
    count = length-set objects last.1.object next ∙ kept.count;
    each = λ number k o at_kind at_object. elim (cases_eq number last.1.object) [
      | inl same ↦
          still_here number k o same
          (same_Some k last.1.kind (sym at_kind ∙ (ap (slice_get kinds) same ∙ may.declared)))
          (same_Some o next (sym at_object ∙ (ap (slice_get (set objects last.1.object next)) same
          ∙ set_here objects last.1.object next (slice_get_within objects last.1.object object at))))
      | inr other ↦ kept.each number k o at_kind (sym (set_there objects number last.1.object next other) ∙ at_object)
    ];
  }
    where
      still_here : (number k : ℕ) (o : Object) → number ≡ last.1.object → k ≡ last.1.kind → o ≡ next → IsHeld kinds calls number k o
      still_here number k o same same_kind same_object = record {
        kind_is = ap object_kind same_object ∙ (kind ∙ (here.kind_is ∙ sym same_kind));
        holds = ap (held_shape kinds calls) same ∙ (here.holds ∙ ap Some (sym still ∙ ap shape_of (sym same_object)));
      }

-- ---- what a call leaves

-- nothing changed
pub stands_unchanged : (kinds : List ℕ) (calls : List Recorded) (old now : Replayer) → ReplayerStandsFor old kinds calls → now.end ≡ old.end
    → now.objects.items ≡ old.objects.items → ReplayerStandsFor now kinds calls
stands_unchanged kinds calls old now stands end items = record {
  end = end ∙ stands.end;
  declared = stands.declared;
  objects = λ exact. subst (AreObjectsHeld kinds calls) (sym items) (stands.objects (sym end ∙ exact));
}

-- the object of a call may run it
pub fits_here : (kinds : List ℕ) (calls : List Recorded) (objects : List Object) (call : Call) (object : Object) → AreObjectsHeld kinds calls objects
    → IsRecordable kinds call → slice_get objects call.object ≡ Some object → (0 < length call.slots) × IsTaken (machine_for object) call.method (arguments_of call.slots)
fits_here kinds calls objects call object kept may at =
    let here = kept.each call.object call.kind object may.declared at in
    let (some, known, slots) = may.fits (machine_for object) (ap machine_of (sym here.kind_is) ∙ machine_of_kind object) in
    let count = length-take (length call.slots - 1) call.slots in
    (some, (known, slots ∙ omega (arith, some, count)))

-- and it is kept
pub inside_here : (kinds : List ℕ) (calls : List Recorded) (objects : List Object) (call : Call) → AreObjectsHeld kinds calls objects → IsRecordable kinds call
    → call.object < length objects
inside_here kinds calls objects call kept may = omega (arith, kept.count, slice_get_within kinds call.object call.kind may.declared)

module _ (kinds : List ℕ) (calls : List Recorded) (old now : Replayer) (last : Recorded) (object next : Object) (stands : ReplayerStandsFor old kinds calls)
    (may : IsRecordable kinds last.1) (exact : old.end ≡ Exact) (at : slice_get old.objects.items last.1.object ≡ Some object)
    (kind : object_kind next ≡ object_kind object) where
  was_exact : replay_end kinds calls ≡ Exact
  was_exact = sym stands.end ∙ exact

  -- its object gave what was recorded
  pub same_stands : step_difference (step_at (machine_for object) (shape_of object) last.1) (result_of last.1.slots) ≡ None
      → shape_after (step_at (machine_for object) (shape_of object) last.1) (result_of last.1.slots) ≡ Some (shape_of next)
      → now.end ≡ old.end → now.objects.items ≡ set old.objects.items last.1.object next → ReplayerStandsFor now kinds (calls ++ last ∷ [])
  same_stands same goes end items = record {
    end = end ∙ (exact ∙ sym (end_same kinds calls last was_exact
        (unlike_here kinds calls old.objects.items last object next (stands.objects exact) may at (machine_of_kind object) kind ∙ same)));
    declared = push_declared kinds calls last last.1.kind stands.declared may.declared;
    objects = λ _. subst (AreObjectsHeld kinds (calls ++ last ∷ [])) (sym items)
        (held_run kinds calls old.objects.items last object next (stands.objects exact) may at (machine_of_kind object) kind goes);
  }

  pub same_answer : step_difference (step_at (machine_for object) (shape_of object) last.1) (result_of last.1.slots) ≡ None
      → match.Same ≡ match_of (replay_end kinds calls) (replay_end kinds (calls ++ last ∷ []))
  same_answer same =
      sym (λ i. match_of (was_exact i) (end_same kinds calls last was_exact
      (unlike_here kinds calls old.objects.items last object next (stands.objects exact) may at (machine_of_kind object) kind ∙ same) i))

  -- it gave something else
  pub differs_stands : (expected : Expected) → step_difference (step_at (machine_for object) (shape_of object) last.1) (result_of last.1.slots) ≡ Some expected
      → now.end ≡ Differs last.0 expected → ReplayerStandsFor now kinds (calls ++ last ∷ [])
  differs_stands expected other end = record {
    end = end ∙ sym (end_differs kinds calls last expected was_exact
        (unlike_here kinds calls old.objects.items last object next (stands.objects exact) may at (machine_of_kind object) kind ∙ other));
    declared = push_declared kinds calls last last.1.kind stands.declared may.declared;
    objects = λ is_exact. let apart : Differs last.0 expected ≡ Exact = sym end ∙ is_exact in cc;
  }

  pub differs_answer : (expected : Expected) → step_difference (step_at (machine_for object) (shape_of object) last.1) (result_of last.1.slots) ≡ Some expected
      → match.Differs ≡ match_of (replay_end kinds calls) (replay_end kinds (calls ++ last ∷ []))
  differs_answer expected other =
      sym (λ i. match_of (was_exact i) (end_differs kinds calls last expected was_exact
      (unlike_here kinds calls old.objects.items last object next (stands.objects exact) may at (machine_of_kind object) kind ∙ other) i))

  -- it was refused for want of memory
  pub still_stands : shape_of next ≡ shape_of object → now.end ≡ old.end → now.objects.items ≡ set old.objects.items last.1.object next
      → ReplayerStandsFor now kinds calls
  still_stands still end items = record {
    end = end ∙ stands.end;
    declared = stands.declared;
    objects = λ _. subst (AreObjectsHeld kinds calls) (sym items)
        (held_still kinds calls old.objects.items last object next (stands.objects exact) may at (machine_of_kind object) kind still);
  }

-- a call behind one that differed, and where a kind isn't built in
pub stopped_answer : (kinds : List ℕ) (calls : List Recorded) (last : Recorded) (line : ℕ) (expected : Expected) → replay_end kinds calls ≡ Differs line expected
    → match.Stopped ≡ match_of (replay_end kinds calls) (replay_end kinds (calls ++ last ∷ []))
stopped_answer kinds calls last line expected differs = sym (ap (λ end. match_of end (replay_end kinds (calls ++ last ∷ []))) differs)

pub unshipped_answer : (kinds : List ℕ) (calls : List Recorded) (last : Recorded) → replay_end kinds calls ≡ NotShipped
    → match.NotShipped ≡ match_of (replay_end kinds calls) (replay_end kinds (calls ++ last ∷ []))
unshipped_answer kinds calls last foreign = sym (ap (λ end. match_of end (replay_end kinds (calls ++ last ∷ []))) foreign)

-- what an object holds that is kept
pub held_state : (kinds : List ℕ) (calls : List Recorded) (objects : List Object) (number : ℕ) (object : Object) → AreObjectsHeld kinds calls objects
    → number < length kinds → slice_get objects number ≡ Some object → held_shape kinds calls number ≡ Some (shape_of object)
held_state kinds calls objects number object kept inside at =
    (kept.each number (get_or kinds number 0) object (slice_get-get_or kinds number 0 inside) at).holds
