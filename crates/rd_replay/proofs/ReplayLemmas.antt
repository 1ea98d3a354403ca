-- Replays of more calls, and of calls on more objects.
use Rattle.std.proofs.Common.{◌≡◌, ◌≢◌, ℕ, ◌<◌, ◌≤◌, Bool, true, false, cond, ltb, ◌&&◌, List, [], ◌∷◌, ◌++◌, length, Option, Some, None, refl, sym, ap, ◌∙◌, arith}
use Rattle.std.specs.Prelude.{All, filter, slice_get}
use Rattle.std.specs.Option.{option_and_then, option_or}
use Rattle.std.proofs.lemmas.Bool.{eq-eqb, ne_eqb, le-ltb, lt-ltb}
use Rattle.std.proofs.lemmas.List.{append_assoc, append-nil}
use Rattle.std.proofs.lemmas.List.Elements.{All-head, All-tail, filter-append}
use Rattle.std.proofs.lemmas.List.Folds.{list_all-append}
use Rattle.rd_event.specs.declared.events.Call.{Call}
use Rattle.rd_kinds.specs.Machines.{machine_of, shipped_machines}
use Rattle.rd_object.specs.Machines.{Machine}
use Rattle.rd_object.specs.declared.shapes.Expected.{Expected}
use Rattle.rd_object.specs.declared.shapes.ReplayEnd.TheVariants.{Exact, Differs, NotShipped}
use Rattle.rd_object.specs.declared.shapes.Shape.{Shape}
use Rattle.rd_order.proofs.OrderLemmas.{at_front}
use Rattle.rd_replay.specs.Replays.{Recorded, all_shipped, calls_on, difference, end_by_difference, first_difference, held_shape, is_on, object_machine, replay_end, result_of, shape_after, shape_by, step_at, with_line, step_difference}

-- ---- one call more

-- the shape behind a call
abbrev pub shape_then : Machine → Shape → Recorded → Option Shape
shape_then machine shape recorded = shape_after (step_at machine shape recorded.1) (result_of recorded.1.slots)

same_option : {X : Type 0} (o : Option X) → option_and_then Some o ≡ o
same_option None = refl
same_option (Some x) = refl

then_more : {X : Type 0} (f g h : X → Option X) → ((x : X) → f x ≡ option_and_then h (g x)) → (o : Option X) → option_and_then f o ≡ option_and_then h (option_and_then g o)
then_more f g h same None = refl
then_more f g h same (Some x) = same x

shape_more : (machine : Machine) (shape : Shape) (calls : List Recorded) (last : Recorded)
    → shape_by machine shape (calls ++ last ∷ []) ≡ option_and_then (λ next. shape_then machine next last) (shape_by machine shape calls)
shape_more machine shape [] last = same_option (shape_then machine shape last)
shape_more machine shape (recorded ∷ calls) last =
    then_more (λ next. shape_by machine next (calls ++ last ∷ [])) (λ next. shape_by machine next calls) (λ next. shape_then machine next last)
    (λ next. shape_more machine next calls last) (shape_then machine shape recorded)

-- the shape behind more calls
shape_append : (machine : Machine) (shape : Shape) (calls more : List Recorded)
    → shape_by machine shape (calls ++ more) ≡ option_and_then (λ next. shape_by machine next more) (shape_by machine shape calls)
shape_append machine shape [] more = refl
shape_append machine shape (recorded ∷ calls) more =
    then_more (λ next. shape_by machine next (calls ++ more)) (λ next. shape_by machine next calls) (λ next. shape_by machine next more)
    (λ next. shape_append machine next calls more) (shape_then machine shape recorded)

-- the calls on an object, where the last is on it, and where it isn't
calls_here : (object : ℕ) (calls : List Recorded) (last : Recorded) → last.1.object ≡ object → calls_on object (calls ++ last ∷ []) ≡ calls_on object calls ++ last ∷ []
calls_here object calls last here =
    filter-append (is_on object) calls (last ∷ []) ∙ ap (λ b. filter (is_on object) calls ++ cond b (last ∷ []) []) (eq-eqb last.1.object object here)

calls_elsewhere : (object : ℕ) (calls : List Recorded) (last : Recorded) → last.1.object ≢ object → calls_on object (calls ++ last ∷ []) ≡ calls_on object calls
calls_elsewhere object calls last other =
    filter-append (is_on object) calls (last ∷ [])
    ∙ (ap (λ b. filter (is_on object) calls ++ cond b (last ∷ []) []) (ne_eqb last.1.object object other) ∙ append-nil (filter (is_on object) calls))

-- what an object holds behind a call on another
pub held_elsewhere : (kinds : List ℕ) (calls : List Recorded) (last : Recorded) (object : ℕ) → last.1.object ≢ object → held_shape kinds (calls ++ last ∷ []) object ≡ held_shape kinds calls object
held_elsewhere kinds calls last object other =
    ap (λ own. option_and_then (λ machine. shape_by machine machine.first own) (object_machine kinds object)) (calls_elsewhere object calls last other)

-- and behind a call on it
pub held_here : (kinds : List ℕ) (calls : List Recorded) (last : Recorded) (machine : Machine) (shape : Shape) → object_machine kinds last.1.object ≡ Some machine
    → held_shape kinds calls last.1.object ≡ Some shape → held_shape kinds (calls ++ last ∷ []) last.1.object ≡ shape_then machine shape last
held_here kinds calls last machine shape is holds =
    let before : shape_by machine machine.first (calls_on last.1.object calls) ≡ Some shape =
    ap (option_and_then (λ m. shape_by m m.first (calls_on last.1.object calls))) (sym is) ∙ holds in
    ap (option_and_then (λ m. shape_by m m.first (calls_on last.1.object (calls ++ last ∷ [])))) is
    ∙ (ap (shape_by machine machine.first) (calls_here last.1.object calls last refl)
    ∙ (shape_more machine machine.first (calls_on last.1.object calls) last ∙ ap (option_and_then (λ next. shape_then machine next last)) before))

-- an object that holds nothing holds nothing behind more calls
pub nothing_more : (kinds : List ℕ) (calls more : List Recorded) (object : ℕ) → held_shape kinds calls object ≡ None → held_shape kinds (calls ++ more) object ≡ None
nothing_more kinds calls more object nothing =
    ap (λ own. option_and_then (λ machine. shape_by machine machine.first own) (object_machine kinds object)) (filter-append (is_on object) calls more)
    ∙ by (object_machine kinds object) nothing
  where
    by : (o : Option Machine) → option_and_then (λ machine. shape_by machine machine.first (calls_on object calls)) o ≡ None
        → option_and_then (λ machine. shape_by machine machine.first (calls_on object calls ++ calls_on object more)) o ≡ None
    by None e = refl
    by (Some machine) e =
        shape_append machine machine.first (calls_on object calls) (calls_on object more)
        ∙ ap (option_and_then (λ next. shape_by machine next (calls_on object more))) e

-- what a machine gives at a call in place of what was recorded
pub difference_here : (kinds : List ℕ) (calls : List Recorded) (call : Call) (machine : Machine) (shape : Shape) → object_machine kinds call.object ≡ Some machine
    → held_shape kinds calls call.object ≡ Some shape → difference kinds calls call ≡ step_difference (step_at machine shape call) (result_of call.slots)
difference_here kinds calls call machine shape is holds =
    ap (option_and_then (λ m. option_and_then (λ s. step_difference (step_at m s call) (result_of call.slots)) (held_shape kinds calls call.object))) is
    ∙ ap (option_and_then (λ s. step_difference (step_at machine s call) (result_of call.slots))) holds

or_assoc : {X : Type 0} (a b c : Option X) → option_or a (option_or b c) ≡ option_or (option_or a b) c
or_assoc None b c = refl
or_assoc (Some x) b c = refl

or_none : {X : Type 0} (o : Option X) → option_or o None ≡ o
or_none None = refl
or_none (Some x) = refl

-- the first that differs, with one call more
difference_more : (kinds : List ℕ) (before calls : List Recorded) (last : Recorded)
    → first_difference kinds before (calls ++ last ∷ []) ≡ option_or (first_difference kinds before calls) (with_line last.0 (difference kinds (before ++ calls) last.1))
difference_more kinds before [] last =
    or_none (with_line last.0 (difference kinds before last.1)) ∙ ap (λ all. with_line last.0 (difference kinds all last.1)) (sym (append-nil before))
difference_more kinds before (recorded ∷ calls) last =
    let first = with_line recorded.0 (difference kinds before recorded.1) in
    ap (option_or first) (difference_more kinds (before ++ recorded ∷ []) calls last
    ∙ ap (λ all. option_or (first_difference kinds (before ++ recorded ∷ []) calls) (with_line last.0 (difference kinds all last.1))) (append_assoc before (recorded ∷ []) calls))
    ∙ or_assoc first (first_difference kinds (before ++ recorded ∷ []) calls) (with_line last.0 (difference kinds (before ++ recorded ∷ calls) last.1))

-- ---- how a replay ends

-- each call gave what was recorded
pub record IsExact (kinds : List ℕ) (calls : List Recorded) : Type 0 where
  pub shipped : all_shipped kinds ≡ true
  pub none : first_difference kinds [] calls ≡ None

pub exact_parts : (kinds : List ℕ) (calls : List Recorded) → replay_end kinds calls ≡ Exact → IsExact kinds calls
unfolding replay_end
exact_parts kinds calls exact = by (all_shipped kinds) refl (first_difference kinds [] calls) refl
  where
    by : (b : Bool) → all_shipped kinds ≡ b → (o : Option (ℕ × Expected)) → first_difference kinds [] calls ≡ o → IsExact kinds calls
    by true shipped None none = record { shipped = shipped; none = none }
    by true shipped (Some first) some = absurd (apart (sym (ap2 shipped some) ∙ exact))
      where
        ap2 : all_shipped kinds ≡ true → first_difference kinds [] calls ≡ Some first
            → cond (all_shipped kinds) (end_by_difference (first_difference kinds [] calls)) NotShipped ≡ Differs first.0 first.1
        ap2 e f = ap (λ b. cond b (end_by_difference (first_difference kinds [] calls)) NotShipped) e ∙ ap end_by_difference f

        apart : Differs first.0 first.1 ≡ Exact → ⊥
        apart e = cc
    by false shipped o is = absurd (apart (sym (ap (λ b. cond b (end_by_difference (first_difference kinds [] calls)) NotShipped) shipped) ∙ exact))
      where
        apart : NotShipped ≡ Exact → ⊥
        apart e = cc

pub end_of : (kinds : List ℕ) (calls : List Recorded) (o : Option (ℕ × Expected)) → all_shipped kinds ≡ true → first_difference kinds [] calls ≡ o → replay_end kinds calls ≡ end_by_difference o
unfolding replay_end
end_of kinds calls o shipped is = ap (λ b. cond b (end_by_difference (first_difference kinds [] calls)) NotShipped) shipped ∙ ap end_by_difference is

-- one call more that gives what was recorded, and one that doesn't
pub end_same : (kinds : List ℕ) (calls : List Recorded) (last : Recorded) → replay_end kinds calls ≡ Exact → difference kinds calls last.1 ≡ None
    → replay_end kinds (calls ++ last ∷ []) ≡ Exact
end_same kinds calls last exact same =
    let was = exact_parts kinds calls exact in
    end_of kinds (calls ++ last ∷ []) None was.shipped
    (difference_more kinds [] calls last ∙ (ap (λ o. option_or o (with_line last.0 (difference kinds calls last.1))) was.none ∙ ap (with_line last.0) same))

pub end_differs : (kinds : List ℕ) (calls : List Recorded) (last : Recorded) (expected : Expected) → replay_end kinds calls ≡ Exact
    → difference kinds calls last.1 ≡ Some expected → replay_end kinds (calls ++ last ∷ []) ≡ Differs last.0 expected
end_differs kinds calls last expected exact other =
    let was = exact_parts kinds calls exact in
    end_of kinds (calls ++ last ∷ []) (Some (last.0, expected)) was.shipped
    (difference_more kinds [] calls last ∙ (ap (λ o. option_or o (with_line last.0 (difference kinds calls last.1))) was.none ∙ ap (with_line last.0) other))

-- one call more behind one that differs, or where a kind isn't built in
pub end_stopped : (kinds : List ℕ) (calls : List Recorded) (last : Recorded) (line : ℕ) (expected : Expected) → replay_end kinds calls ≡ Differs line expected
    → replay_end kinds (calls ++ last ∷ []) ≡ Differs line expected
unfolding replay_end
end_stopped kinds calls last line expected differs =
    ap (λ o. cond (all_shipped kinds) (end_by_difference o) NotShipped) (difference_more kinds [] calls last) ∙ by (all_shipped kinds) (first_difference kinds [] calls) differs
  where
    by : (b : Bool) (o : Option (ℕ × Expected)) → cond b (end_by_difference o) NotShipped ≡ Differs line expected
        → cond b (end_by_difference (option_or o (with_line last.0 (difference kinds calls last.1)))) NotShipped ≡ Differs line expected
    by true None e = cc
    by true (Some first) e = e
    by false o e = e

pub end_foreign : (kinds : List ℕ) (calls more : List Recorded) → replay_end kinds calls ≡ NotShipped → replay_end kinds (calls ++ more) ≡ NotShipped
unfolding replay_end
end_foreign kinds calls more foreign = by (all_shipped kinds) (first_difference kinds [] calls) (first_difference kinds [] (calls ++ more)) foreign
  where
    by : (b : Bool) (o p : Option (ℕ × Expected)) → cond b (end_by_difference o) NotShipped ≡ NotShipped → cond b (end_by_difference p) NotShipped ≡ NotShipped
    by true None p e = cc
    by true (Some first) p e = cc
    by false o p e = refl

-- ---- one object more

-- each call is on an object that was declared
abbrev pub AreDeclared : List ℕ → List Recorded → Type 0
AreDeclared kinds calls = All (λ (recorded : Recorded). recorded.1.object < length kinds) calls

machine_longer : (kinds more : List ℕ) (object : ℕ) → object < length kinds → object_machine (kinds ++ more) object ≡ object_machine kinds object
machine_longer kinds more object inside = ap (option_and_then machine_of) (at_front kinds more object inside)

pub held_longer : (kinds more : List ℕ) (calls : List Recorded) (object : ℕ) → object < length kinds → held_shape (kinds ++ more) calls object ≡ held_shape kinds calls object
held_longer kinds more calls object inside =
    ap (option_and_then (λ machine. shape_by machine machine.first (calls_on object calls))) (machine_longer kinds more object inside)

difference_longer : (kinds more : List ℕ) (before : List Recorded) (call : Call) → call.object < length kinds
    → difference (kinds ++ more) before call ≡ difference kinds before call
difference_longer kinds more before call inside =
    (λ i. option_and_then (λ machine. option_and_then (λ shape. step_difference (step_at machine shape call) (result_of call.slots))
    (held_longer kinds more before call.object inside i)) (machine_longer kinds more call.object inside i))

first_longer : (kinds more : List ℕ) (before calls : List Recorded) → AreDeclared kinds calls
    → first_difference (kinds ++ more) before calls ≡ first_difference kinds before calls
first_longer kinds more before [] all = refl
first_longer kinds more before (recorded ∷ calls) all =
    (λ i. option_or (with_line recorded.0 (difference_longer kinds more before recorded.1 (All-head (λ (r : Recorded). r.1.object < length kinds) recorded calls all) i))
    (first_longer kinds more (before ++ recorded ∷ []) calls (All-tail (λ (r : Recorded). r.1.object < length kinds) recorded calls all) i))

-- an object more whose kind is built in
pub end_longer : (kinds : List ℕ) (kind : ℕ) (calls : List Recorded) → AreDeclared kinds calls → kind < length shipped_machines
    → replay_end (kinds ++ kind ∷ []) calls ≡ replay_end kinds calls
unfolding replay_end
end_longer kinds kind calls all known =
    (λ i. cond (shipped i) (end_by_difference (first_longer kinds (kind ∷ []) [] calls all i)) NotShipped)
  where
    shipped : all_shipped (kinds ++ kind ∷ []) ≡ all_shipped kinds
    shipped = list_all-append (λ k. ltb k (length shipped_machines)) kinds (kind ∷ [])
        ∙ (ap (λ b. all_shipped kinds && (b && true)) (lt-ltb kind (length shipped_machines) known) ∙ and_true (all_shipped kinds))
      where
        and_true : (b : Bool) → (b && (true && true)) ≡ b
        and_true true = refl
        and_true false = refl

-- and one whose kind isn't
pub end_unknown : (kinds : List ℕ) (kind : ℕ) (calls : List Recorded) → length shipped_machines ≤ kind → replay_end (kinds ++ kind ∷ []) calls ≡ NotShipped
unfolding replay_end
end_unknown kinds kind calls past = ap (λ b. cond b (end_by_difference (first_difference (kinds ++ kind ∷ []) [] calls)) NotShipped)
    (list_all-append (λ k. ltb k (length shipped_machines)) kinds (kind ∷ [])
    ∙ (ap (λ b. all_shipped kinds && (b && true)) (le-ltb kind (length shipped_machines) past) ∙ and_false (all_shipped kinds)))
  where
    and_false : (b : Bool) → (b && (false && true)) ≡ false
    and_false true = refl
    and_false false = refl

-- an object that was declared just now holds the first shape of its machine
pub held_new : (kinds : List ℕ) (kind : ℕ) (calls : List Recorded) (machine : Machine) → AreDeclared kinds calls → machine_of kind ≡ Some machine
    → slice_get (kinds ++ kind ∷ []) (length kinds) ≡ Some kind → held_shape (kinds ++ kind ∷ []) calls (length kinds) ≡ Some machine.first
held_new kinds kind calls machine all is at =
    ap (λ own. option_and_then (λ m. shape_by m m.first own) (object_machine (kinds ++ kind ∷ []) (length kinds))) (none_on (length kinds) calls all refl)
    ∙ ap (option_and_then (λ m. Some m.first)) (ap (option_and_then machine_of) at ∙ is)
  where
    none_on : (object : ℕ) (calls : List Recorded) → AreDeclared kinds calls → object ≡ length kinds → calls_on object calls ≡ []
    none_on object [] all same = refl
    none_on object (recorded ∷ calls) all same =
        ap (λ b. cond b (recorded ∷ calls_on object calls) (calls_on object calls))
        (ne_eqb recorded.1.object object (λ e. let inside = All-head (λ (r : Recorded). r.1.object < length kinds) recorded calls all in absurd (omega arith)))
        ∙ none_on object calls (All-tail (λ (r : Recorded). r.1.object < length kinds) recorded calls all) same
