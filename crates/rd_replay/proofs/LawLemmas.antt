-- What the end of a replay says of each object.
use Rattle.std.proofs.Common.{◌≡◌, ◌↔◌, inl, inr, ℕ, zero, suc, ◌<◌, Bool, true, false, cond, ltb, List, [], ◌∷◌, ◌++◌, length, get_or, Option, Some, None, refl, sym, ap, ◌∙◌, subst, arith}
use Rattle.std.specs.Option.{option_and_then, option_or}
use Rattle.std.proofs.lemmas.Bool.{and_parts, cases_eq, ltb-true}
use Rattle.std.proofs.lemmas.List.{append_assoc, append-nil}
use Rattle.std.proofs.lemmas.List.Elements.{All-head, All-tail}
use Rattle.std.proofs.lemmas.Option.{none-some, same_Some, slice_get-get_or}
use Rattle.rd_base.specs.declared.values.Value.{Value as Result}
use Rattle.rd_ecl.specs.Formulas.{same_value}
use Rattle.rd_kinds.specs.Machines.{machine_of, register_machine, shipped_machines}
use Rattle.rd_object.specs.Machines.{Machine, Step}
use Rattle.rd_object.specs.Machines.Step.{goes, refuses, unknown}
use Rattle.rd_object.specs.declared.shapes.Expected.{Expected}
use Rattle.rd_object.specs.declared.shapes.Expected.TheVariants.{Value}
use Rattle.rd_object.specs.declared.shapes.ReplayEnd.TheVariants.{Exact, Differs, NotShipped}
use Rattle.rd_object.specs.declared.shapes.Shape.{Shape}
use Rattle.rd_replay.specs.Replays.{FirstDiffers, Recorded, ReplaysAll, all_shipped, difference, end_by_difference, first_difference, held_shape, object_machine, replay_end, result_of, shape_after, step_at, with_line, step_difference}
use Rattle.rd_replay.proofs.ReplayLemmas.{AreDeclared, difference_here, end_of, exact_parts, held_elsewhere, held_here, nothing_more}

-- ---- one call

-- a step gives what was recorded exactly where there is a shape behind it
same_or_not : (step : Step) (recorded : Option Result) → step_difference step recorded ≡ None → (shape : Shape) × (shape_after step recorded ≡ Some shape)
same_or_not (goes shape result) (Some recorded) same = by (same_value result recorded) same
  where
    by : (b : Bool) → cond b None (Some (Value result)) ≡ None → (next : Shape) × (cond b (Some shape) None ≡ Some next)
    by true e = (shape, refl)
    by false e = absurd (none-some (Value result) (sym e))
same_or_not (goes shape result) None same = absurd (none-some _ (sym same))
same_or_not (refuses slot) recorded same = absurd (none-some _ (sym same))
same_or_not unknown recorded same = absurd (none-some _ (sym same))

none_behind : (step : Step) (recorded : Option Result) (expected : Expected) → step_difference step recorded ≡ Some expected → shape_after step recorded ≡ None
none_behind (goes shape result) (Some recorded) expected other = by (same_value result recorded) other
  where
    by : (b : Bool) → cond b None (Some (Value result)) ≡ Some expected → cond b (Some shape) None ≡ None
    by true e = absurd (none-some expected e)
    by false e = refl
none_behind (goes shape result) None expected other = refl
none_behind (refuses slot) recorded expected other = refl
none_behind unknown recorded expected other = refl

-- ---- objects

-- a kind that is built in has a machine
some_machine : (kind : ℕ) → kind < length shipped_machines → (machine : Machine) × (machine_of kind ≡ Some machine)
some_machine kind below = (get_or shipped_machines kind register_machine, slice_get-get_or shipped_machines kind register_machine below)

machine_at : (kinds : List ℕ) (object : ℕ) → all_shipped kinds ≡ true → object < length kinds → (machine : Machine) × (object_machine kinds object ≡ Some machine)
machine_at [] object shipped inside = absurd (omega arith)
machine_at (kind ∷ kinds) zero shipped inside =
    some_machine kind (ltb-true kind (length shipped_machines) (and_parts (ltb kind (length shipped_machines)) (all_shipped kinds) shipped).0)
machine_at (kind ∷ kinds) (suc object) shipped inside =
    machine_at kinds object (and_parts (ltb kind (length shipped_machines)) (all_shipped kinds) shipped).1 (omega arith)

module _ (kinds : List ℕ) (shipped : all_shipped kinds ≡ true) where
  -- each object holds something behind these calls
  abbrev Holds : List Recorded → Type 0
  Holds calls = (object : ℕ) → object < length kinds → (shape : Shape) × (held_shape kinds calls object ≡ Some shape)

  holds_first : Holds []
  holds_first object inside =
      let (machine, is) = machine_at kinds object shipped inside in
      (machine.first, ap (option_and_then (λ m. Some m.first)) is)

  -- and behind one that gives what was recorded
  holds_more : (calls : List Recorded) (last : Recorded) → Holds calls → last.1.object < length kinds → difference kinds calls last.1 ≡ None → Holds (calls ++ last ∷ [])
  holds_more calls last holds declared same object inside =
      elim (cases_eq last.1.object object) [
        | inl here ↦ subst (λ o. (shape : Shape) × (held_shape kinds (calls ++ last ∷ []) o ≡ Some shape)) here holds_here
        | inr other ↦ (let (shape, is) = holds object inside in (shape, held_elsewhere kinds calls last object other ∙ is))
      ]
    where
      holds_here : (shape : Shape) × (held_shape kinds (calls ++ last ∷ []) last.1.object ≡ Some shape)
      holds_here =
          let (shape, is) = holds last.1.object declared in
          let (machine, has) = machine_at kinds last.1.object shipped declared in
          let (next, is_next) = same_or_not (step_at machine shape last.1) (result_of last.1.slots) (sym (difference_here kinds calls last.1 machine shape has is) ∙ same) in
          (next, held_here kinds calls last machine shape has is ∙ is_next)

  -- where no call differs, each object holds something in the end
  holds_all : (before calls : List Recorded) → Holds before → AreDeclared kinds calls → first_difference kinds before calls ≡ None → Holds (before ++ calls)
  holds_all before [] holds all none = subst Holds (sym (append-nil before)) holds
  holds_all before (recorded ∷ calls) holds all none =
      let split = neither (difference kinds before recorded.1) (first_difference kinds (before ++ recorded ∷ []) calls) none in
      subst Holds (append_assoc before (recorded ∷ []) calls)
      (holds_all (before ++ recorded ∷ []) calls
      (holds_more before recorded holds (All-head (λ (r : Recorded). r.1.object < length kinds) recorded calls all) split.0)
      (All-tail (λ (r : Recorded). r.1.object < length kinds) recorded calls all) split.1)
    where
      neither : (o : Option Expected) (p : Option (ℕ × Expected)) → option_or (with_line recorded.0 o) p ≡ None → (o ≡ None) × (p ≡ None)
      neither None p e = (refl, e)
      neither (Some expected) p e = absurd (none-some _ (sym e))

  -- behind one that gives something else its object holds nothing
  holds_nothing : (calls : List Recorded) (last : Recorded) (expected : Expected) → Holds calls → last.1.object < length kinds
      → difference kinds calls last.1 ≡ Some expected → held_shape kinds (calls ++ last ∷ []) last.1.object ≡ None
  holds_nothing calls last expected holds declared other =
      let (shape, is) = holds last.1.object declared in
      let (machine, has) = machine_at kinds last.1.object shipped declared in
      held_here kinds calls last machine shape has is
      ∙ none_behind (step_at machine shape last.1) (result_of last.1.slots) expected (sym (difference_here kinds calls last.1 machine shape has is) ∙ other)

  -- where each object holds something in the end, no call differs
  none_differs : (before calls : List Recorded) → Holds before → AreDeclared kinds calls → Holds (before ++ calls) → first_difference kinds before calls ≡ None
  none_differs before [] holds all ends = refl
  none_differs before (recorded ∷ calls) holds all ends =
      by (difference kinds before recorded.1) refl
      (λ is. none_differs (before ++ recorded ∷ []) calls (holds_more before recorded holds here is)
      (All-tail (λ (r : Recorded). r.1.object < length kinds) recorded calls all)
      (subst Holds (sym (append_assoc before (recorded ∷ []) calls)) ends))
    where
      here : recorded.1.object < length kinds
      here = All-head (λ (r : Recorded). r.1.object < length kinds) recorded calls all

      by : (o : Option Expected) → difference kinds before recorded.1 ≡ o
          → (difference kinds before recorded.1 ≡ None → first_difference kinds (before ++ recorded ∷ []) calls ≡ None)
          → first_difference kinds before (recorded ∷ calls) ≡ None
      by (Some expected) is later =
          let (shape, some) = ends recorded.1.object here in
          let nothing = nothing_more kinds (before ++ recorded ∷ []) calls recorded.1.object (holds_nothing before recorded expected holds here is) in
          absurd (none-some shape (sym nothing ∙ (ap (λ all. held_shape kinds all recorded.1.object) (append_assoc before (recorded ∷ []) calls) ∙ some)))
      by None is later = ap (λ o. option_or (with_line recorded.0 o) (first_difference kinds (before ++ recorded ∷ []) calls)) is ∙ later is

  -- where one does, the first that does is behind calls that don't
  differs_first : (before calls : List Recorded) (first : ℕ × Expected) → Holds before → AreDeclared kinds calls → first_difference kinds before calls ≡ Some first
      → FirstDiffers kinds before calls first.0 first.1
  differs_first before [] first holds all some = absurd (none-some first some)
  differs_first before (recorded ∷ calls) first holds all some =
      by (difference kinds before recorded.1) refl
      (λ is. differs_first (before ++ recorded ∷ []) calls first
      (holds_more before recorded holds (All-head (λ (r : Recorded). r.1.object < length kinds) recorded calls all) is)
      (All-tail (λ (r : Recorded). r.1.object < length kinds) recorded calls all)
      (sym (ap (λ o. option_or (with_line recorded.0 o) (first_difference kinds (before ++ recorded ∷ []) calls)) is) ∙ some))
    where
      by : (o : Option Expected) → difference kinds before recorded.1 ≡ o
          → (difference kinds before recorded.1 ≡ None → FirstDiffers kinds (before ++ recorded ∷ []) calls first.0 first.1)
          → FirstDiffers kinds before (recorded ∷ calls) first.0 first.1
      by (Some expected) is later =
          let same : (recorded.0, expected) ≡ first = same_Some (recorded.0, expected) first (sym (ap (λ o. option_or (with_line recorded.0 o) (first_difference kinds (before ++ recorded ∷ []) calls)) is) ∙ some) in
          inl (ap (λ f. f.0) same, is ∙ ap (λ f. Some f.1) same)
      by None is later = inr (is, later is)

-- the first that differs is found
first_found : (kinds : List ℕ) (before calls : List Recorded) (line : ℕ) (expected : Expected) → FirstDiffers kinds before calls line expected
    → first_difference kinds before calls ≡ Some (line, expected)
first_found kinds before [] line expected none = absurd none
first_found kinds before (recorded ∷ calls) line expected (inl (same, is)) =
    ap (λ o. option_or (with_line recorded.0 o) (first_difference kinds (before ++ recorded ∷ []) calls)) is ∙ ap (λ l. Some (l, expected)) same
first_found kinds before (recorded ∷ calls) line expected (inr (is, later)) =
    ap (λ o. option_or (with_line recorded.0 o) (first_difference kinds (before ++ recorded ∷ []) calls)) is
    ∙ first_found kinds (before ++ recorded ∷ []) calls line expected later

-- ---- the end

pub exact_where : (kinds : List ℕ) (calls : List Recorded) → AreDeclared kinds calls → (replay_end kinds calls ≡ Exact) ↔ ReplaysAll kinds calls
exact_where kinds calls all = (
  λ exact. let was = exact_parts kinds calls exact in (was.shipped, holds_all kinds was.shipped [] calls (holds_first kinds was.shipped) all was.none),
  λ replays. end_of kinds calls None replays.0 (none_differs kinds replays.0 [] calls (holds_first kinds replays.0) all replays.1),
)

differs_holds : (kinds : List ℕ) (calls : List Recorded) (line : ℕ) (expected : Expected) → AreDeclared kinds calls → replay_end kinds calls ≡ Differs line expected
    → (all_shipped kinds ≡ true) × FirstDiffers kinds [] calls line expected
unfolding replay_end
differs_holds kinds calls line expected all differs = by (all_shipped kinds) refl (first_difference kinds [] calls) refl differs
  where
    by : (b : Bool) → all_shipped kinds ≡ b → (o : Option (ℕ × Expected)) → first_difference kinds [] calls ≡ o → cond b (end_by_difference o) NotShipped ≡ Differs line expected
        → (all_shipped kinds ≡ true) × FirstDiffers kinds [] calls line expected
    by true shipped None none e = cc
    by true shipped (Some first) some e =
        let same_line : first.0 ≡ line = line_of first.0 line first.1 expected e in
        let same_value : first.1 ≡ expected = value_of first.0 line first.1 expected e in
        (shipped, subst (λ (T : Type 0). T) (λ i. FirstDiffers kinds [] calls (same_line i) (same_value i)) (differs_first kinds shipped [] calls first (holds_first kinds shipped) all some))
      where
        line_of : (a b : ℕ) (x y : Expected) → Differs a x ≡ Differs b y → a ≡ b
        line_of a b x y same = cc

        value_of : (a b : ℕ) (x y : Expected) → Differs a x ≡ Differs b y → x ≡ y
        value_of a b x y same = cc
    by false shipped o is e = cc

pub differs_where : (kinds : List ℕ) (calls : List Recorded) (line : ℕ) (expected : Expected) → AreDeclared kinds calls
    → (replay_end kinds calls ≡ Differs line expected) ↔ ((all_shipped kinds ≡ true) × FirstDiffers kinds [] calls line expected)
differs_where kinds calls line expected all = (
  differs_holds kinds calls line expected all,
  λ differs. end_of kinds calls (Some (line, expected)) differs.0 (first_found kinds [] calls line expected differs.1),
)

pub not_shipped_where : (kinds : List ℕ) (calls : List Recorded) → (replay_end kinds calls ≡ NotShipped) ↔ (all_shipped kinds ≡ false)
unfolding replay_end
not_shipped_where kinds calls = (λ e. to (all_shipped kinds) (first_difference kinds [] calls) e, λ e. ap (λ b. cond b (end_by_difference (first_difference kinds [] calls)) NotShipped) e)
  where
    to : (b : Bool) (o : Option (ℕ × Expected)) → cond b (end_by_difference o) NotShipped ≡ NotShipped → b ≡ false
    to true None e = cc
    to true (Some first) e = cc
    to false o e = refl
