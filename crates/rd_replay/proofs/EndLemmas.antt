-- What objects hold in the end doesn't hang on the numbers of lines, and each has a shape where all calls give what was recorded.
use Rattle.std.proofs.Common.{◌≡◌, ℕ, zero, suc, ◌+◌, ◌<◌, Bool, true, false, cond, List, [], ◌∷◌, length, map, slice_get, Option, Some, None, refl, sym, ap, ◌∙◌, arith}
use Rattle.std.specs.Prelude.{unwrap_or}
use Rattle.std.specs.List.{range_with_len}
use Rattle.std.specs.Option.{option_and_then}
use Rattle.std.proofs.lemmas.List.FromFn.{length-map-range_with_len}
use Rattle.rd_base.specs.declared.values.Value.TheVariants.{Nil}
use Rattle.rd_object.specs.Machines.{Machine}
use Rattle.rd_object.specs.declared.shapes.Shape.{Shape}
use Rattle.rd_object.specs.declared.shapes.Shape.TheVariants.{One}
use Rattle.rd_replay.specs.EndShapes.{AreEndShapes, calls_of, end_shape, held_in_the_end, without_lines}
use Rattle.rd_replay.specs.Replays.{Recorded, ReplaysAll, calls_on, held_shape, is_on, object_machine, result_of, shape_after, shape_by, step_at}

shape_without : (machine : Machine) (shape : Shape) (calls : List Recorded) → shape_by machine shape calls ≡ end_shape machine shape (without_lines calls)
shape_without machine shape [] = refl
shape_without machine shape (recorded ∷ calls) = go (shape_after (step_at machine shape recorded.1) (result_of recorded.1.slots)) (λ s. shape_without machine s calls)
  where
    go : (o : Option Shape) → ((s : Shape) → shape_by machine s calls ≡ end_shape machine s (without_lines calls))
        → option_and_then (λ next. shape_by machine next calls) o ≡ option_and_then (λ next. end_shape machine next (without_lines calls)) o
    go None same = refl
    go (Some s) same = same s

calls_without : (object : ℕ) (calls : List Recorded) → calls_of object (without_lines calls) ≡ without_lines (calls_on object calls)
calls_without object [] = refl
calls_without object (recorded ∷ calls) = go (is_on object recorded) (calls_without object calls)
  where
    go : (b : Bool) → calls_of object (without_lines calls) ≡ without_lines (calls_on object calls)
        → cond b (recorded.1 ∷ calls_of object (without_lines calls)) (calls_of object (without_lines calls)) ≡ without_lines (cond b (recorded ∷ calls_on object calls) (calls_on object calls))
    go true same = ap (λ l. recorded.1 ∷ l) same
    go false same = same

pub held_without : (kinds : List ℕ) (calls : List Recorded) (object : ℕ) → held_shape kinds calls object ≡ held_in_the_end kinds (without_lines calls) object
held_without kinds calls object = go (object_machine kinds object)
  where
    go : (o : Option Machine) → option_and_then (λ machine. shape_by machine machine.first (calls_on object calls)) o
        ≡ option_and_then (λ machine. end_shape machine machine.first (calls_of object (without_lines calls))) o
    go None = refl
    go (Some machine) = shape_without machine machine.first (calls_on object calls) ∙ ap (end_shape machine machine.first) (sym (calls_without object calls))

got : (f : ℕ → Shape) (a n i : ℕ) → i < n → slice_get (map f (range_with_len a n)) i ≡ Some (f (a + i))
got f a zero i below = absurd (omega (arith, below))
got f a (suc n) zero below = ap (λ m. Some (f m)) (let e : a ≡ a + 0 = omega arith in e)
got f a (suc n) (suc i) below = got f (a + 1) n i (omega (arith, below)) ∙ ap (λ m. Some (f m)) (let e : a + 1 + i ≡ a + suc i = omega arith in e)

module _ (kinds : List ℕ) (calls : List Recorded) (all : ReplaysAll kinds calls) where
  -- what an object holds; that of no object is never asked
  abbrev shape_at : ℕ → Shape
  shape_at object = unwrap_or (held_shape kinds calls object) (One Nil)

  abbrev shapes : List Shape
  shapes = map shape_at (range_with_len 0 (length kinds))

  each : (object : ℕ) → object < length kinds → held_in_the_end kinds (without_lines calls) object ≡ slice_get shapes object
  each object inside =
      let (shape, is) = all.1 object inside in
      sym (held_without kinds calls object) ∙ (is ∙ (ap (λ o. Some (unwrap_or o (One Nil))) (sym is)
      ∙ (ap (λ n. Some (shape_at n)) (let e : object ≡ 0 + object = omega arith in e) ∙ sym (got shape_at 0 (length kinds) object inside))))

  pub end_shapes : (shapes : List Shape) × AreEndShapes kinds (without_lines calls) shapes
  end_shapes = (shapes, record { count = length-map-range_with_len shape_at 0 (length kinds); each = each })
