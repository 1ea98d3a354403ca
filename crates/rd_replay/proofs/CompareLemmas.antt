-- What a call that was run gives, beside what was recorded.
use Rattle.std.proofs.Common.{◌≡◌, ℕ, suc, ◌+◌, Bool, true, false, List, [], ◌∷◌, ◌++◌, length, Some, None, refl, sym, ap, ◌∙◌, arith}
use Rattle.std.specs.Prelude.{◌-◌, take, slice_get, if◌then◌else◌}
use Rattle.rd_base.specs.declared.values.Value.{Value}
use Rattle.rd_ecl.specs.Formulas.{same_value}
use Rattle.rd_event.specs.declared.events.Call.{Call}
use Rattle.rd_object.specs.Machines.{Machine, Step}
use Rattle.rd_object.specs.Machines.Step.{goes}
use Rattle.rd_object.specs.declared.shapes.Shape.{Shape}
use Rattle.rd_object.specs.declared.shapes.Expected.TheVariants as expected
use Rattle.rd_order.proofs.OrderLemmas.{at_end}
use Rattle.rd_replay.specs.Replays.{arguments_of, result_of, shape_after, step_at, step_difference}

take_front : {X : Type 0} (xs : List X) (y : X) → take (length xs) (xs ++ y ∷ []) ≡ xs
take_front [] y = refl
take_front (x ∷ xs) y = ap (λ t. x ∷ t) (take_front xs y)

module _ (machine : Machine) (shape next : Shape) (call : Call) (arguments : List Value) (given recorded : Value)
    (whole : call.slots ≡ arguments ++ recorded ∷ []) (count : length arguments + 1 ≡ length call.slots)
    (runs : machine.step call.method arguments shape ≡ goes next given) where
  less : length call.slots - 1 ≡ length arguments
  less = omega (arith, count)

  rest : arguments_of call.slots ≡ arguments
  rest = (λ i. take (less i) (whole i)) ∙ take_front arguments recorded

  last : result_of call.slots ≡ Some recorded
  last = (λ i. slice_get (whole i) (less i)) ∙ at_end arguments recorded

  ran : step_at machine shape call ≡ goes next given
  ran = ap (λ a. machine.step call.method a shape) rest ∙ runs

  pub gives_same : same_value given recorded ≡ true → None ≡ step_difference (step_at machine shape call) (result_of call.slots)
  gives_same same = sym ((λ i. step_difference (ran i) (last i)) ∙ ap (λ b. if b then None else Some (expected.Value given)) same)

  pub stays_same : same_value given recorded ≡ true → shape_after (step_at machine shape call) (result_of call.slots) ≡ Some next
  stays_same same = (λ i. shape_after (ran i) (last i)) ∙ ap (λ b. if b then Some next else None) same

  pub gives_other : same_value given recorded ≡ false → Some (expected.Value given) ≡ step_difference (step_at machine shape call) (result_of call.slots)
  gives_other other = sym ((λ i. step_difference (ran i) (last i)) ∙ ap (λ b. if b then None else Some (expected.Value given)) other)
