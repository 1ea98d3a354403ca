-- A call of a generated trace gives in the replay what was recorded.
use Rattle.std.proofs.Common.{◌≡◌, ℕ, zero, suc, ◌<◌, cond, List, [], ◌∷◌, ◌++◌, Some, None, refl, sym, ap, ◌∙◌, arith}
use Rattle.std.specs.Prelude.{codes, length, pos}
use Rattle.rd_base.specs.declared.values.Value.{Value as Result}
use Rattle.rd_base.specs.declared.values.Value.TheVariants.{Int}
use Rattle.rd_ecl.proofs.EqualLemmas.{value_decides}
use Rattle.rd_ecl.specs.Kinds.{method_names, methods_at}
use Rattle.rd_event.specs.declared.events.Call.{Call}
use Rattle.rd_event.specs.declared.items.Line.{Line}
use Rattle.rd_gen.specs.Generated.{arguments_for, call_line, dictionary_method, entries_behind, nil_or_number, result_in}
use Rattle.rd_gen_laws.proofs.KnownLemmas.{Knows, kinds}
use Rattle.rd_gen_laws.proofs.LineLemmas.{methods_are}
use Rattle.rd_kinds.specs.Machines.{Entries, dictionary_machine, dictionary_row, put_at, value_at}
use Rattle.rd_kinds.specs.Shipped.{counter_kind, dictionary_kind, register_kind, set_kind}
use Rattle.rd_object.specs.Machines.Step.{goes}
use Rattle.rd_object.specs.declared.shapes.Expected.TheVariants.{Value}
use Rattle.rd_object.specs.declared.shapes.ReplayEnd.TheVariants.{Exact}
use Rattle.rd_object.specs.declared.shapes.Shape.{Shape}
use Rattle.rd_object.specs.declared.shapes.Shape.TheVariants.{Map}
use Rattle.rd_base.specs.declared.limits.Limits.{Limits}
use Rattle.rd_replay.proofs.ReplayLemmas.{difference_here, end_same, held_here}
use Rattle.rd_replay.specs.Replays.{Recorded, arguments_of, held_shape, object_machine, replay_end, result_of, shape_after, step_difference}
use Rattle.rd_replay_command.specs.Replaying.{recorded_at}
use Rattle.rd_rules.specs.MayFollow.{kind_number, method_number, objects_of, place, threads_of}

-- ---- the row of a method

same_result : (shape : Shape) (value : Result) → step_difference (goes shape value) (Some value) ≡ None
same_result shape value = ap (λ b. cond b None (Some (Value value))) ((value_decides value value).1 refl)

same_shape : (shape : Shape) (value : Result) → shape_after (goes shape value) (Some value) ≡ Some shape
same_shape shape value = ap (λ b. cond b (Some shape) None) ((value_decides value value).1 refl)

module _ (entries : Entries) where
  -- the arguments, and the result that the dictionary gives
  abbrev pub slots_in : ℕ → ℕ → ℕ → List Result
  slots_in method key value = arguments_for method key value ++ result_in (dictionary_row method (arguments_for method key value) entries) ∷ []

  row_same : (method key value : ℕ) → method < 3
      → step_difference (dictionary_row method (arguments_of (slots_in method key value)) entries) (result_of (slots_in method key value)) ≡ None
  row_same zero key value below = same_result (Map (put_at (Int (pos key)) (nil_or_number value) entries)) (value_at (Int (pos key)) entries)
  row_same (suc zero) key value below = same_result (Map entries) (value_at (Int (pos key)) entries)
  row_same (suc (suc zero)) key value below = same_result (Map entries) (Int (pos (length entries)))
  row_same (suc (suc (suc method))) key value below = absurd (omega arith)

  row_shape : (method key value : ℕ) → method < 3
      → shape_after (dictionary_row method (arguments_of (slots_in method key value)) entries) (result_of (slots_in method key value))
      ≡ Some (Map (entries_behind method (arguments_for method key value) entries))
  unfolding entries_behind
  row_shape zero key value below = same_shape (Map (put_at (Int (pos key)) (nil_or_number value) entries)) (value_at (Int (pos key)) entries)
  row_shape (suc zero) key value below = same_shape (Map entries) (value_at (Int (pos key)) entries)
  row_shape (suc (suc zero)) key value below = same_shape (Map entries) (Int (pos (length entries)))
  row_shape (suc (suc (suc method))) key value below = absurd (omega arith)

-- the number of a method by its name
method_there : (method : ℕ) → method < 3 → place (method_names (methods_at kinds 3)) (dictionary_method method) ≡ method
unfolding counter_kind dictionary_kind register_kind set_kind
method_there zero below = refl
method_there (suc zero) below = refl
method_there (suc (suc zero)) below = refl
method_there (suc (suc (suc method))) below = absurd (omega arith)

-- ---- the replay

-- the replay of these calls on the one dictionary is exact, and it holds these entries behind them
pub record HoldsEntries (calls : List Recorded) (entries : Entries) : Type 0 where
  pub exact : replay_end (3 ∷ []) calls ≡ Exact
  pub holds : held_shape (3 ∷ []) calls 0 ≡ Some (Map entries)

pub holds_none : HoldsEntries [] []
unfolding replay_end
holds_none = record { exact = refl; holds = refl }

module _ (limits : Limits) (before : List Line) (joined : List (List ℕ)) (ahead : List ℕ → ℕ) (k : Knows before joined ahead) where
  -- the call in numbers
  abbrev pub call_in_numbers : List ℕ → List ℕ → List Result → Call
  call_in_numbers thread method slots = record {
    thread = place (threads_of before) thread;
    object = place (objects_of before) (codes "d");
    kind = kind_number kinds before (codes "d");
    method = method_number kinds before (codes "d") method;
    slots = slots;
  }

  first_object : place (objects_of before) (codes "d") ≡ 0
  first_object = ap (λ os. place os (codes "d")) k.objects_are

  method_is : (method : ℕ) → method < 3 → method_number kinds before (codes "d") (dictionary_method method) ≡ method
  method_is method below = ap (λ ms. place (method_names ms) (dictionary_method method)) (methods_are limits before joined ahead k) ∙ method_there method below

  module _ (thread : List ℕ) (method key value : ℕ) (entries : Entries) (below : method < 3) (calls : List Recorded) (number : ℕ)
      (so_far : HoldsEntries calls entries) where
    abbrev call : Call
    call = call_in_numbers thread (dictionary_method method) (slots_in entries method key value)

    pub call_recorded : recorded_at kinds before (record { number = number; item = call_line thread method (arguments_for method key value) entries })
        ≡ Some (number, call)
    unfolding call_line
    call_recorded = refl

    -- it is exact, and the dictionary goes on as the generator's does
    pub call_exact : HoldsEntries (calls ++ (number, call) ∷ []) (entries_behind method (arguments_for method key value) entries)
    call_exact =
        let machine = ap (λ object. object_machine (3 ∷ []) object) first_object in
        let holds = ap (held_shape (3 ∷ []) calls) first_object ∙ so_far.holds in
        let number_is = method_is method below in
        let slots = slots_in entries method key value in
        record {
          exact = end_same (3 ∷ []) calls (number, call) so_far.exact
              (difference_here (3 ∷ []) calls call dictionary_machine (Map entries) machine holds
              ∙ ap (λ m. step_difference (dictionary_row m (arguments_of slots) entries) (result_of slots)) number_is ∙ row_same entries method key value below);
          holds = ap (held_shape (3 ∷ []) (calls ++ (number, call) ∷ [])) (sym first_object)
              ∙ held_here (3 ∷ []) calls (number, call) dictionary_machine (Map entries) machine holds
              ∙ ap (λ m. shape_after (dictionary_row m (arguments_of slots) entries) (result_of slots)) number_is ∙ row_shape entries method key value below;
        }
