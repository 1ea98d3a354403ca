-- The steps of the places before one, the last of them first.
use Rattle.std.proofs.Common.{◌≡◌, ℕ, ◌+◌, ◌-◌, ◌<◌, ◌≤◌, List, [], ◌∷◌, ◌++◌, length, Option, None, inl, inr, sym, subst, arith, length-append}
use Rattle.std.specs.Prelude.{slice_index_or}
use Rattle.std.proofs.Math.Seq.{get_or-append_seam}
use Rattle.std.proofs.lemmas.List.{get_or_append_left}
use Rattle.std.proofs.lemmas.Bool.{cases_lt}
use Rattle.rd_event.specs.declared.events.Event.{Event}
use Rattle.rd_order.specs.Paths.{AreFarthestSteps, IsFarthest}

-- one step more
pub steps_more : (es : List Event) (j : ℕ) (steps : List (Option ℕ)) (step : Option ℕ) → AreFarthestSteps es j steps → IsFarthest es j (j - length steps - 1) step
    → AreFarthestSteps es j (steps ++ step ∷ [])
steps_more es j steps step are is back most = elim (cases_lt back (length steps)) [
  | inl inside ↦ subst (IsFarthest es j (j - back - 1)) (sym (get_or_append_left steps (step ∷ []) None back inside)) (are back inside)
  | inr not_inside ↦
      (let here : length steps ≡ back = omega (arith, not_inside, most, length-append steps (step ∷ [])) in
      subst (λ n. IsFarthest es j (j - n - 1) (slice_index_or (steps ++ step ∷ []) n None)) here
      (subst (IsFarthest es j (j - length steps - 1)) (sym (get_or-append_seam steps step [] None)) is))
]

-- the step of a place
pub step_at : (es : List Event) (j place : ℕ) (steps : List (Option ℕ)) → AreFarthestSteps es j steps → place < j → j ≤ place + length steps
    → IsFarthest es j place (slice_index_or steps (j - place - 1) None)
step_at es j place steps are below inside =
    let here : j - (j - place - 1) - 1 ≡ place = omega (arith, below) in
    subst (λ n. IsFarthest es j n (slice_index_or steps (j - place - 1) None)) here (are (j - place - 1) (omega (arith, below, inside)))
