-- A step that is there tells that a place reaches another.
use Rattle.std.proofs.Common.{◌≡◌, ◌≢◌, ◌↔◌, ◌≤◌, ℕ, false, List, Option, Some, None, arith, inl, inr, refl, sym, ◌∙◌, true≢false}
use Rattle.std.specs.Prelude.{IfNone, IsSome, is_some}
use Rattle.std.proofs.lemmas.Bool.{cases_Bool}
use Rattle.rd_event.specs.declared.events.Event.{Event}
use Rattle.rd_order.specs.Order.{Reaches}
use Rattle.rd_order.specs.OrderTests.{reaches}
use Rattle.rd_order.proofs.OrderLemmas.{reaches_decides, reaches_rises}

pub told : (es : List Event) (place j : ℕ) (step : Option ℕ) → IsSome step ↔ Reaches es place j → is_some step ≡ reaches es place j
told es place j step tells = elim (cases_Bool (reaches es place j)) [
  | inl is ↦ tells.1 ((reaches_decides es place j).0 is) ∙ sym is
  | inr isnt ↦ elim (cases_Bool (is_some step)) [
    | inl some ↦ absurd (true≢false (sym ((reaches_decides es place j).1 (tells.0 some)) ∙ isnt))
    | inr none ↦ none ∙ sym isnt
  ]
]

pub late_not : (es : List Event) (place j : ℕ) → j ≤ place → reaches es place j ≡ false
late_not es place j late = elim (cases_Bool (reaches es place j)) [
  | inl is ↦ absurd (omega (arith, late, reaches_rises es place j ((reaches_decides es place j).0 is)))
  | inr isnt ↦ isnt
]

pub none_told : {X : Type 0} (o : Option X) (P : Type 0) → IfNone o P → ((x : X) → o ≢ Some x) → P
none_told None P told not_some = told
none_told (Some x) P told not_some = absurd (not_some x refl)
