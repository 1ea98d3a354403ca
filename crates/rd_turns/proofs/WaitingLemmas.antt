-- Nothing that is listed is lost.
use Rattle.std.proofs.Common.{◌≡◌, inl, inr, ℕ, ◌+◌, ◌<◌, ◌≤◌, ◌%◌, List, length, Some, sym, ap, subst, ◌∙◌, arith}
use Rattle.std.specs.Prelude.{slice_get, slice_index, slice_index_or}
use Rattle.std.proofs.lemmas.Bool.{cases_eq}
use Rattle.std.proofs.lemmas.Option.{same_Some, slice_get-get_or, slice_get_within}
use Rattle.rd_turns.specs.declared.logs.NumberedLogs.{NumberedLogs}
use Rattle.rd_turns.specs.declared.logs.Step.{Step}
use Rattle.rd_turns.specs.declared.logs.Step.TheVariants.{Fork, Join, Acquire, Release, Call}
use Rattle.rd_turns.specs.declared.logs.ThreadSteps.{ThreadSteps}
use Rattle.rd_turns.specs.declared.waiting.Waiting.{Waiting}
use Rattle.rd_turns.specs.Waiting.{HasMore, HasSlots, IsListed, KnowsLog, KnowsStep, acquire_slot, slot_count}

pub more_trans : (u v w : Waiting) → HasMore u v → HasMore v w → HasMore u w
more_trans u v w a b = record {
  threads = λ slot l at. b.threads slot l (a.threads slot l at);
  acquires = λ slot l at. b.acquires slot l (a.acquires slot l at);
  thread_slots = b.thread_slots ∙ a.thread_slots;
  acquire_slots = b.acquire_slots ∙ a.acquire_slots;
  first = b.first ∙ a.first;
}

pub still_slots : (n : NumberedLogs) (v w : Waiting) → HasMore v w → HasSlots n v → HasSlots n w
still_slots n v w more has = record {
  threads = more.thread_slots ∙ has.threads;
  acquires = subst (λ k. 0 < k) (sym more.acquire_slots) has.acquires;
  first = ap (λ f. length f.items) more.first ∙ has.first;
}

same_slot : (v w : Waiting) → HasMore v w → (lock number : ℕ) → acquire_slot v lock number ≡ acquire_slot w lock number
same_slot v w more lock number =
    ap (λ f. (slice_index f.items lock + number) % slot_count v.acquires) (sym more.first) ∙ ap (λ k. (slice_index w.first.items lock + number) % k) (sym more.acquire_slots)

pub knows_more : (v w : Waiting) → HasMore v w → (log : ℕ) (step : Step) → KnowsStep v log step → KnowsStep w log step
knows_more v w more log (Fork child) knows = tt
knows_more v w more log (Join child) knows = more.threads child log knows
knows_more v w more log (Acquire lock number) knows =
    subst (λ slot. IsListed w.acquires slot log) (same_slot v w more lock number) (more.acquires (acquire_slot v lock number) log knows)
knows_more v w more log (Release lock) knows = tt
knows_more v w more log (Call object) knows = tt

pub knows_log_more : (n : NumberedLogs) (v w : Waiting) → HasMore v w → (l : ℕ) → KnowsLog n v l → KnowsLog n w l
knows_log_more n v w more l knows = record {
  own = λ log at. more.threads log.thread l (knows.own log at);
  steps = λ log p step at stands. knows_more v w more l step (knows.steps log p step at stands);
}

-- one step more
pub knows_next : (v w : Waiting) (l : ℕ) (steps : List Step) (index : ℕ) (d : Step) → HasMore v w → index < length steps
    → ((p : ℕ) (step : Step) → p < index → slice_get steps p ≡ Some step → KnowsStep v l step) → KnowsStep w l (slice_index_or steps index d)
    → (p : ℕ) (step : Step) → p < index + 1 → slice_get steps p ≡ Some step → KnowsStep w l step
knows_next v w l steps index d more inside before this p step below at = elim (cases_eq p index) [
  | inl same ↦
      let here : slice_get steps index ≡ Some step = subst (λ k. slice_get steps k ≡ Some step) same at in
      subst (KnowsStep w l) (same_Some (slice_index_or steps index d) step (sym (slice_get-get_or steps index d inside) ∙ here)) this
  | inr differ ↦ knows_more v w more l step (before p step (omega arith) at)
]

-- the log was read as `steps`, and all its steps are known
pub knows_read : (n : NumberedLogs) (v w : Waiting) (l : ℕ) (steps : ThreadSteps) (items : List Step) (index : ℕ) → HasMore v w → l < length n.logs.items
    → steps ≡ slice_index_or n.logs.items l steps → items ≡ steps.steps.items → length items ≤ index → IsListed v.threads steps.thread l
    → ((p : ℕ) (step : Step) → p < index → slice_get items p ≡ Some step → KnowsStep w l step) → KnowsLog n w l
knows_read n v w l steps items index more inside is are all_of own known = record {
  own = λ log at. more.threads log.thread l (subst (λ x. IsListed v.threads x.thread l) (one log at) own);
  steps = λ log p step at stands.
      let here : slice_get items p ≡ Some step = ap (λ xs. slice_get xs p) (are ∙ ap (λ x. x.steps.items) (one log at)) ∙ stands in
      let within = slice_get_within items p step here in
      known p step (omega arith) here;
}
  where
    one : (log : ThreadSteps) → slice_get n.logs.items l ≡ Some log → steps ≡ log
    one log at = same_Some steps log (ap Some is ∙ sym (slice_get-get_or n.logs.items l steps inside) ∙ at)
