-- What stands where in the logs that numbers stand for.
use Rattle.std.proofs.Common.{◌≡◌, ◌≢◌, inl, inr, ℕ, ◌<◌, ◌≤◌, List, [], ◌∷◌, zero, suc, length, map, Some, refl, sym, ap, ◌∙◌, arith}
use Rattle.std.specs.Prelude.{option_map, slice_get, slice_index_or}
use Rattle.std.proofs.lemmas.Bool.{cases_lt}
use Rattle.std.proofs.lemmas.List.{get_or_past, length-map}
use Rattle.std.proofs.lemmas.Option.{get_or_from_slice_get, none-some, same_Some, slice_get-map}
use Rattle.rd_event.specs.declared.events.Call.{Call as CallOf}
use Rattle.rd_order.specs.Order.{call_in, hold_given, hold_taken, shared, thread_of}
use Rattle.rd_turns.specs.declared.logs.NumberedLogs.{NumberedLogs}
use Rattle.rd_turns.specs.declared.logs.Step.{Step}
use Rattle.rd_turns.specs.declared.logs.Step.TheVariants.{Fork, Join, Acquire, Release, Call}
use Rattle.rd_turns.specs.declared.logs.ThreadSteps.{ThreadSteps}
use Rattle.rd_turns.specs.NumberedLogs.{logs_by_numbers, noted_step, step_event, thread_log}
use Rattle.rd_weavings.specs.declared.spots.Spot.{Spot}
use Rattle.rd_weavings.specs.Logs.{AreLogs, IsSpot, Logs, Noted, ThreadLog, event_at, log_at, no_event, no_log, noted_event}

pub own_thread : (thread : ℕ) (step : Step) → thread_of (step_event thread step) ≡ thread
own_thread thread (Fork child) = refl
own_thread thread (Join child) = refl
own_thread thread (Acquire lock number) = refl
own_thread thread (Release lock) = refl
own_thread thread (Call object) = refl

no_share : (thread lock : ℕ) (step : Step) → hold_taken (step_event thread step) ≢ Some (shared lock)
no_share thread lock (Fork child) at = none-some (shared lock) at
no_share thread lock (Join child) at = none-some (shared lock) at
no_share thread lock (Acquire other number) at = cc
no_share thread lock (Release other) at = none-some (shared lock) at
no_share thread lock (Call object) at = none-some (shared lock) at

no_unshare : (thread lock : ℕ) (step : Step) → hold_given (step_event thread step) ≢ Some (shared lock)
no_unshare thread lock (Fork child) at = none-some (shared lock) at
no_unshare thread lock (Join child) at = none-some (shared lock) at
no_unshare thread lock (Acquire other number) at = none-some (shared lock) at
no_unshare thread lock (Release other) at = cc
no_unshare thread lock (Call object) at = none-some (shared lock) at

kind_zero : (thread : ℕ) (step : Step) (call : CallOf) → call_in (step_event thread step) ≡ Some call → call.kind ≡ 0
kind_zero thread (Fork child) call at = absurd (none-some call at)
kind_zero thread (Join child) call at = absurd (none-some call at)
kind_zero thread (Acquire lock number) call at = absurd (none-some call at)
kind_zero thread (Release lock) call at = absurd (none-some call at)
kind_zero thread (Call object) call at = sym (ap (λ (c : CallOf). c.kind) (same_Some _ call at))

pub some_at : {X : Type 0} (xs : List X) (k : ℕ) → k < length xs → (x : X) × (slice_get xs k ≡ Some x)
some_at (x ∷ xs) zero below = (x, refl)
some_at (x ∷ xs) (suc k) below = some_at xs k (omega arith)
some_at [] k below = absurd (omega arith)

module _ (n : NumberedLogs) where
  abbrev all : Logs
  all = logs_by_numbers n

  pub log_is : (l : ℕ) (log : ThreadSteps) → slice_get n.logs.items l ≡ Some log → log_at all l ≡ thread_log log
  log_is l log at = get_or_from_slice_get (map thread_log n.logs.items) l (thread_log log) no_log (slice_get-map thread_log n.logs.items l ∙ ap (option_map thread_log) at)

  pub event_is : (l p : ℕ) (log : ThreadSteps) (step : Step) → slice_get n.logs.items l ≡ Some log → slice_get log.steps.items p ≡ Some step
      → noted_event all (record { log = l; place = p }) ≡ noted_step log.thread step
  event_is l p log step at stands =
      ap (λ x. slice_index_or x.events p no_event) (log_is l log at)
      ∙ get_or_from_slice_get (map (noted_step log.thread) log.steps.items) p (noted_step log.thread step) no_event
      (slice_get-map (noted_step log.thread) log.steps.items p ∙ ap (option_map (noted_step log.thread)) stands)

  pub as_long : (l : ℕ) (log : ThreadSteps) → slice_get n.logs.items l ≡ Some log → length (log_at all l).events ≡ length log.steps.items
  as_long l log at = ap (λ x. length x.events) (log_is l log at) ∙ length-map log.steps.items (noted_step log.thread)

  pub none_long : (l : ℕ) → length n.logs.items ≤ l → length (log_at all l).events ≡ 0
  none_long l past = ap (λ x. length x.events) (get_or_past all.logs l no_log (omega (arith, past, length-map n.logs.items thread_log)))

  -- what stands in a spot
  pub record Stands (s : Spot) : Type 0 where
    pub log : ThreadSteps
    pub step : Step
    pub at : slice_get n.logs.items s.log ≡ Some log
    pub stands : slice_get log.steps.items s.place ≡ Some step

  pub stands_at : (s : Spot) → IsSpot all s → Stands s
  stands_at s is = elim (cases_lt s.log (length n.logs.items)) [
    | inl inside ↦
        let x = some_at n.logs.items s.log inside in
        let y = some_at x.0.steps.items s.place (omega (arith, is, as_long s.log x.0 x.1)) in
        record { log = x.0; step = y.0; at = x.1; stands = y.1 }
    | inr past ↦ absurd (omega (arith, is, none_long s.log past))
  ]

  pub event_here : (s : Spot) (x : Stands s) → event_at all s ≡ step_event x.log.thread x.step
  event_here s x = ap (λ (e : Noted). e.event) (event_is s.log s.place x.log x.step x.at x.stands)

  pub are_logs : AreLogs all
  are_logs = record {
    own = λ s is. let x = stands_at s is in ap thread_of (event_here s x) ∙ own_thread x.log.thread x.step ∙ sym (ap (λ (l : ThreadLog). l.thread) (log_is s.log x.log x.at));
    no_share = λ s lock is took. let x = stands_at s is in no_share x.log.thread lock x.step (ap hold_taken (sym (event_here s x)) ∙ took);
    no_unshare = λ s lock is gave. let x = stands_at s is in no_unshare x.log.thread lock x.step (ap hold_given (sym (event_here s x)) ∙ gave);
    one_kind = λ s t a b is_s is_t at_s at_t same.
        let x = stands_at s is_s in let y = stands_at t is_t in
        kind_zero x.log.thread x.step a (ap call_in (sym (event_here s x)) ∙ at_s) ∙ sym (kind_zero y.log.thread y.step b (ap call_in (sym (event_here t y)) ∙ at_t));
  }
