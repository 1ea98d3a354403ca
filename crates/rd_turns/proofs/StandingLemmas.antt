-- What the tables tell of the next step, and that they stand for it when it is placed.
use Rattle.std.proofs.Common.{◌≡◌, ◌≢◌, ◌⊎◌, inl, inr, ℕ, ◌+◌, ◌<◌, ◌≤◌, ◌==◌, nat_lt, Bool, true, false, not, ◌&&◌, ◌||◌, if◌then◌else◌, List, [], ◌∷◌, ◌++◌, length, length-set, Some, None, Decides, refl, sym, ap, subst, ◌∙◌, arith}
use Rattle.std.specs.Prelude.{slice_get, slice_index, slice_index_or, slice_set}
use Rattle.std.specs.Option.{option_and_then}
use Rattle.std.proofs.lemmas.Bool.{and_left, and_parts, cases_eq, cases_lt, eq-eqb, eqb-true, le-ltb, lt-ltb, ltb-true, ne_eqb}
use Rattle.std.proofs.lemmas.Bool.Decides.{Decides-ltb}
use Rattle.std.proofs.lemmas.List.{get_or-set_other, get_or-set_same, length-map}
use Rattle.std.proofs.lemmas.Option.{cond_some, none-some, option_and_then_some, slice_get_within}
use Rattle.rd_event.specs.declared.events.Event.{Event}
use Rattle.rd_order.specs.EventLists.{givings, joins, takings}
use Rattle.rd_order.specs.Order.{exclusive, forked_thread, joined_thread}
use Rattle.rd_order.specs.OrderTests.{is_this}
use Rattle.rd_turns.specs.declared.logs.NumberedLogs.{NumberedLogs}
use Rattle.rd_turns.specs.declared.logs.Step.{Step}
use Rattle.rd_turns.specs.declared.logs.Step.TheVariants.{Fork, Join, Acquire, Release, Call}
use Rattle.rd_turns.specs.declared.logs.ThreadSteps.{ThreadSteps}
use Rattle.rd_turns.specs.declared.tables.LockState.{LockState}
use Rattle.rd_turns.specs.declared.tables.ThreadState.{ThreadState}
use Rattle.rd_turns.specs.NumberedLogs.{AreInRange, IsStepInRange, logs_by_numbers, noted_step, step_event, step_number, thread_log}
use Rattle.rd_turns.specs.Standing.{CanPlace, FitsLogs, IsLockStep, IsThread, IsThreadStep, StandsFor, Tabled, held_depth, is_free_by, lock_at, may_do_by, may_place_by, next_step_of, next_step_in, no_state, placed_by, thread_state, threads_behind, threads_left}
use Rattle.rd_turns.proofs.NumberLemmas.{are_logs, as_long, event_is, log_is, none_long, own_thread, some_at}
use Rattle.rd_turns.proofs.TableLemmas.{MayHold, depth_of_holder, depth_of_other, forks_alike, free_for, is_free_if, joins_alike, known_push, left_at, left_behind, left_long, left_other, left_own, locks_long, locks_stand, not_or, or_none, running_push, threads_at, threads_long, told_alike}
use Rattle.rd_turns.specs.declared.waiting.Waiting.{Waiting}
use Rattle.rd_turns.specs.Waiting.{CanWake, HasSlots}
use Rattle.rd_weavings.specs.declared.spots.Spot.{Spot}
use Rattle.rd_weavings.specs.Logs.{Logs, Noted, ThreadLog, event_at, given, log_at, next_spot, noted_event, woven}
use Rattle.rd_weavings.specs.Weavings.{HaveOwnThreads}
use Rattle.rd_weavings.specs.WeaveTests.{is_known, is_lock_free, is_used_up, may_do, may_give, may_place}
use Rattle.rd_weavings.proofs.PlacingLemmas.{Sound, given_other, given_own}
use Rattle.rd_weavings.proofs.TestLemmas.{free_told}

itself : (b : Bool) → Decides b (b ≡ true)
itself b = (λ h. h, λ h. h)

refused : (b : Bool) (step : Step) → (if b then Some step else None) ≡ None → b ≡ false
refused true step told = absurd (none-some step (sym told))
refused false step told = refl

module _ (n : NumberedLogs) (spots : List Spot) (t : Tabled) (range : AreInRange n) (stands : StandsFor n spots t) where
  abbrev all : Logs
  all = logs_by_numbers n

  abbrev W : List Event
  W = woven all spots

  -- the log's next step is this one, and it may be placed
  pub record IsNext (l : ℕ) (step : Step) : Type 0 where
    pub log : ThreadSteps
    pub at : slice_get n.logs.items l ≡ Some log
    pub here : slice_get log.steps.items (given spots l) ≡ Some step
    pub may : may_place_by n t log.thread step ≡ true

  pub next_some : (l : ℕ) (step : Step) → next_step_of n t l ≡ Some step → IsNext l step
  next_some l step is =
      option_and_then_some (next_step_in n t l) (slice_get n.logs.items l) step is
      (λ log at steps. option_and_then_some (λ step. if may_place_by n t log.thread step then Some step else None) (slice_get log.steps.items (slice_index t.given l)) step steps
      (λ x here told.
      let found = cond_some (may_place_by n t log.thread x) x step told in
      record {
        log = log;
        at = at;
        here = ap (slice_get log.steps.items) (sym (stands.given l)) ∙ here ∙ ap Some found.1;
        may = subst (λ s. may_place_by n t log.thread s ≡ true) found.1 found.0;
      }))

  module _ (is : Sound all spots) where
    may_do_is : (thread : ℕ) (step : Step) → IsStepInRange n step → may_do_by n t thread step ≡ may_do all spots W (step_number step) (step_event thread step)
    may_do_is thread (Fork child) inside = ap not (stands.threads child inside).known
    may_do_is thread (Join child) inside =
        ap (λ b. b && (not (child == thread) && (thread_state t child).ended)) (stands.threads child inside).known
        ∙ ap (λ b. is_known all.roots W child && (not (child == thread) && b)) (stands.threads child inside).ended
    may_do_is thread (Acquire lock number) inside =
        let x = stands.locks lock inside.0 in
        ap (λ b. b && (number == (lock_at t lock).count + 1)) (told_alike (is_free_by (lock_at t lock) thread) (is_lock_free all.logs W thread lock) (itself _) (free_told all (are_logs n) spots is thread lock)
        (λ free u other. omega (arith, x.held u, free_for (lock_at t lock) thread free u other))
        (λ even. is_free_if (lock_at t lock) thread (λ u other. omega (arith, x.held u, even u other))))
        ∙ ap (λ k. is_lock_free all.logs W thread lock && (number == k + 1)) x.counted
    may_do_is thread (Release lock) inside =
        let held = (stands.locks lock inside).held thread in
        told_alike (nat_lt 0 (held_depth (lock_at t lock) thread)) (nat_lt (givings W thread (exclusive lock)) (takings W thread (exclusive lock))) (Decides-ltb _ _) (Decides-ltb _ _)
        (λ has. omega (arith, has, held)) (λ less. omega (arith, less, held))
    may_do_is thread (Call object) inside = refl

    may_place_is : (thread : ℕ) (step : Step) → thread < length n.roots.items → IsStepInRange n step → may_place_by n t thread step ≡ may_place all spots W (noted_step thread step)
    may_place_is thread step known inside =
        ap (λ b. b && (not (thread_state t thread).joined && may_do_by n t thread step)) (stands.threads thread known).known
        ∙ ap (λ b. is_known all.roots W thread && (b && may_do_by n t thread step)) (stands.threads thread known).running
        ∙ ap (λ b. is_known all.roots W thread && ((joins W thread == 0) && b)) (may_do_is thread step inside)
        ∙ ap (λ u. is_known all.roots W u && ((joins W u == 0) && may_do all spots W (step_number step) (step_event thread step))) (sym (own_thread thread step))

    -- the log's event stands there, so it may be placed exactly where the tables tell so
    gives_by_place : (l : ℕ) (log : ThreadSteps) (step : Step) → slice_get n.logs.items l ≡ Some log → slice_get log.steps.items (given spots l) ≡ Some step
        → may_give all spots l ≡ may_place_by n t log.thread step
    gives_by_place l log step at here =
        let within = slice_get_within log.steps.items (given spots l) step here in
        let in_range = range.each l log at in
        ap (λ b. b && may_place all spots W (noted_event all (next_spot spots l))) (lt-ltb (given spots l) (length (log_at all l).events) (omega (arith, within, as_long n l log at)))
        ∙ ap (may_place all spots W) (event_is n l (given spots l) log step at here)
        ∙ sym (may_place_is log.thread step in_range.thread (in_range.steps (given spots l) step here))

    pub gives : (l : ℕ) (step : Step) → IsNext l step → may_give all spots l ≡ true
    gives l step next = gives_by_place l next.log step next.at next.here ∙ next.may

    nothing_there : (l : ℕ) → length (log_at all l).events ≤ given spots l → may_give all spots l ≡ false
    nothing_there l past = and_left _ _ (le-ltb (given spots l) (length (log_at all l).events) past)

    pub gives_not : (l : ℕ) → next_step_of n t l ≡ None → may_give all spots l ≡ false
    gives_not l none = elim (cases_lt l (length n.logs.items)) [
      | inl inside ↦ let x = some_at n.logs.items l inside in by x.0 x.1 (cases_lt (given spots l) (length x.0.steps.items))
      | inr past ↦ nothing_there l (omega (arith, none_long n l past))
    ]
      where
        by : (log : ThreadSteps) → slice_get n.logs.items l ≡ Some log → (given spots l < length log.steps.items) ⊎ (length log.steps.items ≤ given spots l) → may_give all spots l ≡ false
        by log at (inr past) = nothing_there l (omega (arith, past, as_long n l log at))
        by log at (inl more) =
            let y = some_at log.steps.items (given spots l) more in
            let told : (if may_place_by n t log.thread y.0 then Some y.0 else None) ≡ None =
            sym (ap (option_and_then (next_step_in n t l)) at ∙ ap (option_and_then (λ step. if may_place_by n t log.thread step then Some step else None)) (ap (slice_get log.steps.items) (stands.given l) ∙ y.1)) ∙ none in
            gives_by_place l log y.0 at y.1 ∙ refused (may_place_by n t log.thread y.0) y.0 told

  -- a step that may be placed takes and gives back only what it may
  may_hold : (thread : ℕ) (step : Step) → may_place_by n t thread step ≡ true → MayHold t.locks thread step
  may_hold thread (Fork child) may = tt
  may_hold thread (Join child) may = tt
  may_hold thread (Acquire lock number) may =
      let does = and_parts _ _ (and_parts _ _ (and_parts _ _ may).1).1 in
      (does.0, eqb-true number ((lock_at t lock).count + 1) does.1)
  may_hold thread (Release lock) may = ltb-true 0 (held_depth (lock_at t lock) thread) (and_parts _ _ (and_parts _ _ may).1).1
  may_hold thread (Call object) may = tt

  -- a lock is released by the thread that has it
  pub holds_it : (lock thread : ℕ) → may_place_by n t thread (Release lock) ≡ true → thread ≡ (lock_at t lock).holder
  holds_it lock thread may = elim (cases_eq thread (lock_at t lock).holder) [
    | inl own ↦ own
    | inr other ↦ absurd (let some : 0 < held_depth (lock_at t lock) thread = may_hold thread (Release lock) may in omega (arith, some, depth_of_other (lock_at t lock) thread other))
  ]

  -- ---- and what the tables are behind it

  module _ (apart : HaveOwnThreads all) (l : ℕ) (step : Step) (next : IsNext l step) where
    abbrev more : List Spot
    more = spots ++ next_spot spots l ∷ []

    abbrev thread : ℕ
    thread = next.log.thread

    inside : l < length n.logs.items
    inside = slice_get_within n.logs.items l next.log next.at

    event_here : event_at all (next_spot spots l) ≡ step_event thread step
    event_here = ap (λ (e : Noted). e.event) (event_is n l (given spots l) next.log step next.at next.here)

    abbrev used_up : Bool
    used_up = slice_index t.given l + 1 == length next.log.steps.items

    whose : (log_at all l).thread ≡ thread
    whose = ap (λ (x : ThreadLog). x.thread) (log_is n l next.log next.at)

    in_logs : l < length all.logs
    in_logs = omega (arith, inside, length-map n.logs.items thread_log)

    ended_is : (u : ℕ) (x : ThreadState) → x.ended ≡ is_used_up all spots u → (x.ended || ((thread == u) && used_up)) ≡ is_used_up all more u
    ended_is u x was = by (cases_eq thread u)
      where
        by : (thread ≡ u) ⊎ (thread ≢ u) → (x.ended || ((thread == u) && used_up)) ≡ is_used_up all more u
        by (inl same) =
            let within = slice_get_within next.log.steps.items (given spots l) step next.here in
            let left_over : x.ended ≡ false =
            was ∙ ap (is_used_up all spots) (sym (whose ∙ same)) ∙ left_own all apart spots l in_logs spots
            ∙ ne_eqb (given spots l) (length (log_at all l).events) (λ even. omega (arith, even, within, as_long n l next.log next.at)) in
            ap (λ b. b || ((thread == u) && used_up)) left_over ∙ ap (λ b. b && used_up) (eq-eqb thread u same)
            ∙ ap (λ g. g + 1 == length next.log.steps.items) (stands.given l)
            ∙ ap (λ g. g == length next.log.steps.items) (sym (given_own spots l))
            ∙ ap (λ k. given more l == k) (sym (as_long n l next.log next.at))
            ∙ sym (left_own all apart spots l in_logs more) ∙ ap (is_used_up all more) (whose ∙ same)
        by (inr other) =
            ap (λ b. x.ended || (b && used_up)) (ne_eqb thread u other) ∙ or_none x.ended ∙ was ∙ sym (left_other all apart spots l in_logs u (λ same. other (sym whose ∙ same)))

    threads_stand : (u : ℕ) → u < length n.roots.items
        → IsThread all more u (slice_index_or (threads_left (threads_behind t.threads step) thread used_up) u no_state)
    threads_stand u known =
        let x = thread_state t u in
        let was = stands.threads u known in
        let in_threads : u < length t.threads = omega (arith, known, stands.thread_count) in
        let value = left_at (threads_behind t.threads step) thread u used_up (omega (arith, in_threads, threads_long t.threads step))
        ∙ ap (λ y. left_behind y ((thread == u) && used_up)) (threads_at t.threads step u in_threads) in
        subst (IsThread all more u) (sym value) (record {
          known = ap (λ b. b || is_this (forked_thread (step_event 0 step)) u) was.known ∙ ap (λ o. is_known all.roots W u || is_this o u) (sym (forks_alike thread step))
              ∙ sym (known_push all spots (next_spot spots l) (step_event thread step) event_here u);
          running = not_or x.joined (is_this (joined_thread (step_event 0 step)) u) ∙ ap (λ b. b && not (is_this (joined_thread (step_event 0 step)) u)) was.running
              ∙ ap (λ o. (joins W u == 0) && not (is_this o u)) (sym (joins_alike thread step))
              ∙ sym (running_push all spots (next_spot spots l) (step_event thread step) event_here u);
          ended = ended_is u x was.ended;
        })

    pub placed_stands : StandsFor n more (placed_by t l next.log step)
    placed_stands = record {
      logs = length-set t.given l _ ∙ stands.logs;
      given = λ k. by k (cases_eq k l);
      thread_count = left_long (threads_behind t.threads step) thread used_up ∙ threads_long t.threads step ∙ stands.thread_count;
      threads = threads_stand;
      lock_count = locks_long t.locks thread step ∙ stands.lock_count;
      locks = λ lock below. locks_stand all spots (next_spot spots l) thread n t.locks step event_here (may_hold thread step next.may) lock (omega (arith, below, stands.lock_count)) (stands.locks lock below);
    }
      where
        by : (k : ℕ) → (k ≡ l) ⊎ (k ≢ l) → slice_index (slice_set t.given l (slice_index t.given l + 1)) k ≡ given more k
        by k (inl same) =
            ap (slice_index (slice_set t.given l (slice_index t.given l + 1))) same ∙ get_or-set_same t.given l _ 0 (omega (arith, inside, stands.logs))
            ∙ ap (λ (g : ℕ). g + 1) (stands.given l) ∙ sym (given_own spots l) ∙ ap (given more) (sym same)
        by k (inr other) = get_or-set_other t.given l k _ 0 other ∙ stands.given k ∙ sym (given_other spots l k (λ same. other (sym same)))

    -- what placing it asks
    pub can_place : CanPlace n t l step
    can_place = record {
      fits = record { logs = stands.logs; threads = stands.thread_count; locks = stands.lock_count };
      inside = inside;
      room = let within = slice_get_within next.log.steps.items (given spots l) step next.here in let few = (range.each l next.log next.at).few in omega (arith, within, few, stands.given l);
      thread = thread_step step in_range;
      lock = lock_step step in_range (may_hold thread step next.may);
    }
      where
        in_range : IsStepInRange n step
        in_range = (range.each l next.log next.at).steps (given spots l) step next.here

        thread_step : (step : Step) → IsStepInRange n step → IsThreadStep t.threads step
        thread_step (Fork child) below = omega (arith, below, stands.thread_count)
        thread_step (Join child) below = omega (arith, below, stands.thread_count)
        thread_step (Acquire lock number) below = tt
        thread_step (Release lock) below = tt
        thread_step (Call object) below = tt

        has : (x : LockState) → 0 < held_depth x thread → 0 < x.depth
        has x some = elim (cases_eq thread x.holder) [
          | inl own ↦ omega (arith, some, depth_of_holder x thread own)
          | inr other ↦ absurd (omega (arith, some, depth_of_other x thread other))
        ]

        lock_step : (step : Step) → IsStepInRange n step → MayHold t.locks thread step → IsLockStep t.locks step
        lock_step (Fork child) below may = tt
        lock_step (Join child) below may = tt
        lock_step (Acquire lock number) below may = (omega (arith, below.0, stands.lock_count), let few = (stands.locks lock below.0).few in omega (arith, few, may.1, below.1))
        lock_step (Release lock) below may = (omega (arith, below, stands.lock_count), has (lock_at t lock) may)
        lock_step (Call object) below may = tt

-- what waking asks, behind a step
pub can_wake : (n : NumberedLogs) (w : Waiting) (t : Tabled) (log : ℕ) (steps : ThreadSteps) (step : Step) → FitsLogs n t → HasSlots n w → IsStepInRange n step → CanWake w (placed_by t log steps step) step
can_wake n w t log steps (Fork child) fits slots below = omega (arith, below, slots.threads)
can_wake n w t log steps (Join child) fits slots below = tt
can_wake n w t log steps (Acquire lock number) fits slots below = tt
can_wake n w t log steps (Release lock) fits slots below =
    (omega (arith, below, fits.locks, locks_long t.locks steps.thread (Release lock)), omega (arith, below, slots.first), slots.acquires)
can_wake n w t log steps (Call object) fits slots below = tt
