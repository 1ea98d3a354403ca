-- A turn keeps what stands between two turns.
use Rattle.std.proofs.Common.{◌≡◌, ◌≢◌, ◌⊎◌, inl, inr, ℕ, zero, suc, ◌+◌, ◌<◌, ◌≤◌, Bool, true, false, cond, if◌then◌else◌, List, [], ◌∷◌, ◌++◌, length, Some, None, refl, sym, ap, subst, ◌∙◌, arith, true≢false}
use Rattle.std.specs.Prelude.{IfSome, IsSome, IsTrue, find, slice_index}
use Rattle.std.specs.List.{range_with_len}
use Rattle.std.proofs.lemmas.Bool.{cases_Bool, cases_eq, cases_lt, eq-eqb}
use Rattle.std.proofs.lemmas.List.{get_or-set_same, length-map}
use Rattle.std.proofs.lemmas.Option.{none-some, same_Some, slice_get_within}
use Rattle.rd_order.specs.EventLists.{givings, takings}
use Rattle.rd_order.specs.Order.{exclusive, forked_thread, hold_given, hold_taken, joined_thread, thread_of}
use Rattle.rd_turns.specs.declared.logs.NumberedLogs.{NumberedLogs}
use Rattle.rd_turns.specs.declared.logs.Step.{Step}
use Rattle.rd_turns.specs.declared.logs.Step.TheVariants.{Fork, Join, Acquire, Release, Call}
use Rattle.rd_turns.specs.declared.tables.LockState.{LockState}
use Rattle.rd_turns.specs.declared.waiting.Waiting.{Waiting}
use Rattle.rd_turns.specs.NumberedLogs.{AreInRange, IsStepInRange, logs_by_numbers, step_event, step_number, thread_log}
use Rattle.rd_turns.specs.Standing.{StandsFor, Tabled, lock_at, may_place_by, next_acquire_by, next_step_of, no_lock, placed_by}
use Rattle.rd_turns.specs.Turning.{IsTurning}
use Rattle.rd_turns.specs.Waiting.{IsListed, IsWokenBy, KnowsAll, KnowsStep, acquire_slot}
use Rattle.rd_turns.proofs.NumberLemmas.{Stands, are_logs, as_long, event_here as event_stands, event_is, log_is, own_thread, stands_at}
use Rattle.rd_turns.proofs.StandingLemmas.{IsNext, gives, gives_not, holds_it, next_some, placed_stands}
use Rattle.rd_turns.proofs.TableLemmas.{depth_of_holder}
use Rattle.rd_weavings.specs.declared.spots.Spot.{Spot}
use Rattle.rd_weavings.specs.Logs.{IsSpot, Logs, Noted, ThreadLog, event_at, given, log_at, next_spot, noted_event, woven}
use Rattle.rd_weavings.specs.Turns.{IsWoken, begun, known, last, freed}
use Rattle.rd_weavings.specs.Weavings.{ArePlaced, HaveOwnThreads, IsUsedUp, MayGive, none, one_more}
use Rattle.rd_weavings.specs.WeaveTests.{may_give, placed_in, turns_left, with_next, woven_first}
use Rattle.rd_weavings.proofs.PlacingLemmas.{Sound, given_other, given_own, sound}
use Rattle.rd_weavings.proofs.SpotLemmas.{spot_is}
use Rattle.rd_weavings.proofs.TestLemmas.{fewer_left, give_decides}
use Rattle.rd_weavings.proofs.TurnLemmas.{turn_of}

-- ---- the first that passes

first_found : (p : ℕ → Bool) (a n l : ℕ) → a ≤ l → l < a + n → p l ≡ true → ((k : ℕ) → k < l → p k ≡ false) → find p (range_with_len a n) ≡ Some l
first_found p a zero l from below passes fails = absurd (omega arith)
first_found p a (suc n) l from below passes fails = elim (cases_eq a l) [
  | inl same ↦ ap (λ b. cond b (Some a) (find p (range_with_len (a + 1) n))) (ap p same ∙ passes) ∙ ap Some same
  | inr differ ↦
      ap (λ b. cond b (Some a) (find p (range_with_len (a + 1) n))) (fails a (omega arith)) ∙ first_found p (a + 1) n l (omega arith) (omega arith) passes fails
]

none_found : (p : ℕ → Bool) (a n : ℕ) → ((k : ℕ) → k < a + n → p k ≡ false) → find p (range_with_len a n) ≡ None
none_found p a zero fails = refl
none_found p a (suc n) fails =
    ap (λ b. cond b (Some a) (find p (range_with_len (a + 1) n))) (fails a (omega arith)) ∙ none_found p (a + 1) n (λ k below. fails k (omega arith))

-- ---- which step it is

fork_of : (thread u : ℕ) (step : Step) → forked_thread (step_event thread step) ≡ Some u → step ≡ Fork u
fork_of thread u (Fork child) is = ap Fork (same_Some child u is)
fork_of thread u (Join child) is = absurd (none-some u is)
fork_of thread u (Acquire lock number) is = absurd (none-some u is)
fork_of thread u (Release lock) is = absurd (none-some u is)
fork_of thread u (Call object) is = absurd (none-some u is)

join_of : (thread u : ℕ) (step : Step) → joined_thread (step_event thread step) ≡ Some u → step ≡ Join u
join_of thread u (Fork child) is = absurd (none-some u is)
join_of thread u (Join child) is = ap Join (same_Some child u is)
join_of thread u (Acquire lock number) is = absurd (none-some u is)
join_of thread u (Release lock) is = absurd (none-some u is)
join_of thread u (Call object) is = absurd (none-some u is)

same_lock : (lock other : ℕ) → Some (exclusive lock) ≡ Some (exclusive other) → lock ≡ other
same_lock lock other is = cc

acquire_of : (thread lock : ℕ) (step : Step) → hold_taken (step_event thread step) ≡ Some (exclusive lock) → step ≡ Acquire lock (step_number step)
acquire_of thread lock (Fork child) is = absurd (none-some (exclusive lock) is)
acquire_of thread lock (Join child) is = absurd (none-some (exclusive lock) is)
acquire_of thread lock (Acquire other number) is = ap (λ k. Acquire k number) (same_lock other lock is)
acquire_of thread lock (Release other) is = absurd (none-some (exclusive lock) is)
acquire_of thread lock (Call object) is = absurd (none-some (exclusive lock) is)

release_of : (thread lock : ℕ) (step : Step) → hold_given (step_event thread step) ≡ Some (exclusive lock) → step ≡ Release lock
release_of thread lock (Fork child) is = absurd (none-some (exclusive lock) is)
release_of thread lock (Join child) is = absurd (none-some (exclusive lock) is)
release_of thread lock (Acquire other number) is = absurd (none-some (exclusive lock) is)
release_of thread lock (Release other) is = ap Release (same_lock other lock is)
release_of thread lock (Call object) is = absurd (none-some (exclusive lock) is)

-- ---- a turn

module _ (n : NumberedLogs) (range : AreInRange n) (apart : HaveOwnThreads (logs_by_numbers n)) (w : Waiting) (knows : KnowsAll n w) (spots : List Spot) (t : Tabled) (ready : ℕ → Bool) (turning : IsTurning n spots t ready) where
  abbrev all : Logs
  all = logs_by_numbers n

  all_long : length all.logs ≡ length n.logs.items
  all_long = length-map n.logs.items thread_log

  is : Sound all spots
  is = sound all spots turning.placed

  -- a log that the tables refuse may not give
  pub refuses : (l : ℕ) → next_step_of n t l ≡ None → may_give all spots l ≡ false
  refuses l told = gives_not n spots t range turning.tables is l told

  -- where none may, the turns are over
  stays : (turns : ℕ) → ((l : ℕ) → l < length n.logs.items → may_give all spots l ≡ false) → placed_in all turns spots ≡ spots
  stays zero fails = refl
  stays (suc turns) fails = ap (λ o. with_next spots o (placed_in all turns)) (none_found (may_give all spots) 0 (length all.logs) (λ k below. fails k (omega (arith, below, all_long))))

  pub ends : ((l : ℕ) → IsTrue (ready l) → next_step_of n t l ≡ None) → spots ≡ woven_first all
  ends told = sym (turning.rest ∙ stays (turns_left all spots) (λ l inside. elim (turning.ready l inside) [ inl asked ↦ refuses l (told l asked) | inr fails ↦ fails ]))

  -- those that the tables refuse need not be ready
  pub settled : (asked : ℕ → Bool) → ((k : ℕ) → IsTrue (ready k) → IsTrue (asked k) ⊎ (next_step_of n t k ≡ None)) → IsTurning n spots t asked
  settled asked kept = record {
    placed = turning.placed;
    rest = turning.rest;
    tables = turning.tables;
    ready = λ k below. elim (turning.ready k below) [ inl was ↦ elim (kept k was) [ inl now ↦ inl now | inr told ↦ inr (refuses k told) ] | inr fails ↦ inr fails ];
  }

  pub lower : (l : ℕ) → l < length n.logs.items → ((k : ℕ) → k < l → IsTrue (ready k) → next_step_of n t k ≡ None) → (k : ℕ) → k < l → may_give all spots k ≡ false
  lower l inside told k below = elim (turning.ready k (omega arith)) [ inl asked ↦ refuses k (told k below asked) | inr fails ↦ fails ]

  module _ (l : ℕ) (step : Step) (told : next_step_of n t l ≡ Some step) where
    abbrev more : List Spot
    more = spots ++ next_spot spots l ∷ []

    pub next : IsNext n spots t range turning.tables l step
    next = next_some n spots t range turning.tables l step told

    pub may : MayGive all spots l
    may = (give_decides all (are_logs n) spots is l).0 (gives n spots t range turning.tables is l step next)

    abbrev thread : ℕ
    thread = next.log.thread

    abbrev t' : Tabled
    t' = placed_by t l next.log step

    placed : ArePlaced all more
    placed = one_more spots l turning.placed may

    stands' : StandsFor n more t'
    stands' = placed_stands n spots t range turning.tables apart l step next

    event_l : event_at all (next_spot spots l) ≡ step_event thread step
    event_l = ap (λ (e : Noted). e.event) (event_is n l (given spots l) next.log step next.at next.here)

    whose : (log_at all l).thread ≡ thread
    whose = ap (λ (x : ThreadLog). x.thread) (log_is n l next.log next.at)

    pub inside : l < length n.logs.items
    inside = slice_get_within n.logs.items l next.log next.at

    pub fewer : turns_left all spots ≡ suc (turns_left all more)
    fewer = let less = fewer_left all (are_logs n) spots l may in omega (arith, less)

    -- the turns go on from it
    rest' : ((k : ℕ) → k < l → may_give all spots k ≡ false) → woven_first all ≡ placed_in all (turns_left all more) more
    rest' lower =
        turning.rest ∙ ap (λ turns. placed_in all turns spots) fewer
        ∙ ap (λ o. with_next spots o (placed_in all (turns_left all more)))
        (first_found (may_give all spots) 0 (length all.logs) l (omega arith) (omega (arith, inside, all_long)) (gives n spots t range turning.tables is l step next) lower)

    -- nothing of its log is left where nothing of its thread's is
    used_up : IsUsedUp all more thread → slice_index t'.given l ≡ length next.log.steps.items
    used_up used =
        let s = next_spot more l in
        let within = slice_get_within next.log.steps.items (given spots l) step next.here in
        elim (cases_lt (given more l) (length (log_at all l).events)) [
          | inl left ↦ absurd (let low = (sound all more placed).below s (used s left whose) in omega (arith, low))
          | inr past ↦ omega (arith, past, within, stands'.given l, as_long n l next.log next.at, given_own spots l)
        ]

    module _ (k : ℕ) (other : k ≢ l) (after : MayGive all more k) where
      same_next : next_spot more k ≡ next_spot spots k
      same_next = spot_is (next_spot more k) (next_spot spots k) refl (given_other spots l k (λ same. other (sym same)))

      is_spot : IsSpot all (next_spot spots k)
      is_spot = subst (IsSpot all) same_next after.inside

      x : Stands n (next_spot spots k)
      x = stands_at n (next_spot spots k) is_spot

      event_k : event_at all (next_spot spots k) ≡ step_event x.log.thread x.step
      event_k = event_stands n (next_spot spots k) x

      knows_k : KnowsStep w k x.step
      knows_k = (knows k (slice_get_within n.logs.items k x.log x.at)).steps x.log (given spots k) x.step x.at x.stands

      apart_k : x.log.thread ≢ thread
      apart_k same =
          other (apart k l (omega (arith, slice_get_within n.logs.items k x.log x.at, all_long)) (omega (arith, inside, all_long))
          (ap (λ (y : ThreadLog). y.thread) (log_is n k x.log x.at) ∙ same ∙ sym whose))

      -- an acquire of the lock that it frees has its next number, and no thread has the lock
      next_number : (lock : ℕ) → step ≡ Release lock → hold_taken (event_at all (next_spot spots k)) ≡ Some (exclusive lock) → next_acquire_by (lock_at t' lock) ≡ Some (step_number x.step)
      next_number lock releases takes =
          ap (λ b. if b then Some ((lock_at t' lock).count + 1) else None) (eq-eqb (lock_at t' lock).depth 0 none_held) ∙ ap Some (sym number_is)
        where
          takes_after : hold_taken (event_at all (next_spot more k)) ≡ Some (exclusive lock)
          takes_after = ap (λ s. hold_taken (event_at all s)) same_next ∙ takes

          below : lock < n.locks
          below = let r = (range.each l next.log next.at).steps (given spots l) step next.here in subst (IsStepInRange n) releases r

          number_is : step_number x.step ≡ (lock_at t' lock).count + 1
          number_is =
              sym (ap (λ (e : Noted). e.number) (event_is n k (given spots k) x.log x.step x.at x.stands)) ∙ ap (λ s. (noted_event all s).number) (sym same_next)
              ∙ after.follow.numbered lock takes_after ∙ ap (λ c. c + 1) (sym (stands'.locks lock below).counted)

          holder : (lock_at t' lock).holder ≡ thread
          holder = ap (λ s. (lock_at (placed_by t l next.log s) lock).holder) releases ∙ ap (λ (y : LockState). y.holder) (get_or-set_same t.locks lock _ no_lock (omega (arith, below, turning.tables.lock_count)))
              ∙ sym (holds_it n spots t range turning.tables lock thread (subst (λ s. may_place_by n t thread s ≡ true) releases next.may))

          even : takings (woven all more) thread (exclusive lock) ≡ givings (woven all more) thread (exclusive lock)
          even = after.follow.happens.free (exclusive lock) (exclusive lock) takes_after refl thread
              (λ same. apart_k (sym (own_thread x.log.thread x.step) ∙ ap thread_of (sym event_k) ∙ ap (λ s. thread_of (event_at all s)) (sym same_next) ∙ sym same))

          none_held : (lock_at t' lock).depth ≡ 0
          none_held = omega (arith, even, (stands'.locks lock below).held thread, depth_of_holder (lock_at t' lock) thread (sym holder))

      woken : IsWoken all spots l k → IsWokenBy w t' step k ⊎ ((slice_index t'.given l ≡ length next.log.steps.items) × IsListed w.threads thread k)
      woken (begun forks) =
          let step_is = fork_of thread (thread_of (event_at all (next_spot spots k))) step (ap forked_thread (sym event_l) ∙ forks) in
          let own = ap thread_of event_k ∙ own_thread x.log.thread x.step in
          inl (subst (λ s. IsWokenBy w t' s k) (sym (step_is ∙ ap Fork own)) ((knows k (slice_get_within n.logs.items k x.log x.at)).own x.log x.at))
      woken (known u forks joins) =
          let step_is = fork_of thread u step (ap forked_thread (sym event_l) ∙ forks) in
          let joins_it = join_of x.log.thread u x.step (ap joined_thread (sym event_k) ∙ joins) in
          inl (subst (λ s. IsWokenBy w t' s k) (sym step_is) (subst (KnowsStep w k) joins_it knows_k))
      woken (last joins used) =
          let own = ap thread_of event_l ∙ own_thread thread step in
          let joins_it = join_of x.log.thread thread x.step (ap joined_thread (sym event_k) ∙ joins ∙ ap Some own) in
          inr (used_up (subst (IsUsedUp all more) own used), subst (KnowsStep w k) joins_it knows_k)
      woken (freed lock gave takes) =
          let step_is = release_of thread lock step (ap hold_given (sym event_l) ∙ gave) in
          let acquires = acquire_of x.log.thread lock x.step (ap hold_taken (sym event_k) ∙ takes) in
          inl (subst (λ s. IsWokenBy w t' s k) (sym step_is)
          (subst (λ o. IfSome o (λ number. IsListed w.acquires (acquire_slot w lock number) k) × IsSome o) (sym (next_number lock step_is takes)) (subst (KnowsStep w k) acquires knows_k, refl)))

    pub turned : (new : ℕ → Bool) → ((k : ℕ) → k < l → may_give all spots k ≡ false) → IsTrue (ready l) → ((k : ℕ) → IsTrue (ready k) → IsTrue (new k)) → ((k : ℕ) → IsWokenBy w t' step k → IsTrue (new k))
        → (slice_index t'.given l ≡ length next.log.steps.items → (k : ℕ) → IsListed w.threads thread k → IsTrue (new k)) → IsTurning n more t' new
    turned new lower asked kept wakes left = record {
      placed = placed;
      rest = rest' lower;
      tables = stands';
      ready = λ k below. by k below (cases_eq k l);
    }
      where
        after_it : (k : ℕ) → k ≢ l → may_give all spots k ≡ false → (may_give all more k ≡ true) ⊎ (may_give all more k ≡ false) → IsTrue (new k) ⊎ (may_give all more k ≡ false)
        after_it k other fails (inr refused) = inr refused
        after_it k other fails (inl gives_now) =
            let after = (give_decides all (are_logs n) more (sound all more placed) k).0 gives_now in
            inl (elim (turn_of all (are_logs n) apart spots turning.placed l k may other after) [
              | inl before ↦ absurd (true≢false (sym ((give_decides all (are_logs n) spots is k).1 before) ∙ fails))
              | inr is_woken ↦ elim (woken k other after is_woken) [ inl wakes_it ↦ wakes k wakes_it | inr at_end ↦ left at_end.0 k at_end.1 ]
            ])

        by : (k : ℕ) → k < length n.logs.items → (k ≡ l) ⊎ (k ≢ l) → IsTrue (new k) ⊎ (may_give all more k ≡ false)
        by k below (inl same) = inl (kept k (subst (λ m. IsTrue (ready m)) (sym same) asked))
        by k below (inr other) = elim (turning.ready k below) [
          | inl was ↦ inl (kept k was)
          | inr fails ↦ after_it k other fails (cases_Bool (may_give all more k))
        ]

-- before the first turn
pub begins_turning : (n : NumberedLogs) (t : Tabled) (ready : ℕ → Bool) → StandsFor n [] t → ((l : ℕ) → l < length n.logs.items → IsTrue (ready l)) → IsTurning n [] t ready
unfolding woven_first
begins_turning n t ready stands all_ready = record { placed = none; rest = refl; tables = stands; ready = λ l inside. inl (all_ready l inside) }
