-- An access that is the next event.
use Rattle.std.proofs.Common.{◌≡◌, ◌<◌, ◌≤◌, ℕ, zero, suc, ◌+◌, ◌==◌, Bool, true, false, cond, List, [], ◌∷◌, ◌++◌, length, Option, Some, Result, Ok, IfOk, OnOk, refl, sym, ap, subst, ◌∙◌, arith}
use Rattle.std.specs.Prelude.{slice_get}
use Rattle.rd_base.specs.declared.memory.NoMemory.{NoMemory}
use Rattle.rd_check_command.proofs.CheckLemmas.{event_cost, event_last, event_next, event_threads}
use Rattle.rd_check_command.proofs.NamingLemmas.{all_named}
use Rattle.rd_check_command.specs.Checked.{event_numbers}
use Rattle.rd_check_command.specs.Checking.{IsNextLine as IsNextTracked}
use Rattle.rd_epoch.proofs.AccessLemmas.{call_fits}
use Rattle.rd_epoch.proofs.FewLemmas.{few_open}
use Rattle.rd_epoch.specs.Accesses.{access_method, variable_kinds}
use Rattle.rd_epoch.specs.Epochs.{EpochsStandFor, HeldAccesses, IsFirstTold, IsNextAccess, event_of_access, held_at}
use Rattle.rd_epoch.specs.Taking.{TakesAccess}
use Rattle.rd_epoch.specs.declared.epochs.First.{First}
use Rattle.rd_epochs_command.proofs.WatchLemmas.{all_rise, event_is, formed_with, line_of, told_now, variable_held}
use Rattle.rd_epochs_command.specs.Firsts.{accesses, epochs_bound}
use Rattle.rd_epochs_command.specs.Watching.{IsNextWatchedEvent, MayAccess, access_by, memory_kinds}
use Rattle.rd_epochs_command.specs.declared.watching.FirstRaces.{FirstRaces}
use Rattle.rd_event.specs.declared.events.Call.{Call as CallOf}
use Rattle.rd_event.specs.declared.events.Event.TheVariants as numbered
use Rattle.rd_event.specs.declared.events.Event.{Event as Numbered}
use Rattle.rd_event.specs.declared.items.Line.TheVariants.{Event}
use Rattle.rd_event.specs.declared.items.Line.{Line}
use Rattle.rd_event.specs.declared.items.LineEvent.TheVariants as spelled
use Rattle.rd_event.specs.declared.items.LineEvent.{LineEvent}
use Rattle.rd_hb.specs.Tracker.{IsNextEvent, IsStamp, Tracking, event_bound, last_stamp}
use Rattle.rd_order.proofs.OrderLemmas.{at_end}
use Rattle.rd_order.specs.EventLists.{WellFormedWith, threads_after}
use Rattle.rd_order.specs.Order.{thread_of}
use Rattle.rd_rules.specs.Events.{events_of, roots_of}
use Rattle.rd_rules.specs.MayFollow.{is_call, numbered_event, threads_of}
use Rattle.rd_rules.specs.declared.causes.Accepted.TheVariants as accepted
use Rattle.rd_walk.specs.Walk.{Entry, items, tracking_bound}

-- what a call says of its answer
if_ok : {T E : Type 0} (P : T → Type 0) (r : Result T E) (x : T) → r ≡ Ok x → IfOk r P → P x
if_ok P r x is said = subst (λ s. IfOk s P) is said

on_ok : {T E : Type 0} (P : Type 0) (r : Result T E) (x : T) → r ≡ Ok x → OnOk r P → P
on_ok P r x is said = subst (λ s. OnOk s P) is said

-- the number of a method of two, by whether it is a write
method_is : (m : ℕ) → m < 2 → access_method (m == 1) ≡ m
method_is zero below = refl
method_is (suc zero) below = refl
method_is (suc (suc m)) below = absurd (omega arith)

module _ (before : List Entry) (now : FirstRaces) (number : ℕ) (item : Line) (e : Numbered) (names : List (List ℕ)) (place : ℕ)
    (ready : IsNextWatchedEvent before now number item e names place) (call : CallOf) (called : e ≡ numbered.Call call) where
  abbrev entry : Entry
  entry = record { number = number; item = item }

  abbrev numbers : List ℕ
  numbers = event_numbers before

  abbrev es : List Numbered
  es = accesses before

  abbrev roots : ℕ → Bool
  roots = roots_of (items before)

  line : IsNextTracked memory_kinds now.tracker (items before) item (accepted.Event e)
  line = line_of before now entry (accepted.Event e) ready.line e refl

  at_call : slice_get (es ++ e ∷ []) (length es) ≡ Some (numbered.Call call)
  at_call = at_end es e ∙ ap Some called

  fits : (call.kind ≡ 0) × (call.method < 2)
  fits = call_fits roots (es ++ e ∷ []) (formed_with before now entry (accepted.Event e) ready.line e refl) (length es) call at_call

  module _ (tracker : Tracking) (count : length tracker.threads ≡ threads_after e (length now.tracker.threads)) where
    abbrev threads : ℕ
    threads = length (threads_of (items before ++ item ∷ []))

    same_count : length tracker.threads ≡ threads
    same_count = count ∙ sym (event_threads memory_kinds now.tracker (items before) item e line)

    pub thread_known : call.thread < length tracker.threads
    thread_known =
        let at : slice_get (events_of memory_kinds (items before ++ item ∷ [])) (length es) ≡ Some (numbered.Call call)
        = ap (λ all. slice_get all (length es)) (event_last memory_kinds now.tracker (items before) item e line) ∙ at_call in
        let named = (all_named variable_kinds (items before ++ item ∷ []) (told_now before now entry (accepted.Event e) ready.line) (length es) call at).thread in
        omega (arith, named, same_count)

    same_event : event_of_access (access_by number place call) (last_stamp tracker.threads call.thread) call.slots ≡ e
    same_event =
        (λ i. numbered.Call (let c : CallOf = record { thread = call.thread; object = call.object; kind = sym fits.0 i; method = method_is call.method fits.1 i; slots = call.slots } in c)) ∙ sym called

    module _ (stamped : (roots : ℕ → Bool) (es : List Numbered) → IsNextEvent now.tracker roots es e → IsStamp (es ++ e ∷ []) (length es) (last_stamp tracker.threads (thread_of e))) where
      stamp_is : IsStamp (es ++ e ∷ []) (length es) (last_stamp tracker.threads call.thread)
      stamp_is = subst (λ x. IsStamp (es ++ e ∷ []) (length es) (last_stamp tracker.threads (thread_of x))) called
          (stamped roots es (event_next memory_kinds now.tracker (items before) item e line))

      pub access_next : IsNextAccess now.epochs roots numbers es (access_by number place call) (last_stamp tracker.threads call.thread) call.slots
      access_next = record {
        stands = ready.line.watches.holds;
        at_end = ready.at_end;
        formed = subst (λ x. WellFormedWith memory_kinds roots (es ++ x ∷ [])) (sym same_event) (formed_with before now entry (accepted.Event e) ready.line e refl);
        stamped = subst (λ x. IsStamp (es ++ x ∷ []) (length es) (last_stamp tracker.threads call.thread)) (sym same_event) stamp_is;
        line = all_rise before now entry (accepted.Event e) ready.line e refl;
        numbered = let held = variable_held before now entry (accepted.Event e) ready.line e refl call called in omega (arith, held);
      }

      pub may_access : MayAccess now.epochs now.lessons (access_by number place call) (last_stamp tracker.threads call.thread)
      may_access = (roots, numbers, es, call.slots, access_next, ready.line.watches.lessons)

      module _ (held : List HeldAccesses) (result : Result (Option First) NoMemory) (middle after : ℕ)
          (takes : TakesAccess now.epochs held (access_by number place call) (last_stamp tracker.threads call.thread) result middle after) where
        pub access_answer : (answer : Option First) → result ≡ Ok answer → IsFirstTold (numbers ++ number ∷ []) (es ++ e ∷ []) (length es) call.object answer
        access_answer answer is =
            subst (λ (T : Type 0). T) (λ i. IsFirstTold (numbers ++ number ∷ []) (es ++ same_event i ∷ []) (ready.at_end i) call.object answer)
            (if_ok _ result answer is takes.answer roots numbers es call.slots access_next)

        pub access_held : (answer : Option First) → result ≡ Ok answer → EpochsStandFor held roots (numbers ++ number ∷ []) (es ++ e ∷ [])
        access_held answer is =
            subst (λ x. EpochsStandFor held roots (numbers ++ number ∷ []) (es ++ x ∷ [])) same_event (on_ok _ result answer is takes.stands roots numbers es call.slots access_next)

        -- the steps keep to the bound
        pub access_cost : (steps : ℕ) → middle ≤ steps + event_bound e (threads_after e (length now.tracker.threads)) → after ≤ steps + epochs_bound (items before) item
        access_cost steps tracked =
            let (event, is, same) = event_is before now entry (accepted.Event e) ready.line e refl in
            let open_reads : after ≤ middle + (2 + threads) = by (held_at now.epochs call.object).raced refl in
            let bound : tracking_bound (items before) item + (threads + 2) ≡ epochs_bound (items before) item
            = ap (λ b. tracking_bound (items before) item + cond b (threads + 2) 0) (sym (call_item event is same)) in
            omega (arith, tracked, event_cost memory_kinds now.tracker (items before) item e line, open_reads, bound)
          where
            call_item : (event : LineEvent) → item ≡ Event event → e ≡ numbered_event memory_kinds (items before) event → is_call item ≡ true
            call_item (spelled.Call thread object method slots) is same = ap is_call is
            call_item (spelled.Fork thread child) is same = (let e = sym called ∙ same in cc)
            call_item (spelled.Join thread child) is same = (let e = sym called ∙ same in cc)
            call_item (spelled.Acquire thread lock) is same = (let e = sym called ∙ same in cc)
            call_item (spelled.Release thread lock) is same = (let e = sym called ∙ same in cc)
            call_item (spelled.Share thread lock) is same = (let e = sym called ∙ same in cc)
            call_item (spelled.Unshare thread lock) is same = (let e = sym called ∙ same in cc)

            by : (raced : Bool) → (held_at now.epochs call.object).raced ≡ raced → after ≤ middle + (2 + threads)
            by true raced = let none = takes.raced raced in omega (arith, none)
            by false raced =
                let few = few_open now.epochs roots numbers es now.tracker call.object ready.line.watches.holds ready.line.watches.tracks.stands raced in
                let threads_kept : threads_after e (length now.tracker.threads) ≡ length now.tracker.threads = ap (λ x. threads_after x (length now.tracker.threads)) called in
                omega (arith, takes.cost, few, same_count, count, threads_kept)
