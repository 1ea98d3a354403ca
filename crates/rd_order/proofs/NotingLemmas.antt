-- What is noted, with one event more in front.
use Rattle.std.proofs.Common.{◌≡◌, ◌≤◌, ◌+◌, ◌==◌, ℕ, false, cond, List, Option, Some, None, slice_get, arith, inl, inr, sym, ◌∙◌, ap, subst}
use Rattle.std.specs.Option.{option_or}
use Rattle.std.proofs.lemmas.Bool.{cases_eq, eq-eqb, ne_eqb}
use Rattle.std.proofs.lemmas.Option.{none-some, same_Some}
use Rattle.rd_event.specs.declared.events.Event.{Event}
use Rattle.rd_order.specs.Order.{Hold, exclusive, shared, hold_taken, joined_thread, thread_of}
use Rattle.rd_order.specs.Paths.{Comes}
use Rattle.rd_order.proofs.OrderLemmas.{reaches_rises}
use Rattle.rd_order.specs.declared.steps.Notes.{Notes}
use Rattle.rd_order.specs.Noting.{AreNoted, IsLastFrom, MeetsThread, TakesOn, acquire_noted, exclusive_in, kept_at, kept_if, share_noted, shared_in, thread_noted}
use Rattle.rd_order.proofs.LastLemmas.{at_other, at_same, if_again, if_more, last_kept, last_stays}

-- ---- what the code writes

-- where nothing was noted at the key, and where something was
pub kept_new : (old now : ℕ → Option ℕ) (key place : ℕ) → old key ≡ None → now key ≡ Some place → ((q : ℕ) → (key == q) ≡ false → now q ≡ old q)
    → (q : ℕ) → now q ≡ kept_at old key place q
kept_new old now key place none here others q = elim (cases_eq key q) [
  | inl same ↦ subst (λ k. now k ≡ Some place) same here
      ∙ sym (ap (λ b. cond b (option_or (old q) (Some place)) (old q)) (eq-eqb key q same) ∙ ap (λ o. option_or o (Some place)) (subst (λ k. old k ≡ None) same none))
  | inr apart ↦ others q (ne_eqb key q apart) ∙ sym (at_other old key place q apart)
]

pub kept_there : (old : ℕ → Option ℕ) (key place w : ℕ) → old key ≡ Some w → (q : ℕ) → old q ≡ kept_at old key place q
kept_there old key place w there q = elim (cases_eq key q) [
  | inl same ↦ (let is : old q ≡ Some w = subst (λ k. old k ≡ Some w) same there in
      is ∙ sym (ap (λ b. cond b (option_or (old q) (Some place)) (old q)) (eq-eqb key q same) ∙ ap (λ o. option_or o (Some place)) is))
  | inr apart ↦ sym (at_other old key place q apart)
]

-- ---- which events are noted

event_is : (es : List Event) (n : ℕ) (e d : Event) → slice_get es n ≡ Some e → slice_get es n ≡ Some d → d ≡ e
event_is es n e d at also = same_Some d e (sym also ∙ at)

-- of its thread and of the one that it joins
thread_more : (es : List Event) (j n : ℕ) (e : Event) (known : ℕ → Option ℕ) → slice_get es n ≡ Some e → Comes es j n → ((t : ℕ) → IsLastFrom (MeetsThread es j t) (n + 1) (known t))
    → (t : ℕ) → IsLastFrom (MeetsThread es j t) n (kept_if (kept_at known (thread_of e) n) (joined_thread e) n t)
thread_more es j n e known at comes noted t = elim (cases_eq (thread_of e) t) [
  | inl same ↦ (let here : MeetsThread es j t n = (comes, (e, at, inl same)) in
      if_again (MeetsThread es j t) (kept_at known (thread_of e) n) (joined_thread e) n t here
      (at_same (MeetsThread es j t) known (thread_of e) n t same (last_kept (MeetsThread es j t) n (known t) here (noted t))))
  | inr apart ↦ if_more (MeetsThread es j t) (kept_at known (thread_of e) n) (joined_thread e) n t
      (λ joins. (comes, (e, at, inr joins)))
      (λ no_join has. elim has.1.2 [
        | inl same ↦ apart (sym (ap thread_of (event_is es n e has.1.0 at has.1.1)) ∙ same)
        | inr joins ↦ no_join (sym (ap joined_thread (event_is es n e has.1.0 at has.1.1)) ∙ joins)
      ])
      (subst (IsLastFrom (MeetsThread es j t) (n + 1)) (sym (at_other known (thread_of e) n t apart)) (noted t))
]

exclusive_taken : (o : Option Hold) (lock : ℕ) → exclusive_in o ≡ Some lock → o ≡ Some (exclusive lock)
exclusive_taken None lock is = absurd (none-some lock is)
exclusive_taken (Some (exclusive taken)) lock is = ap (λ l. Some (exclusive l)) (same_Some taken lock is)
exclusive_taken (Some (shared taken)) lock is = absurd (none-some lock is)

shared_taken : (o : Option Hold) (lock : ℕ) → shared_in o ≡ Some lock → o ≡ Some (shared lock)
shared_taken None lock is = absurd (none-some lock is)
shared_taken (Some (exclusive taken)) lock is = absurd (none-some lock is)
shared_taken (Some (shared taken)) lock is = ap (λ l. Some (shared l)) (same_Some taken lock is)

-- behind an event that comes to j
pub noted_more : (es : List Event) (j n : ℕ) (e : Event) → slice_get es n ≡ Some e → Comes es j n → (old new : Notes) → AreNoted es j (n + 1) old
    → ((t : ℕ) → thread_noted new t ≡ kept_if (kept_at (thread_noted old) (thread_of e) n) (joined_thread e) n t)
    → ((lock : ℕ) → acquire_noted new lock ≡ kept_if (acquire_noted old) (exclusive_in (hold_taken e)) n lock)
    → ((lock : ℕ) → share_noted new lock ≡ kept_if (share_noted old) (shared_in (hold_taken e)) n lock) → AreNoted es j n new
noted_more es j n e at comes old new noted by_threads by_acquires by_shares = record {
  threads_are = λ t. subst (IsLastFrom (MeetsThread es j t) n) (sym (by_threads t)) (thread_more es j n e (thread_noted old) at comes noted.threads_are t);
  acquires_are = λ lock. subst (IsLastFrom (TakesOn es j (exclusive lock)) n) (sym (by_acquires lock))
      (if_more (TakesOn es j (exclusive lock)) (acquire_noted old) (exclusive_in (hold_taken e)) n lock (λ is. (comes, (e, at, exclusive_taken (hold_taken e) lock is)))
      (λ other has. other (ap exclusive_in (sym (ap hold_taken (event_is es n e has.1.0 at has.1.1)) ∙ has.1.2))) (noted.acquires_are lock));
  shares_are = λ lock. subst (IsLastFrom (TakesOn es j (shared lock)) n) (sym (by_shares lock))
      (if_more (TakesOn es j (shared lock)) (share_noted old) (shared_in (hold_taken e)) n lock (λ is. (comes, (e, at, shared_taken (hold_taken e) lock is)))
      (λ other has. other (ap shared_in (sym (ap hold_taken (event_is es n e has.1.0 at has.1.1)) ∙ has.1.2))) (noted.shares_are lock));
}

-- behind one that doesn't
pub noted_still : (es : List Event) (j n : ℕ) (notes : Notes) → ¬ (Comes es j n) → AreNoted es j (n + 1) notes → AreNoted es j n notes
noted_still es j n notes lacks noted = record {
  threads_are = λ t. last_stays (MeetsThread es j t) n (thread_noted notes t) (λ has. lacks has.0) (noted.threads_are t);
  acquires_are = λ lock. last_stays (TakesOn es j (exclusive lock)) n (acquire_noted notes lock) (λ has. lacks has.0) (noted.acquires_are lock);
  shares_are = λ lock. last_stays (TakesOn es j (shared lock)) n (share_noted notes lock) (λ has. lacks has.0) (noted.shares_are lock);
}

none_behind : (es : List Event) (j k : ℕ) → j + 1 ≤ k → ¬ (Comes es j k)
none_behind es j k least (inl same) = omega arith
none_behind es j k least (inr reaches) = omega (arith, least, reaches_rises es k j reaches)

-- behind j nothing is noted
pub nothing_noted : (es : List Event) (j : ℕ) (notes : Notes) → ((t : ℕ) → thread_noted notes t ≡ None) → ((lock : ℕ) → acquire_noted notes lock ≡ None)
    → ((lock : ℕ) → share_noted notes lock ≡ None) → AreNoted es j (j + 1) notes
nothing_noted es j notes no_thread no_acquire no_share = record {
  threads_are = λ t. subst (IsLastFrom (MeetsThread es j t) (j + 1)) (sym (no_thread t)) (λ k least has. none_behind es j k least has.0);
  acquires_are = λ lock. subst (IsLastFrom (TakesOn es j (exclusive lock)) (j + 1)) (sym (no_acquire lock)) (λ k least has. none_behind es j k least has.0);
  shares_are = λ lock. subst (IsLastFrom (TakesOn es j (shared lock)) (j + 1)) (sym (no_share lock)) (λ k least has. none_behind es j k least has.0);
}
