-- A thread that learnt nothing since its own read has heard of no other since.
use Rattle.std.proofs.Common.{◌≡◌, ◌⊎◌, inl, inr, ℕ, zero, suc, ◌+◌, ◌<◌, ◌≤◌, Bool, false, List, [], ◌∷◌, ◌++◌, length, get_or, Some, sym, ap, subst, ◌∙◌, arith}
use Rattle.std.specs.Prelude.{slice_get}
use Rattle.std.proofs.lemmas.Bool.{cases_eq, cases_lt}
use Rattle.std.proofs.lemmas.Option.{slice_get-get_or, slice_get_within}
use Rattle.rd_base.specs.declared.values.Value.{Value}
use Rattle.rd_clock.specs.declared.clock.Stamp.{Stamp}
use Rattle.rd_event.specs.declared.events.Event.{Event}
use Rattle.rd_hb.proofs.ClockLemmas.{is_of_longer, own_reaches}
use Rattle.rd_order.specs.Order.{Edge, IsOf, Linked, Reaches, begins, ends, forked_thread, hands_over, same_thread, spans, thread_of}
use Rattle.rd_order.proofs.OrderLemmas.{edge_reaches, reaches_joined, reaches_last, reaches_shorter}
use Rattle.rd_epoch.specs.EpochParts.{AreStill}
use Rattle.rd_epoch.specs.Epochs.{HeldAccesses, HoldsOf, IsEpoch, IsNextAccess, IsQuiet, event_of_access, held_at}
use Rattle.rd_epoch.specs.Lessons.{HasLearntBy, Teaches, by_beginning, by_joining, by_taking}
use Rattle.rd_epoch.specs.declared.epochs.Access.{Access}
use Rattle.rd_epoch.specs.declared.kept.Epoch.{Epoch}
use Rattle.rd_epoch.proofs.AccessLemmas.{at_more, same_at}
use Rattle.rd_epoch.proofs.EpochLemmas.{holds_before, this_epoch, told}
use Rattle.rd_epoch.proofs.LessonLemmas.{no_lesson_of_call}
use Rattle.rd_epoch.proofs.LineLemmas.{none_in}

-- what reaches a thread behind an event of its own, where nothing teaches it in between, reaches that event
module _ (es : List Event) (t i : ℕ) (of_i : IsOf es t i) (untaught : (p : ℕ) (e : Event) → i < p → slice_get es p ≡ Some e → ¬ (Teaches e t)) where
  pub heard_before : (fuel j k : ℕ) → j ≤ i + fuel → i < j → IsOf es t j → ¬ (IsOf es t k) → Reaches es k j → Reaches es k i
  heard_before zero j k few later of_j other reach = absurd (omega arith)
  heard_before (suc fuel) j k few later of_j other reach = by (λ m less behind of_m way. heard_before fuel m k less behind of_m other way) last.2.linked
    where
      last : (m : ℕ) × ((k ≡ m) ⊎ Reaches es k m) × Edge es m j
      last = reaches_last es k j reach

      m : ℕ
      m = last.0

      is_b : thread_of last.2.b ≡ t
      is_b = ap thread_of (same_at (slice_get es j) last.2.b of_j.0 last.2.at_j of_j.1) ∙ of_j.2

      -- from an earlier place that is linked to the thread
      further : m < i → Linked last.2.a of_i.0 → Reaches es k i
      further early link =
          let step = edge_reaches es m i (record { rises = early; a = last.2.a; b = of_i.0; at_i = last.2.at_i; at_j = of_i.1; linked = link }) in
          elim last.1 [ inl same ↦ subst (λ p. Reaches es p i) (sym same) step | inr way ↦ reaches_joined es k m i way step ]

      by : ((m : ℕ) → m ≤ i + fuel → i < m → IsOf es t m → Reaches es k m → Reaches es k i) → Linked last.2.a last.2.b → Reaches es k i
      by again (same_thread same) =
          let of_m : IsOf es t m = (last.2.a, last.2.at_i, same ∙ is_b) in
          elim (cases_lt m i) [
            | inl early ↦ further early (same_thread (of_m.2 ∙ sym of_i.2))
            | inr late ↦ elim last.1 [
              | inl same_place ↦ absurd (other (subst (IsOf es t) (sym same_place) of_m))
              | inr way ↦ elim (cases_eq m i) [
                | inl here ↦ subst (Reaches es k) here way
                | inr apart ↦ again m (let rises = last.2.rises in omega arith) (omega (arith, late, apart)) of_m way
              ]
            ]
          ]
      by again (begins forks) =
          let forked : forked_thread last.2.a ≡ Some t = forks ∙ ap Some is_b in
          elim (cases_lt m i) [
            | inl early ↦ further early (begins (forked ∙ ap Some (sym of_i.2)))
            | inr late ↦ elim (cases_eq m i) [
              | inl here ↦ elim last.1 [
                | inl same_place ↦ absurd (other (subst (IsOf es t) (sym (same_place ∙ here)) of_i))
                | inr way ↦ subst (Reaches es k) here way
              ]
              | inr apart ↦ absurd (untaught m last.2.a (omega (arith, late, apart)) last.2.at_i (by_beginning forked))
            ]
          ]
      by again (ends joins) = absurd (untaught j last.2.b later last.2.at_j (by_joining _ is_b joins))
      by again (spans thread forks joins) = absurd (untaught j last.2.b later last.2.at_j (by_joining thread is_b joins))
      by again (hands_over hold taken gives takes against) = absurd (untaught j last.2.b later last.2.at_j (by_taking taken is_b takes))

module _ (held : List HeldAccesses) (roots : ℕ → Bool) (lines : List ℕ) (es : List Event) (access : Access) (stamp : Stamp) (slots : List Value)
    (next : IsNextAccess held roots lines es access stamp slots) (learnt : ℕ) (has : HasLearntBy lines es stamp.thread learnt) where
  abbrev e : Event
  e = event_of_access access stamp slots

  abbrev now : List Event
  now = es ++ e ∷ []

  abbrev n : ℕ
  n = length es

  abbrev this : Epoch
  this = record { thread = stamp.thread; number = stamp.number; line = access.line }

  -- behind a read of the thread on a later line nothing teaches it
  untaught : (i : ℕ) (own : Epoch) → IsEpoch lines es i own → learnt < own.line → (p : ℕ) (x : Event) → i < p → slice_get now p ≡ Some x → ¬ (Teaches x stamp.thread)
  untaught i own is since p x later at taught = elim (at_more es e x p at) [
    | inl early ↦
        let at_p : slice_get lines p ≡ Some (get_or lines p 0) = slice_get-get_or lines p 0 (omega (arith, early.0, next.stands.lengths)) in
        let rises = next.stands.rising i p own.line (get_or lines p 0) later is.line at_p in
        let below = has p x (get_or lines p 0) early.1 taught at_p in
        omega (arith, since, rises, below)
    | inr last ↦ no_lesson_of_call _ stamp.thread (subst (λ y. Teaches y stamp.thread) last.1 taught)
  ]

  pub still : (held_at held access.variable).raced ≡ false → AreStill stamp.clock learnt this (held_at held access.variable).reads
  still quiet_is = record {
    one_each = quiet.reads.one_each;
    own = λ one kept same.
        let is = quiet.reads.only one kept in
        (told held roots lines es access stamp slots next is.0 one is.2).1 (own_reaches now one.thread is.0 n (inside is.0 one is.2) (is_of_longer es (e ∷ []) one.thread is.0 is.2.thread)
        (subst (λ t. IsOf now t n) (sym same) this_is.thread));
    others = λ one kept same since other also apart heard.
        let is = quiet.reads.only one kept in
        let that = quiet.reads.only other also in
        let of_that = is_of_longer es (e ∷ []) other.thread that.0 that.2.thread in
        let reaches = heard_before now stamp.thread is.0 (subst (λ t. IsOf now t is.0) same (is_of_longer es (e ∷ []) one.thread is.0 is.2.thread)) (untaught is.0 one is.2 since) n n that.0
        (omega arith) (inside is.0 one is.2) this_is.thread
        (λ of. apart (sym of_that.2 ∙ ap thread_of (same_at (slice_get now that.0) of_that.0 of.0 of_that.1 of.1) ∙ of.2))
        ((told held roots lines es access stamp slots next that.0 other that.2).0 heard) in
        that.1.none false is.0 is.1.read (reaches_shorter es (e ∷ []) that.0 is.0 (inside is.0 one is.2) reaches);
  }
    where
      quiet : IsQuiet lines es access.variable (held_at held access.variable)
      quiet = subst (HoldsOf lines es access.variable (held_at held access.variable)) quiet_is (holds_before held roots lines es access stamp slots next)

      this_is : IsEpoch (lines ++ access.line ∷ []) now n this
      this_is = this_epoch held roots lines es access stamp slots next

      inside : (k : ℕ) (epoch : Epoch) → IsEpoch lines es k epoch → k < n
      inside k epoch is = slice_get_within es k is.thread.0 is.thread.1

-- of no reads this is so
pub still_none : (clock : List ℕ) (learnt : ℕ) (now : Epoch) → AreStill clock learnt now []
still_none clock learnt now = record {
  one_each = λ i j d less inside. absurd (omega arith);
  own = λ one kept same. none_in one kept;
  others = λ one kept same since. none_in one kept;
}
