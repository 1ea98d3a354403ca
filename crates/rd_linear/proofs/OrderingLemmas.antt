-- A turn, by the lanes.
use Rattle.std.proofs.Common.{◌≡◌, ◌<◌, ◌≤◌, ◌+◌, ◌-◌, ◌/◌, ◌%◌, ◌++◌, ℕ, zero, suc, Bool, true, false, cond, List, [], ◌∷◌, Option, Some, None, length, slice_get, filter_map, arith, refl, sym, ◌∙◌, ap, subst, length-append}
use Rattle.std.specs.Prelude.{IsSome, IfNone, replicate, slice_index_or, slice_set}
use Rattle.std.proofs.lemmas.List.{length-replicate}
use Rattle.std.proofs.lemmas.Option.{none-some, same_Some}
use Rattle.rd_event.specs.declared.events.Event.{Event}
use Rattle.rd_order.specs.Order.{Reaches}
use Rattle.rd_order.specs.OrderTests.{reaches}
use Rattle.rd_order.proofs.OrderLemmas.{reaches_decides}
use Rattle.rd_linear.specs.declared.lanes.Lane.{Lane}
use Rattle.rd_linear.specs.declared.waits.Waits.{Waits}
use Rattle.rd_linear.specs.Lanes.{AreLanes, AreTurning, HaveThreads, AreThreadsRising, are_over, order_by, ready_in, thread_at, threads_in}
use Rattle.rd_linear.specs.Linear.{Marks, Placed, Stands}
use Rattle.rd_linear.specs.Orders.{IsLinear}
use Rattle.rd_linear.specs.Noting.{HaveWaits}
use Rattle.rd_linear.specs.Turns.{keep_if, choices, turns}
use Rattle.rd_linear.proofs.LaneLemmas.{choices_same, lanes_more, ready_same, threads_kept}
use Rattle.rd_linear.proofs.LinearLemmas.{marks_next, no_marks}
use Rattle.rd_linear.proofs.Placing.{placed_more, placed_none}
use Rattle.rd_linear.proofs.TurnLemmas.{some_ready, ready_is, turns_linear}

-- what is kept is the same, and passes
kept_if : (f : ℕ → Bool) (o : Option ℕ) (p : ℕ) → keep_if f o ≡ Some p → o ≡ Some p
kept_if f None p is = absurd (none-some p is)
kept_if f (Some q) p is = go (f q) is
  where
    go : (b : Bool) → cond b (Some q) None ≡ Some p → Some q ≡ Some p
    go true e = e
    go false e = absurd (none-some p e)

index_is : (xs : List ℕ) (i p : ℕ) → slice_get xs i ≡ Some p → slice_index_or xs i 0 ≡ p
index_is [] i p is = absurd (none-some p is)
index_is (x ∷ xs) zero p is = same_Some x p is
index_is (x ∷ xs) (suc i) p is = index_is xs i p is

module _ (es : List Event) (number turn : ℕ) (threads : List ℕ) (have_threads : HaveThreads es threads) (waits : Waits) (have : HaveWaits es waits)
    (lanes : List Lane) (seen : List Bool) (places : List ℕ) (left : ℕ) (state : AreTurning es number turn threads lanes seen places left) (more : turn < length es) where
  abbrev readies : List ℕ
  readies = filter_map (ready_in waits seen) lanes

  are_choices : readies ≡ choices (length es) (thread_at es) (reaches es) threads places
  are_choices = choices_same es (reaches es) (reaches_decides es) places state.placed seen state.marks waits have lanes state.lanes_are
      ∙ ap (λ ts. choices (length es) (thread_at es) (reaches es) ts places) state.one_each

  pub some_choice : 0 < length readies
  some_choice = subst (λ l. 0 < length l) (sym are_choices)
      (some_ready es (thread_at es) (reaches es) threads (reaches_decides es) have_threads.all places state.placed (omega (arith, state.given, more)))

  pub found_place : (lane : Lane) (p : ℕ) → ready_in waits seen lane ≡ Some p → slice_get lane.places.items lane.given ≡ Some p
  unfolding ready_in
  found_place lane p is = kept_if (are_over waits seen) (slice_get lane.places.items lane.given) p is

  pub found_ready : (i : ℕ) (lane : Lane) (p : ℕ) → slice_get lanes i ≡ Some lane → ready_in waits seen lane ≡ Some p → (p < length es) × (¬ (Stands places p)) × ((k : ℕ) → Reaches es k p → Stands places k)
  found_ready i lane p at is =
      ready_is es (thread_at es) (reaches es) threads (reaches_decides es) have_threads.all places lane.thread p
      (sym (ready_same es (reaches es) (reaches_decides es) places state.placed seen state.marks waits have lane (state.lanes_are i lane at)) ∙ is)

  pub turn_taken : (i p : ℕ) (lane next : Lane) → slice_get lanes i ≡ Some lane → ready_in waits seen lane ≡ Some p → slice_get readies (left % length readies) ≡ Some p
      → next.thread ≡ lane.thread → next.places.items ≡ lane.places.items → next.given ≡ lane.given + 1 → length (slice_set seen p true) ≡ length seen
      → AreTurning es number (turn + 1) threads (slice_set lanes i next) (slice_set seen p true) (places ++ p ∷ []) (left / length readies)
  turn_taken i p lane next at is picked thread items given seen_length =
      let ready = found_ready i lane p at is in
      record {
        placed = placed_more es places p state.placed ready.0 ready.1 ready.2;
        marks = marks_next seen (length es) p places state.marks ready.0 seen_length;
        lanes_are = lanes_more es places lanes i p lane next state.lanes_are (subst AreThreadsRising (sym state.one_each) have_threads.rising) at (found_place lane p is) thread items given;
        one_each = threads_kept lanes i lane next at thread ∙ state.one_each;
        given = omega (arith, length-append places (p ∷ []), state.given);
        rest = state.rest ∙ step;
      }
    where
      taken : (n : ℕ) (cs : List ℕ) → readies ≡ cs → turns (length es) (thread_at es) (reaches es) threads n (left / length cs) (places ++ slice_index_or cs (left % length cs) 0 ∷ [])
          ≡ turns (length es) (thread_at es) (reaches es) threads n (left / length readies) (places ++ p ∷ [])
      taken n cs same = ap (λ l. turns (length es) (thread_at es) (reaches es) threads n (left / length l) (places ++ slice_index_or l (left % length l) 0 ∷ [])) (sym same)
          ∙ ap (λ q. turns (length es) (thread_at es) (reaches es) threads n (left / length readies) (places ++ q ∷ [])) (index_is readies (left % length readies) p picked)

      step : turns (length es) (thread_at es) (reaches es) threads (length es - turn) left places
          ≡ turns (length es) (thread_at es) (reaches es) threads (length es - (turn + 1)) (left / length readies) (places ++ p ∷ [])
      step = ap (λ n. turns (length es) (thread_at es) (reaches es) threads n left places) (let e : length es - turn ≡ suc (length es - (turn + 1)) = omega (arith, more) in e)
          ∙ taken (length es - (turn + 1)) (choices (length es) (thread_at es) (reaches es) threads places) are_choices

pub turning_starts : (es : List Event) (threads : List ℕ) (number : ℕ) (lanes : List Lane) (seen : List Bool) (places : List ℕ) → places ≡ [] → seen ≡ replicate (length es) false
    → AreLanes es [] lanes → threads_in lanes ≡ threads → AreTurning es number 0 threads lanes seen places number
unfolding order_by
turning_starts es threads number lanes seen places none unmarked lanes_are one_each = record {
  placed = subst (Placed es) (sym none) (placed_none es);
  marks = subst (λ s. Marks s (length es) places) (sym unmarked) (subst (Marks (replicate (length es) false) (length es)) (sym none) (no_marks (length es) (length-replicate (length es) false)));
  lanes_are = subst (λ ps. AreLanes es ps lanes) (sym none) lanes_are;
  one_each = one_each;
  given = ap length none;
  rest = ap (λ ps. turns (length es) (thread_at es) (reaches es) threads (length es) number ps) (sym none)
      ∙ ap (λ n. turns (length es) (thread_at es) (reaches es) threads n number places) all_left;
}
  where
    all_left : length es ≡ length es - 0
    all_left = omega arith

pub turning_ends : (es : List Event) (number turn left : ℕ) (threads : List ℕ) (lanes : List Lane) (seen : List Bool) (places : List ℕ) → length es ≤ turn
    → AreTurning es number turn threads lanes seen places left → places ≡ order_by es threads number
turning_ends es number turn left threads lanes seen places past state =
    sym (state.rest ∙ ap (λ n. turns (length es) (thread_at es) (reaches es) threads n left places) none_left)
  where
    none_left : length es - turn ≡ 0
    none_left = omega (arith, past)

pub some_if : {X : Type 0} (o : Option X) (n : ℕ) → IfNone o (n ≡ 0) → 0 < n → IsSome o
some_if (Some x) n none some = refl
some_if None n none some = absurd (omega (arith, none, some))

pub order_linear : (es : List Event) (threads : List ℕ) (number : ℕ) → HaveThreads es threads → IsLinear es (order_by es threads number)
unfolding order_by
order_linear es threads number have = turns_linear es (thread_at es) (reaches es) threads (reaches_decides es) have.all number
