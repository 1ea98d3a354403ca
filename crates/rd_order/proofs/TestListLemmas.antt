-- Lists of events for tests: they have few threads.
use Rattle.std.proofs.Common.{◌≡◌, ℕ, ◌+◌, ◌<◌, ◌≤◌, inl, inr, Bool, true, false, IsTrue, cond, List, [], ◌∷◌, length, ap, arith}
use Rattle.std.specs.Prelude.{is_some}
use Rattle.std.proofs.lemmas.Bool.{cases_Bool}
use Rattle.std.proofs.lemmas.Bool.Decides.{nat_tests}
use Rattle.std.proofs.lemmas.List.Sums.{sum_by-cons}
use Rattle.rd_event.specs.declared.events.Call.{Call as CallOf}
use Rattle.rd_event.specs.declared.events.Event.{Event}
use Rattle.rd_order.proofs.CountsLemmas.{counts_below}
use Rattle.rd_order.proofs.OrderLemmas.{this_decides}
use Rattle.rd_order.specs.Order.{forked_thread}
use Rattle.rd_order.specs.OrderTests.{is_this}
use Rattle.rd_order.specs.EventLists.{forks, IsBounded, IsKnownThread, threads_after}
use Rattle.rd_order.specs.TestLists.{one_root, two_roots, NextNumbers}

-- ---- bounds

one_more : (b : Bool) (n : ℕ) → cond b (n + 1) n ≤ n + 1
one_more true n = omega arith
one_more false n = omega arith

-- the threads that are forked have numbers below that of all threads and events
begun_below : (threads : ℕ) (es : List Event) (t : ℕ) → NextNumbers threads es → 0 < forks es t → t < threads + length es
unfolding forks
begun_below threads [] t numbered some = absurd (omega (arith, some))
begun_below threads (e ∷ es) t numbered some = elim (cases_Bool (is_this (forked_thread e) t)) [
  | inl this ↦ (let is : t ≡ threads = numbered.0 t ((this_decides (forked_thread e) t).0 this) in omega (arith, is))
  | inr other ↦
      (let less : 0 < forks es t = omega (arith, some, sum_by-cons (λ y. cond (is_this (forked_thread y) t) 1 0) e es, ap {B = ℕ} (λ b. cond b 1 0) other) in
      omega (arith, begun_below (threads_after e threads) es t numbered.1 less, one_more (is_some (forked_thread e)) threads))
]

-- so there are few
pub few_by_numbers : (roots : ℕ → Bool) (threads : ℕ) (es : List Event) → ((t : ℕ) → IsTrue (roots t) → t < threads) → NextNumbers threads es
    → threads + length es ≤ 4294967294 → IsBounded roots es
few_by_numbers roots threads es below numbered few = record {
  few_events = omega (arith, few);
  few_threads = λ n c a. omega (arith, few, counts_below (IsKnownThread roots es) (threads + length es) n c each a);
}
  where
    each : (t : ℕ) → IsKnownThread roots es t → t < threads + length es
    each t (inl root) = omega (arith, below t root)
    each t (inr begun) = begun_below threads es t numbered begun

pub one_below : (t : ℕ) → IsTrue (one_root t) → t < 1
one_below t root = grind (arith, nat_tests)

pub two_below : (t : ℕ) → IsTrue (two_roots t) → t < 2
two_below t root = grind (arith, nat_tests)

-- ---- new threads

-- the call that a sample is
abbrev pub numbered_call : ℕ → CallOf
numbered_call thread = record { thread = thread; object = thread; kind = 0; method = 0; slots = [] }

pub new_to_one : (before : List Event) (t : ℕ) → 0 < t → forks before t ≡ 0 → ¬ (IsKnownThread one_root before t)
new_to_one before t other none (inl root) = grind (arith, nat_tests)
new_to_one before t other none (inr begun) = omega arith

pub new_to_two : (before : List Event) (t : ℕ) → 1 < t → forks before t ≡ 0 → ¬ (IsKnownThread two_roots before t)
new_to_two before t other none (inl root) = grind (arith, nat_tests)
new_to_two before t other none (inr begun) = omega arith
