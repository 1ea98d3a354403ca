-- What the tables are before any event is placed.
use Rattle.std.proofs.Common.{◌≡◌, ℕ, zero, suc, ◌+◌, ◌==◌, nat_lt, Bool, false, not, ◌&&◌, ◌||◌, List, [], ◌∷◌, length, replicate, Some, refl, sym, ap, subst, ◌∙◌, arith}
use Rattle.std.specs.Prelude.{slice_get, slice_index, slice_index_or}
use Rattle.std.specs.List.{list_all, range_with_len}
use Rattle.std.proofs.lemmas.List.{length-map}
use Rattle.rd_order.specs.EventLists.{forks, givings, joins, takings}
use Rattle.rd_order.specs.Order.{exclusive}
use Rattle.rd_turns.specs.declared.logs.NumberedLogs.{NumberedLogs}
use Rattle.rd_turns.specs.declared.logs.ThreadSteps.{ThreadSteps}
use Rattle.rd_turns.specs.declared.tables.LockState.{LockState}
use Rattle.rd_turns.specs.declared.tables.ThreadState.{ThreadState}
use Rattle.rd_turns.specs.NumberedLogs.{logs_by_numbers, thread_log}
use Rattle.rd_turns.specs.Standing.{AreLeftOpen, AreWithout, IsLock, IsThread, StandsFor, is_without, no_lock}
use Rattle.rd_turns.proofs.NumberLemmas.{as_long, log_is}
use Rattle.rd_turns.proofs.TableLemmas.{depth_of_free, or_none}
use Rattle.rd_weavings.specs.Logs.{Logs, given, log_at}
use Rattle.rd_weavings.specs.WeaveTests.{is_used_up}

long : {X : Type 0} (n : ℕ) (x : X) → length (replicate n x) ≡ n
long zero x = refl
long (suc n) x = ap suc (long n x)

each_one : {X : Type 0} (n k : ℕ) (x : X) → slice_index_or (replicate n x) k x ≡ x
each_one zero k x = refl
each_one (suc n) zero x = refl
each_one (suc n) (suc k) x = each_one n k x

-- a test of each place
all_by_places : (f : ThreadSteps → Bool) (p : ℕ → Bool) (xs : List ThreadSteps) (a : ℕ) → ((k : ℕ) (x : ThreadSteps) → slice_get xs k ≡ Some x → p (a + k) ≡ f x)
    → list_all p (range_with_len a (length xs)) ≡ list_all f xs
all_by_places f p [] a same = refl
all_by_places f p (x ∷ xs) a same =
    ap (λ b. b && list_all p (range_with_len (a + 1) (length xs))) (let here : a ≡ a + 0 = omega arith in ap p here ∙ same 0 x refl)
    ∙ ap (λ b. f x && b) (all_by_places f p xs (a + 1) (λ k y at. let next : (a + 1) + k ≡ a + suc k = omega arith in ap p next ∙ same (suc k) y at))

none_forked : (u : ℕ) → forks [] u ≡ 0
unfolding forks
none_forked u = refl

none_joined : (u : ℕ) → joins [] u ≡ 0
unfolding joins
none_joined u = refl

none_taken : (u : ℕ) (h : _) → takings [] u h ≡ 0
unfolding takings
none_taken u h = refl

none_given : (u : ℕ) (h : _) → givings [] u h ≡ 0
unfolding givings
none_given u h = refl

module _ (n : NumberedLogs) where
  abbrev all : Logs
  all = logs_by_numbers n

  without_is : (u : ℕ) → is_used_up all [] u ≡ list_all (is_without u) n.logs.items
  without_is u =
      ap (λ k. list_all test (range_with_len 0 k)) (length-map n.logs.items thread_log)
      ∙ all_by_places (is_without u) test n.logs.items 0 (λ k x at.
      let here : 0 + k ≡ k = omega arith in
      ap test here ∙ ap (λ log. not (log.thread == u) || (0 == length log.events)) (log_is n k x at) ∙ ap (λ m. not (x.thread == u) || (0 == m)) (sym (ap (λ log. length log.events) (log_is n k x at)) ∙ as_long n k x at))
    where
      test : ℕ → Bool
      test l = not ((log_at all l).thread == u) || (given [] l == length (log_at all l).events)

  first_thread : (u : ℕ) → IsThread all [] u (record { known = slice_index_or n.roots.items u false; joined = false; ended = list_all (is_without u) n.logs.items })
  first_thread u = record {
    known = sym (ap (λ k. all.roots u || nat_lt 0 k) (none_forked u) ∙ or_none (all.roots u));
    running = sym (ap (λ (k : ℕ). k == 0) (none_joined u));
    ended = sym (without_is u);
  }

  first_lock : (lock : ℕ) → IsLock all [] lock no_lock
  first_lock lock = record {
    counted = refl;
    held = λ u. omega (arith, none_taken u (exclusive lock), none_given u (exclusive lock), depth_of_free no_lock u refl);
    few = omega arith;
  }

  pub first_stands : (given : List ℕ) (threads marked : List ThreadState) (locks : List LockState) → given ≡ replicate (length n.logs.items) 0 → AreWithout n.roots.items threads
      → AreLeftOpen n.logs.items threads marked → locks ≡ replicate n.locks no_lock → StandsFor n [] (record { given = given; threads = marked; locks = locks })
  first_stands given threads marked locks zeros without marks free = record {
    logs = ap length zeros ∙ long (length n.logs.items) 0;
    given = λ l. ap (λ xs. slice_index xs l) zeros ∙ each_one (length n.logs.items) l 0;
    thread_count = marks.count ∙ without.count;
    threads = λ u inside.
        let value = marks.each u (omega (arith, inside, without.count))
        ∙ ap (λ (x : ThreadState). record { known = x.known; joined = x.joined; ended = x.ended && list_all (is_without u) n.logs.items }) (without.each u inside) in
        subst (IsThread all [] u) (sym value) (first_thread u);
    lock_count = ap length free ∙ long n.locks no_lock;
    locks = λ lock inside. subst (IsLock all [] lock) (sym (ap (λ xs. slice_index_or xs lock no_lock) free ∙ each_one n.locks lock no_lock)) (first_lock lock);
  }
