-- The tables stand for what is placed, also when a step more is placed.
use Rattle.std.proofs.Common.{◌≡◌, ◌≢◌, ◌⊎◌, inl, inr, ℕ, zero, suc, ◌+◌, ◌-◌, ◌<◌, ◌≤◌, ◌==◌, nat_lt, Bool, true, false, not, ◌&&◌, ◌||◌, cond, if◌then◌else◌, List, [], ◌∷◌, ◌++◌, length, length-set, Decides, refl, sym, ap, subst, ◌∙◌, arith}
use Rattle.std.specs.Prelude.{slice_index_or}
use Rattle.std.specs.List.{list_all, range_with_len}
use Rattle.std.proofs.lemmas.Bool.{and_from, and_left, and_right, cases_eq, or_left, or_right, eq-eqb, eqb-true, ne_eqb, or_cases, true≢false}
use Rattle.std.proofs.lemmas.Bool.Decides.{Decides-eqb, Decides-ltb, Decides-or, Decides-not}
use Rattle.std.proofs.lemmas.List.{get_or-set_other, get_or-set_same}
use Rattle.rd_event.specs.declared.events.Event.{Event}
use Rattle.rd_event.specs.declared.events.Event.TheVariants as event
use Rattle.rd_order.specs.EventLists.{forks, givings, is_hold, joins, takings}
use Rattle.rd_order.specs.Order.{Hold, exclusive, forked_thread, hold_given, hold_taken, joined_thread, thread_of}
use Rattle.rd_order.specs.OrderTests.{is_this}
use Rattle.rd_turns.specs.declared.logs.NumberedLogs.{NumberedLogs}
use Rattle.rd_turns.specs.declared.logs.Step.{Step}
use Rattle.rd_turns.specs.declared.logs.Step.TheVariants.{Fork, Join, Acquire, Release, Call}
use Rattle.rd_turns.specs.declared.tables.LockState.{LockState}
use Rattle.rd_turns.specs.declared.tables.ThreadState.{ThreadState}
use Rattle.rd_turns.specs.NumberedLogs.{step_event}
use Rattle.rd_turns.specs.Standing.{IsLock, held_depth, is_free_by, locks_behind, no_lock, no_state, threads_behind, threads_left}
use Rattle.rd_weavings.specs.declared.spots.Spot.{Spot}
use Rattle.rd_weavings.specs.Logs.{Logs, acquires_of, event_at, given, log_at, next_spot, woven}
use Rattle.rd_weavings.specs.Weavings.{HaveOwnThreads}
use Rattle.rd_weavings.specs.WeaveTests.{is_known, is_used_up}
use Rattle.rd_weavings.proofs.PlacingLemmas.{given_other}
use Rattle.rd_weavings.proofs.SameLemmas.{acquires_are, acquires_it, forks_are, forks_it, gives_by, givings_are, joins_are, joins_it, takes_by, takings_are}
use Rattle.rd_weavings.proofs.SpotLemmas.{count_push}
use Rattle.rd_weavings.proofs.TestLemmas.{range_all}

-- ---- tests

-- two tests of one thing agree
pub told_alike : {P Q : Type 0} (a b : Bool) → Decides a P → Decides b Q → (P → Q) → (Q → P) → a ≡ b
told_alike true true p q there back = refl
told_alike true false p q there back = absurd (true≢false (sym (q.1 (there (p.0 refl)))))
told_alike false true p q there back = absurd (true≢false (sym (p.1 (back (q.0 refl)))))
told_alike false false p q there back = refl

pub or_none : (b : Bool) → (b || false) ≡ b
or_none true = refl
or_none false = refl

or_some : (b : Bool) → (b || true) ≡ true
or_some true = refl
or_some false = refl

or_apart : (a b c : Bool) → (a || (b || c)) ≡ ((a || b) || c)
or_apart true b c = refl
or_apart false b c = refl

-- one more, where the test passes
more_than_none : (m k : ℕ) (b : Bool) → k ≡ m + cond b 1 0 → nat_lt 0 k ≡ (nat_lt 0 m || b)
more_than_none m k true is = told_alike (nat_lt 0 k) true (Decides-ltb 0 k) (λ h. h, λ h. h) (λ h. refl) (λ h. omega (arith, is)) ∙ sym (or_some (nat_lt 0 m))
more_than_none m k false is = ap (nat_lt 0) (omega (arith, is)) ∙ sym (or_none (nat_lt 0 m))

and_some : (b : Bool) → (b && true) ≡ b
and_some true = refl
and_some false = refl

none_more : (m k : ℕ) (b : Bool) → k ≡ m + cond b 1 0 → (k == 0) ≡ ((m == 0) && not b)
none_more m k true is = ne_eqb k 0 (λ none. omega (arith, is, none)) ∙ sym (and_right (m == 0) false refl)
none_more m k false is = ap (λ (x : ℕ). x == 0) (let same : k ≡ m = omega (arith, is) in same) ∙ sym (and_some (m == 0))

-- ---- one event more

module _ (all : Logs) (spots : List Spot) (s : Spot) (e : Event) (is : event_at all s ≡ e) where
  abbrev more : List Spot
  more = spots ++ s ∷ []

  forks_push : (u : ℕ) → forks (woven all more) u ≡ forks (woven all spots) u + cond (is_this (forked_thread e) u) 1 0
  forks_push u = omega (arith, forks_are all more u, forks_are all spots u, count_push (forks_it all u) spots s, ap {B = ℕ} (λ x. cond (is_this (forked_thread x) u) 1 0) is)

  joins_push : (u : ℕ) → joins (woven all more) u ≡ joins (woven all spots) u + cond (is_this (joined_thread e) u) 1 0
  joins_push u = omega (arith, joins_are all more u, joins_are all spots u, count_push (joins_it all u) spots s, ap {B = ℕ} (λ x. cond (is_this (joined_thread x) u) 1 0) is)

  takings_push : (u : ℕ) (h : Hold) → takings (woven all more) u h ≡ takings (woven all spots) u h + cond ((thread_of e == u) && is_hold (hold_taken e) h) 1 0
  takings_push u h = omega (arith, takings_are all more u h, takings_are all spots u h, count_push (takes_by all u h) spots s, ap {B = ℕ} (λ x. cond ((thread_of x == u) && is_hold (hold_taken x) h) 1 0) is)

  givings_push : (u : ℕ) (h : Hold) → givings (woven all more) u h ≡ givings (woven all spots) u h + cond ((thread_of e == u) && is_hold (hold_given e) h) 1 0
  givings_push u h = omega (arith, givings_are all more u h, givings_are all spots u h, count_push (gives_by all u h) spots s, ap {B = ℕ} (λ x. cond ((thread_of x == u) && is_hold (hold_given x) h) 1 0) is)

  acquires_push : (lock : ℕ) → acquires_of (woven all more) lock ≡ acquires_of (woven all spots) lock + cond (is_hold (hold_taken e) (exclusive lock)) 1 0
  acquires_push lock = omega (arith, acquires_are all more lock, acquires_are all spots lock, count_push (acquires_it all lock) spots s, ap {B = ℕ} (λ x. cond (is_hold (hold_taken x) (exclusive lock)) 1 0) is)

  pub known_push : (u : ℕ) → is_known all.roots (woven all more) u ≡ (is_known all.roots (woven all spots) u || is_this (forked_thread e) u)
  known_push u =
      ap (λ b. all.roots u || b) (more_than_none (forks (woven all spots) u) (forks (woven all more) u) (is_this (forked_thread e) u) (forks_push u))
      ∙ or_apart (all.roots u) (nat_lt 0 (forks (woven all spots) u)) (is_this (forked_thread e) u)

  pub running_push : (u : ℕ) → (joins (woven all more) u == 0) ≡ ((joins (woven all spots) u == 0) && not (is_this (joined_thread e) u))
  running_push u = none_more (joins (woven all spots) u) (joins (woven all more) u) (is_this (joined_thread e) u) (joins_push u)

-- ---- what is used up

all_same : (p q : ℕ → Bool) (a n : ℕ) → ((l : ℕ) → a ≤ l → l < a + n → p l ≡ q l) → list_all p (range_with_len a n) ≡ list_all q (range_with_len a n)
all_same p q a zero same = refl
all_same p q a (suc n) same =
    ap (λ b. b && list_all p (range_with_len (a + 1) n)) (same a (omega arith) (omega arith))
    ∙ ap (λ b. q a && b) (all_same p q (a + 1) n (λ l from below. same l (omega arith) (omega arith)))

module _ (all : Logs) (apart : HaveOwnThreads all) (spots : List Spot) (log : ℕ) (inside : log < length all.logs) where
  abbrev behind : List Spot
  behind = spots ++ next_spot spots log ∷ []

  -- of another thread as much is left as before
  pub left_other : (u : ℕ) → (log_at all log).thread ≢ u → is_used_up all behind u ≡ is_used_up all spots u
  left_other u differ = all_same (test behind) (test spots) 0 (length all.logs) (λ l from below. by l (cases_eq log l))
    where
      test : List Spot → ℕ → Bool
      test xs l = not ((log_at all l).thread == u) || (given xs l == length (log_at all l).events)

      by : (l : ℕ) → (log ≡ l) ⊎ (log ≢ l) → test behind l ≡ test spots l
      by l (inl same) =
          let no : ((log_at all l).thread == u) ≡ false = ne_eqb _ _ (λ is. differ (ap (λ k. (log_at all k).thread) same ∙ is)) in
          ap (λ b. not b || (given behind l == length (log_at all l).events)) no ∙ sym (ap (λ b. not b || (given spots l == length (log_at all l).events)) no)
      by l (inr other) = ap (λ g. not ((log_at all l).thread == u) || (g == length (log_at all l).events)) (given_other spots log l other)

  -- of its own thread nothing is left where that was the last event of the log
  pub left_own : (xs : List Spot) → is_used_up all xs (log_at all log).thread ≡ (given xs log == length (log_at all log).events)
  left_own xs = told_alike (list_all test (range_with_len 0 (length all.logs))) (given xs log == length (log_at all log).events) (range_all test 0 (length all.logs))
      (Decides-eqb (given xs log) (length (log_at all log).events))
      (λ each. elim (or_cases _ _ (each log (omega arith) (omega (arith, inside)))) [
        | inl other ↦ absurd (true≢false (sym other ∙ ap not (eq-eqb (log_at all log).thread (log_at all log).thread refl)))
        | inr even ↦ eqb-true _ _ even
      ])
      (λ even l from below. by l below even (cases_eq log l))
    where
      test : ℕ → Bool
      test l = not ((log_at all l).thread == (log_at all log).thread) || (given xs l == length (log_at all l).events)

      by : (l : ℕ) → l < 0 + length all.logs → given xs log ≡ length (log_at all log).events → (log ≡ l) ⊎ (log ≢ l) → test l ≡ true
      by l below even (inl same) =
          (Decides-or _ _ (Decides-not _ (Decides-eqb (log_at all l).thread (log_at all log).thread)) (Decides-eqb (given xs l) (length (log_at all l).events))).1
          (inr (subst (λ k. given xs k ≡ length (log_at all k).events) same even))
      by l below even (inr other) =
          (Decides-or _ _ (Decides-not _ (Decides-eqb (log_at all l).thread (log_at all log).thread)) (Decides-eqb (given xs l) (length (log_at all l).events))).1
          (inl (λ same. other (apart log l inside (omega (arith, below)) (sym same))))

-- ---- threads

same_thread : (a b : ThreadState) → a.known ≡ b.known → a.joined ≡ b.joined → a.ended ≡ b.ended → a ≡ b
same_thread a b known joined ended = λ i. record { known = known i; joined = joined i; ended = ended i }

-- what a step makes of a thread
abbrev pub thread_behind : ThreadState → ℕ → Step → ThreadState
thread_behind x u step = record { known = x.known || is_this (forked_thread (step_event 0 step)) u; joined = x.joined || is_this (joined_thread (step_event 0 step)) u; ended = x.ended }

unchanged : (x : ThreadState) → x ≡ record { known = x.known || false; joined = x.joined || false; ended = x.ended }
unchanged x = same_thread x _ (sym (or_none x.known)) (sym (or_none x.joined)) refl

pub threads_at : (threads : List ThreadState) (step : Step) (u : ℕ) → u < length threads
    → slice_index_or (threads_behind threads step) u no_state ≡ thread_behind (slice_index_or threads u no_state) u step
threads_at threads (Fork child) u inside = by (cases_eq child u)
  where
    by : (child ≡ u) ⊎ (child ≢ u) → slice_index_or (threads_behind threads (Fork child)) u no_state ≡ thread_behind (slice_index_or threads u no_state) u (Fork child)
    by (inl same) =
        ap (λ k. slice_index_or (threads_behind threads (Fork k)) u no_state) same ∙ get_or-set_same threads u _ no_state inside
        ∙ same_thread _ (thread_behind (slice_index_or threads u no_state) u (Fork child))
        (sym (ap (λ b. (slice_index_or threads u no_state).known || b) (eq-eqb child u same) ∙ or_some (slice_index_or threads u no_state).known))
        (sym (or_none (slice_index_or threads u no_state).joined)) refl
    by (inr other) =
        get_or-set_other threads child u _ no_state (λ same. other (sym same))
        ∙ same_thread (slice_index_or threads u no_state) (thread_behind (slice_index_or threads u no_state) u (Fork child))
        (sym (ap (λ b. (slice_index_or threads u no_state).known || b) (ne_eqb child u other) ∙ or_none (slice_index_or threads u no_state).known))
        (sym (or_none (slice_index_or threads u no_state).joined)) refl
threads_at threads (Join child) u inside = by (cases_eq child u)
  where
    by : (child ≡ u) ⊎ (child ≢ u) → slice_index_or (threads_behind threads (Join child)) u no_state ≡ thread_behind (slice_index_or threads u no_state) u (Join child)
    by (inl same) =
        ap (λ k. slice_index_or (threads_behind threads (Join k)) u no_state) same ∙ get_or-set_same threads u _ no_state inside
        ∙ same_thread _ (thread_behind (slice_index_or threads u no_state) u (Join child))
        (sym (or_none (slice_index_or threads u no_state).known))
        (sym (ap (λ b. (slice_index_or threads u no_state).joined || b) (eq-eqb child u same) ∙ or_some (slice_index_or threads u no_state).joined)) refl
    by (inr other) =
        get_or-set_other threads child u _ no_state (λ same. other (sym same))
        ∙ same_thread (slice_index_or threads u no_state) (thread_behind (slice_index_or threads u no_state) u (Join child))
        (sym (or_none (slice_index_or threads u no_state).known))
        (sym (ap (λ b. (slice_index_or threads u no_state).joined || b) (ne_eqb child u other) ∙ or_none (slice_index_or threads u no_state).joined)) refl
threads_at threads (Acquire lock number) u inside = unchanged (slice_index_or threads u no_state)
threads_at threads (Release lock) u inside = unchanged (slice_index_or threads u no_state)
threads_at threads (Call object) u inside = unchanged (slice_index_or threads u no_state)

pub threads_long : (threads : List ThreadState) (step : Step) → length (threads_behind threads step) ≡ length threads
threads_long threads (Fork child) = length-set threads child _
threads_long threads (Join child) = length-set threads child _
threads_long threads (Acquire lock number) = refl
threads_long threads (Release lock) = refl
threads_long threads (Call object) = refl

pub left_long : (threads : List ThreadState) (thread : ℕ) (used_up : Bool) → length (threads_left threads thread used_up) ≡ length threads
left_long threads thread true = length-set threads thread _
left_long threads thread false = refl

abbrev pub left_behind : ThreadState → Bool → ThreadState
left_behind x used_up = record { known = x.known; joined = x.joined; ended = x.ended || used_up }

-- it has ended, where nothing is left of its log, or it had
pub left_at : (threads : List ThreadState) (thread u : ℕ) (used_up : Bool) → u < length threads → slice_index_or (threads_left threads thread used_up) u no_state
    ≡ left_behind (slice_index_or threads u no_state) ((thread == u) && used_up)
left_at threads thread u false inside =
    same_thread _ (left_behind (slice_index_or threads u no_state) ((thread == u) && false)) refl refl (sym (ap (λ b. (slice_index_or threads u no_state).ended || b) (and_right (thread == u) false refl) ∙ or_none (slice_index_or threads u no_state).ended))
left_at threads thread u true inside = by (cases_eq thread u)
  where
    by : (thread ≡ u) ⊎ (thread ≢ u) → slice_index_or (threads_left threads thread true) u no_state ≡ left_behind (slice_index_or threads u no_state) ((thread == u) && true)
    by (inl same) =
        ap (λ k. slice_index_or (threads_left threads k true) u no_state) same ∙ get_or-set_same threads u _ no_state inside
        ∙ same_thread _ (left_behind (slice_index_or threads u no_state) ((thread == u) && true)) refl refl (sym (ap (λ b. (slice_index_or threads u no_state).ended || (b && true)) (eq-eqb thread u same) ∙ or_some (slice_index_or threads u no_state).ended))
    by (inr other) =
        get_or-set_other threads thread u _ no_state (λ same. other (sym same))
        ∙ same_thread _ (left_behind (slice_index_or threads u no_state) ((thread == u) && true)) refl refl (sym (ap (λ b. (slice_index_or threads u no_state).ended || (b && true)) (ne_eqb thread u other) ∙ or_none (slice_index_or threads u no_state).ended))

-- which thread a step begins or joins doesn't depend on whose it is
pub forks_alike : (thread : ℕ) (step : Step) → forked_thread (step_event thread step) ≡ forked_thread (step_event 0 step)
forks_alike thread (Fork child) = refl
forks_alike thread (Join child) = refl
forks_alike thread (Acquire lock number) = refl
forks_alike thread (Release lock) = refl
forks_alike thread (Call object) = refl

pub joins_alike : (thread : ℕ) (step : Step) → joined_thread (step_event thread step) ≡ joined_thread (step_event 0 step)
joins_alike thread (Fork child) = refl
joins_alike thread (Join child) = refl
joins_alike thread (Acquire lock number) = refl
joins_alike thread (Release lock) = refl
joins_alike thread (Call object) = refl

pub not_or : (a b : Bool) → not (a || b) ≡ (not a && not b)
not_or true b = refl
not_or false b = refl

-- ---- locks

same_lock : (a b : LockState) → a.holder ≡ b.holder → a.depth ≡ b.depth → a.count ≡ b.count → a ≡ b
same_lock a b holder depth count = λ i. record { holder = holder i; depth = depth i; count = count i }

abbrev acquired : LockState → ℕ → ℕ → LockState
acquired x thread number = record { holder = thread; depth = x.depth + 1; count = number }

abbrev released : LockState → LockState
released x = record { holder = x.holder; depth = x.depth - 1; count = x.count }

pub locks_long : (locks : List LockState) (thread : ℕ) (step : Step) → length (locks_behind locks thread step) ≡ length locks
locks_long locks thread (Fork child) = refl
locks_long locks thread (Join child) = refl
locks_long locks thread (Acquire lock number) = length-set locks lock _
locks_long locks thread (Release lock) = length-set locks lock _
locks_long locks thread (Call object) = refl

depth_own : (x : LockState) → held_depth x x.holder ≡ x.depth
depth_own x = ap (λ b. if b then x.depth else 0) (eq-eqb x.holder x.holder refl)

pub depth_of_holder : (x : LockState) (t : ℕ) → t ≡ x.holder → held_depth x t ≡ x.depth
depth_of_holder x t is = ap (λ b. if b then x.depth else 0) (eq-eqb t x.holder is)

pub depth_of_other : (x : LockState) (t : ℕ) → t ≢ x.holder → held_depth x t ≡ 0
depth_of_other x t other = ap (λ b. if b then x.depth else 0) (ne_eqb t x.holder other)

pub depth_of_free : (x : LockState) (t : ℕ) → x.depth ≡ 0 → held_depth x t ≡ 0
depth_of_free x t none = elim (cases_eq t x.holder) [ inl is ↦ depth_of_holder x t is ∙ none | inr other ↦ depth_of_other x t other ]

-- the lock is free for the thread where each other one gave it back as often as it took it
pub free_for : (x : LockState) (t : ℕ) → is_free_by x t ≡ true → (u : ℕ) → u ≢ t → held_depth x u ≡ 0
free_for x t free u other = elim (or_cases (x.depth == 0) (x.holder == t) free) [
  | inl none ↦ depth_of_free x u (eqb-true x.depth 0 none)
  | inr own ↦ depth_of_other x u (λ is. other (is ∙ eqb-true x.holder t own))
]

-- and so all of its depth is the thread's
free_depth : (x : LockState) (t u : ℕ) → is_free_by x t ≡ true → u ≡ t → held_depth x u ≡ x.depth
free_depth x t u free own = elim (or_cases (x.depth == 0) (x.holder == t) free) [
  | inl none ↦ let gone = eqb-true x.depth 0 none in depth_of_free x u gone ∙ sym gone
  | inr is ↦ depth_of_holder x u (own ∙ sym (eqb-true x.holder t is))
]

pub is_free_if : (x : LockState) (t : ℕ) → ((u : ℕ) → u ≢ t → held_depth x u ≡ 0) → is_free_by x t ≡ true
is_free_if x t none = elim (cases_eq x.holder t) [
  | inl own ↦ or_right (x.depth == 0) (x.holder == t) (eq-eqb x.holder t own)
  | inr other ↦ or_left (x.depth == 0) (x.holder == t) (eq-eqb x.depth 0 (sym (depth_own x) ∙ none x.holder other))
]

-- a step that takes or gives back a lock may do so
abbrev pub MayHold : List LockState → ℕ → Step → Type 0
MayHold locks thread (Acquire lock number) = (is_free_by (slice_index_or locks lock no_lock) thread ≡ true) × (number ≡ (slice_index_or locks lock no_lock).count + 1)
MayHold locks thread (Release lock) = 0 < held_depth (slice_index_or locks lock no_lock) thread
MayHold locks thread _ = Unit {0}

module _ (all : Logs) (spots : List Spot) (s : Spot) (thread : ℕ) where
  abbrev with_s : List Spot
  with_s = spots ++ s ∷ []

  -- an event that neither takes nor gives back the lock
  lock_still : (e : Event) → event_at all s ≡ e → (lock : ℕ) (x : LockState) → is_hold (hold_taken e) (exclusive lock) ≡ false → is_hold (hold_given e) (exclusive lock) ≡ false
      → IsLock all spots lock x → IsLock all with_s lock x
  lock_still e is lock x no_take no_give stands = record {
    counted = omega (arith, stands.counted, acquires_push all spots s e is lock, ap {B = ℕ} (λ b. cond b 1 0) no_take);
    held = λ u. omega (
      arith,
      stands.held u,
      takings_push all spots s e is u (exclusive lock),
      givings_push all spots s e is u (exclusive lock),
      ap {B = ℕ} (λ b. cond b 1 0) (and_right (thread_of e == u) (is_hold (hold_taken e) (exclusive lock)) no_take),
      ap {B = ℕ} (λ b. cond b 1 0) (and_right (thread_of e == u) (is_hold (hold_given e) (exclusive lock)) no_give),
    );
    few = stands.few;
  }

  -- it is acquired, where it is free
  lock_taken : (lock number : ℕ) (x : LockState) → event_at all s ≡ event.Acquire thread lock → is_free_by x thread ≡ true → number ≡ x.count + 1
      → IsLock all spots lock x → IsLock all with_s lock (acquired x thread number)
  lock_taken lock number x is free next stands = record {
    counted = omega (arith, next, stands.counted, acquires_push all spots s (event.Acquire thread lock) is lock, ap {B = ℕ} (λ b. cond b 1 0) (eq-eqb lock lock refl));
    held = λ u. by u (cases_eq u thread);
    few = omega (arith, next, stands.few);
  }
    where
      by : (u : ℕ) → (u ≡ thread) ⊎ (u ≢ thread) → takings (woven all with_s) u (exclusive lock) ≡ givings (woven all with_s) u (exclusive lock) + held_depth (acquired x thread number) u
      by u (inl own) =
          let takes : cond ((thread == u) && (lock == lock)) 1 0 ≡ 1 = ap {B = ℕ} (λ b. cond b 1 0) (and_from (thread == u) (lock == lock) (eq-eqb thread u (sym own)) (eq-eqb lock lock refl)) in
          let gives : cond ((thread == u) && false) 1 0 ≡ 0 = ap {B = ℕ} (λ b. cond b 1 0) (and_right (thread == u) false refl) in
          let before : held_depth x u ≡ x.depth = free_depth x thread u free own in
          omega (
            arith,
            takes,
            gives,
            before,
            stands.held u,
            takings_push all spots s (event.Acquire thread lock) is u (exclusive lock),
            givings_push all spots s (event.Acquire thread lock) is u (exclusive lock),
            depth_of_holder (acquired x thread number) u own,
          )
      by u (inr other) =
          let takes : cond ((thread == u) && (lock == lock)) 1 0 ≡ 0 = ap {B = ℕ} (λ b. cond b 1 0) (and_left (thread == u) (lock == lock) (ne_eqb thread u (λ same. other (sym same)))) in
          let gives : cond ((thread == u) && false) 1 0 ≡ 0 = ap {B = ℕ} (λ b. cond b 1 0) (and_right (thread == u) false refl) in
          omega (
            arith,
            takes,
            gives,
            free_for x thread free u other,
            stands.held u,
            takings_push all spots s (event.Acquire thread lock) is u (exclusive lock),
            givings_push all spots s (event.Acquire thread lock) is u (exclusive lock),
            depth_of_other (acquired x thread number) u other,
          )

  -- it is released by the thread that has it
  lock_given : (lock : ℕ) (x : LockState) → event_at all s ≡ event.Release thread lock → 0 < held_depth x thread → IsLock all spots lock x → IsLock all with_s lock (released x)
  lock_given lock x is has stands = record {
    counted = omega (arith, stands.counted, acquires_push all spots s (event.Release thread lock) is lock);
    held = λ u. by u (cases_eq u thread);
    few = omega (arith, stands.few);
  }
    where
      holds : thread ≡ x.holder
      holds = elim (cases_eq thread x.holder) [ inl own ↦ own | inr other ↦ absurd (omega (arith, has, depth_of_other x thread other)) ]

      by : (u : ℕ) → (u ≡ thread) ⊎ (u ≢ thread) → takings (woven all with_s) u (exclusive lock) ≡ givings (woven all with_s) u (exclusive lock) + held_depth (released x) u
      by u (inl own) =
          let gives : cond ((thread == u) && (lock == lock)) 1 0 ≡ 1 = ap {B = ℕ} (λ b. cond b 1 0) (and_from (thread == u) (lock == lock) (eq-eqb thread u (sym own)) (eq-eqb lock lock refl)) in
          let takes : cond ((thread == u) && false) 1 0 ≡ 0 = ap {B = ℕ} (λ b. cond b 1 0) (and_right (thread == u) false refl) in
          omega (
            arith,
            takes,
            gives,
            has,
            depth_of_holder x thread holds,
            depth_of_holder x u (own ∙ holds),
            stands.held u,
            takings_push all spots s (event.Release thread lock) is u (exclusive lock),
            givings_push all spots s (event.Release thread lock) is u (exclusive lock),
            depth_of_holder (released x) u (own ∙ holds),
          )
      by u (inr other) =
          let gives : cond ((thread == u) && (lock == lock)) 1 0 ≡ 0 = ap {B = ℕ} (λ b. cond b 1 0) (and_left (thread == u) (lock == lock) (ne_eqb thread u (λ same. other (sym same)))) in
          let takes : cond ((thread == u) && false) 1 0 ≡ 0 = ap {B = ℕ} (λ b. cond b 1 0) (and_right (thread == u) false refl) in
          omega (
            arith,
            takes,
            gives,
            depth_of_other x u (λ same. other (same ∙ sym holds)),
            stands.held u,
            takings_push all spots s (event.Release thread lock) is u (exclusive lock),
            givings_push all spots s (event.Release thread lock) is u (exclusive lock),
            depth_of_other (released x) u (λ same. other (same ∙ sym holds)),
          )

  -- what a step that may be placed makes of a lock
  pub locks_stand : (n : NumberedLogs) (locks : List LockState) (step : Step) → event_at all s ≡ step_event thread step → MayHold locks thread step → (lock : ℕ) → lock < length locks
      → IsLock all spots lock (slice_index_or locks lock no_lock) → IsLock all with_s lock (slice_index_or (locks_behind locks thread step) lock no_lock)
  locks_stand n locks (Fork child) is may lock inside stands = lock_still (event.Fork thread child) is lock _ refl refl stands
  locks_stand n locks (Join child) is may lock inside stands = lock_still (event.Join thread child) is lock _ refl refl stands
  locks_stand n locks (Call object) is may lock inside stands = lock_still _ is lock _ refl refl stands
  locks_stand n locks (Acquire other number) is may lock inside stands = by (cases_eq other lock)
    where
      by : (other ≡ lock) ⊎ (other ≢ lock) → IsLock all with_s lock (slice_index_or (locks_behind locks thread (Acquire other number)) lock no_lock)
      by (inl same) =
          subst (IsLock all with_s lock) (sym (ap (λ k. slice_index_or (locks_behind locks thread (Acquire k number)) lock no_lock) same ∙ get_or-set_same locks lock _ no_lock inside))
          (lock_taken lock number (slice_index_or locks lock no_lock) (is ∙ ap (event.Acquire thread) same) (subst (λ k. is_free_by (slice_index_or locks k no_lock) thread ≡ true) same may.0)
          (subst (λ k. number ≡ (slice_index_or locks k no_lock).count + 1) same may.1) stands)
      by (inr differ) =
          subst (IsLock all with_s lock) (sym (get_or-set_other locks other lock _ no_lock (λ same. differ (sym same))))
          (lock_still (event.Acquire thread other) is lock _ (ne_eqb other lock differ) refl stands)
  locks_stand n locks (Release other) is may lock inside stands = by (cases_eq other lock)
    where
      by : (other ≡ lock) ⊎ (other ≢ lock) → IsLock all with_s lock (slice_index_or (locks_behind locks thread (Release other)) lock no_lock)
      by (inl same) =
          subst (IsLock all with_s lock) (sym (ap (λ k. slice_index_or (locks_behind locks thread (Release k)) lock no_lock) same ∙ get_or-set_same locks lock _ no_lock inside))
          (lock_given lock (slice_index_or locks lock no_lock) (is ∙ ap (event.Release thread) same) (subst (λ k. 0 < held_depth (slice_index_or locks k no_lock) thread) same may) stands)
      by (inr differ) =
          subst (IsLock all with_s lock) (sym (get_or-set_other locks other lock _ no_lock (λ same. differ (sym same))))
          (lock_still (event.Release thread other) is lock _ refl (ne_eqb other lock differ) stands)
