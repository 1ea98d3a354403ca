-- Well-formed lists of events: this project's profile. Which threads no event begins is told by a test, `roots`.
use Rattle.std.specs.Prelude.{◌≡◌, ◌≢◌, ◌⊎◌, ℕ, ◌<◌, ◌≤◌, ◌==◌, nat_lt, Bool, false, ◌+◌, ◌&&◌, ◌||◌, if◌then◌else◌, List, [], ◌∷◌, ◌++◌, length, Option, Some, None, is_some, IsTrue, IfSome, All, count_by}
use Rattle.rd_ecl.specs.Kinds.{Kind, methods_at, kind_slots_at}
use Rattle.rd_event.specs.declared.events.Call.{Call as CallOf}
use Rattle.rd_event.specs.declared.events.Event.{Event}
use Rattle.rd_order.specs.Counts.{Counts}
use Rattle.rd_order.specs.Order.{thread_of, forked_thread, joined_thread, call_in, Hold, exclusive, shared, Against, hold_taken, hold_given}
use Rattle.rd_order.specs.OrderTests.{is_this}

-- ---- how often the events of a list do something

-- it is this hold
abbrev pub is_hold : Option Hold → Hold → Bool
is_hold None h = false
is_hold (Some (exclusive other)) (exclusive lock) = other == lock
is_hold (Some (shared other)) (shared lock) = other == lock
is_hold (Some _) _ = false

-- it is a call of a method of this kind on this object
abbrev pub is_call_on : Option CallOf → ℕ → ℕ → Bool
is_call_on None object kind = false
is_call_on (Some call) object kind = (call.object == object) && (call.kind == kind)

-- how often thread t is forked
unfoldable pub forks : List Event → ℕ → ℕ
forks es t = count_by (λ e. is_this (forked_thread e) t) es

-- how often it is joined
unfoldable pub joins : List Event → ℕ → ℕ
joins es t = count_by (λ e. is_this (joined_thread e) t) es

-- how often it takes a hold
unfoldable pub takings : List Event → ℕ → Hold → ℕ
takings es t h = count_by (λ e. (thread_of e == t) && is_hold (hold_taken e) h) es

-- how often it gives a hold back
unfoldable pub givings : List Event → ℕ → Hold → ℕ
givings es t h = count_by (λ e. (thread_of e == t) && is_hold (hold_given e) h) es

-- how many calls on an object are of a kind
unfoldable pub calls : List Event → ℕ → ℕ → ℕ
calls es object kind = count_by (λ e. is_call_on (call_in e) object kind) es

-- ---- which event may follow

-- the thread is a root or was forked
abbrev pub IsKnownThread : (ℕ → Bool) → List Event → ℕ → Type 0
IsKnownThread roots before t = IsTrue (roots t) ⊎ (0 < forks before t)

-- what each event has to meet after the events before it
pub record MayHappen (roots : ℕ → Bool) (before : List Event) (e : Event) : Type 0 where
  -- a forked thread is new
  pub fresh : (u : ℕ) → forked_thread e ≡ Some u → ¬ (IsKnownThread roots before u)
  -- the acting thread is known, and so is the joined one
  pub known_actor : IsKnownThread roots before (thread_of e)
  pub known_joined : (u : ℕ) → joined_thread e ≡ Some u → IsKnownThread roots before u
  -- the acting thread was not joined
  pub running : joins before (thread_of e) ≡ 0
  -- no thread joins itself
  pub other_joined : (u : ℕ) → joined_thread e ≡ Some u → u ≢ thread_of e
  -- a hold is taken only where each other thread has given back, as often as it took it, each hold against it
  pub free : (h k : Hold) → hold_taken e ≡ Some h → Against h k
      → (u : ℕ) → u ≢ thread_of e → takings before u k ≡ givings before u k
  -- a hold is given back only by a thread that took it more often than it gave it back
  pub held : (h : Hold) → hold_given e ≡ Some h → givings before (thread_of e) h < takings before (thread_of e) h
  -- the calls before on the object of a call are of its kind
  pub one_kind : (call : CallOf) → call_in e ≡ Some call
      → (kind : ℕ) → kind ≢ call.kind → calls before call.object kind ≡ 0

-- after the events before, each event may follow those in front of it
abbrev pub Follow : (ℕ → Bool) → List Event → List Event → Type 0
Follow roots before [] = Unit {0}
Follow roots before (e ∷ es) = MayHappen roots before e × Follow roots (before ++ e ∷ []) es

-- events and known threads, roots and forked ones, are few enough for numbers of 32 bits, with one to spare
pub record IsBounded (roots : ℕ → Bool) (es : List Event) : Type 0 where
  pub few_events : length es ≤ 4294967294
  -- of the numbers below n, so many are of known threads
  pub few_threads : (n c : ℕ) → Counts (IsKnownThread roots es) n c → c ≤ 4294967295

-- each event of the list may follow those in front of it, within the bounds
pub record WellFormed (roots : ℕ → Bool) (es : List Event) : Type 0 where
  pub follow : Follow roots [] es
  pub bounded : IsBounded roots es

-- the call is of one of these kinds and of a method of it, and has as many slots as the method
pub record IsCallOf (kinds : List Kind) (call : CallOf) : Type 0 where
  pub kind : call.kind < length kinds
  pub method : call.method < length (methods_at kinds call.kind)
  pub slots : length call.slots ≡ kind_slots_at (methods_at kinds call.kind) call.method

-- a well-formed list whose calls are of the kinds of a specification
pub record WellFormedWith (kinds : List Kind) (roots : ℕ → Bool) (es : List Event) : Type 0 where
  pub formed : WellFormed roots es
  pub fit : All (λ e. IfSome (call_in e) (IsCallOf kinds)) es

-- how many threads are known after an event
abbrev pub threads_after : Event → ℕ → ℕ
threads_after e count = if is_some (forked_thread e) then count + 1 else count

-- ---- lists for which no roots are told

-- how often thread t acts
unfoldable pub acts : List Event → ℕ → ℕ
acts es t = count_by (λ e. thread_of e == t) es

-- the roots that are meant: the threads that act or are joined, and that no event forks
unfoldable pub implied_roots : List Event → ℕ → Bool
implied_roots es t = (nat_lt 0 (acts es t) || nat_lt 0 (joins es t)) && (forks es t == 0)
