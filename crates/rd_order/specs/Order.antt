-- Which events of a list come before which, however the threads run. Places are counted from 0.
use Rattle.std.specs.Prelude.{◌≡◌, ◌⊎◌, ℕ, ◌<◌, List, [], ◌∷◌, ◌++◌, Option, Some, None, slice_get}
use Rattle.rd_event.specs.declared.events.Call.{Call as CallOf}
use Rattle.rd_event.specs.declared.events.Event.{Event}
use Rattle.rd_event.specs.declared.events.Event.TheVariants.{Fork, Join, Acquire, Release, Share, Unshare, Call}

-- ---- what an event says

-- the thread that acts
abbrev pub thread_of : Event → ℕ
thread_of (Fork thread child) = thread
thread_of (Join thread child) = thread
thread_of (Acquire thread lock) = thread
thread_of (Release thread lock) = thread
thread_of (Share thread lock) = thread
thread_of (Unshare thread lock) = thread
thread_of (Call call) = call.thread

-- the thread that it begins
abbrev pub forked_thread : Event → Option ℕ
forked_thread (Fork thread child) = Some child
forked_thread (Join thread child) = None
forked_thread (Acquire thread lock) = None
forked_thread (Release thread lock) = None
forked_thread (Share thread lock) = None
forked_thread (Unshare thread lock) = None
forked_thread (Call call) = None

-- the thread for whose end it waits
abbrev pub joined_thread : Event → Option ℕ
joined_thread (Fork thread child) = None
joined_thread (Join thread child) = Some child
joined_thread (Acquire thread lock) = None
joined_thread (Release thread lock) = None
joined_thread (Share thread lock) = None
joined_thread (Unshare thread lock) = None
joined_thread (Call call) = None

-- the call that it is
abbrev pub call_in : Event → Option CallOf
call_in (Fork thread child) = None
call_in (Join thread child) = None
call_in (Acquire thread lock) = None
call_in (Release thread lock) = None
call_in (Share thread lock) = None
call_in (Unshare thread lock) = None
call_in (Call call) = Some call

-- what a thread takes, and later gives back: a lock for itself, or a share of it
pub data Hold : Type 0 where
  exclusive : ℕ → Hold
  shared : ℕ → Hold

-- two holds that two threads can't have at once: they are of one lock, and not both shares
abbrev pub Against : Hold → Hold → Type 0
Against (exclusive lock) (exclusive other) = lock ≡ other
Against (exclusive lock) (shared other) = lock ≡ other
Against (shared lock) (exclusive other) = lock ≡ other
Against (shared lock) (shared other) = ⊥

-- the hold that an event takes: to acquire a lock is to take it for itself
abbrev pub hold_taken : Event → Option Hold
hold_taken (Fork thread child) = None
hold_taken (Join thread child) = None
hold_taken (Acquire thread lock) = Some (exclusive lock)
hold_taken (Release thread lock) = None
hold_taken (Share thread lock) = Some (shared lock)
hold_taken (Unshare thread lock) = None
hold_taken (Call call) = None

-- the hold that it gives back
abbrev pub hold_given : Event → Option Hold
hold_given (Fork thread child) = None
hold_given (Join thread child) = None
hold_given (Acquire thread lock) = None
hold_given (Release thread lock) = Some (exclusive lock)
hold_given (Share thread lock) = None
hold_given (Unshare thread lock) = Some (shared lock)
hold_given (Call call) = None

-- the event takes the hold or gives it back
abbrev pub Uses : Event → Hold → Type 0
Uses e hold = (hold_taken e ≡ Some hold) ⊎ (hold_given e ≡ Some hold)

-- ---- edges

-- an event comes before a later one whatever stands between them (Lamport 1978: the order within a
-- process, and from a message to its receipt. The five kinds are this project's profile)
pub data Linked (a b : Event) : Type 0 where
  -- both are of one thread
  same_thread : thread_of a ≡ thread_of b → Linked a b
  -- a forks the thread of b
  begins : forked_thread a ≡ Some (thread_of b) → Linked a b
  -- b joins the thread of a
  ends : joined_thread b ≡ Some (thread_of a) → Linked a b
  -- a forks a thread and b joins it
  spans : (thread : ℕ) → forked_thread a ≡ Some thread → joined_thread b ≡ Some thread → Linked a b
  -- a gives back a hold and b takes one against it
  hands_over : (hold other : Hold) → hold_given a ≡ Some hold → hold_taken b ≡ Some other → Against hold other
      → Linked a b

-- there is an edge from place i to place j: i is the earlier one, and its event is linked to that at j
pub record Edge (es : List Event) (i j : ℕ) : Type 0 where
  pub rises : i < j
  pub a : Event
  pub b : Event
  pub at_i : slice_get es i ≡ Some a
  pub at_j : slice_get es j ≡ Some b
  pub linked : Linked a b

-- ---- reaching

-- from i through these places to j, each step an E
abbrev pub Leads : (ℕ → ℕ → Type 0) → ℕ → List ℕ → ℕ → Type 0
Leads E i [] j = E i j
Leads E i (k ∷ ks) j = E i k × Leads E k ks j

-- place i reaches place j: one edge after another leads from i to j (Lamport 1978: happens before)
abbrev pub Reaches : List Event → ℕ → ℕ → Type 0
Reaches es i j = (inner : List ℕ) × Leads (Edge es) i inner j

-- the places are a path from i to j: i first, j last, and an edge from each to the next. So they rise
abbrev pub IsPath : List Event → ℕ → List ℕ → ℕ → Type 0
IsPath es i places j = (inner : List ℕ) × (places ≡ i ∷ inner ++ j ∷ []) × Leads (Edge es) i inner j

-- the earlier place doesn't reach the later one (Lamport 1978: concurrent)
abbrev pub Unordered : List Event → ℕ → ℕ → Type 0
Unordered es i j = (i < j) × ¬ (Reaches es i j)

-- ---- what the event at a place is

-- it is of thread t
abbrev pub IsOf : List Event → ℕ → ℕ → Type 0
IsOf es t i = (e : Event) × (slice_get es i ≡ Some e) × (thread_of e ≡ t)

-- it gives back the hold
abbrev pub GivesBack : List Event → Hold → ℕ → Type 0
GivesBack es hold m = (e : Event) × (slice_get es m ≡ Some e) × (hold_given e ≡ Some hold)
