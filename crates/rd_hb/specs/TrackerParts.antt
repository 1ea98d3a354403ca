-- How a tracker is kept, and the parts of its steps.
use Rattle.std.specs.Prelude.{◌≡◌, ◌≢◌, ℕ, ◌+◌, ◌<◌, ◌≤◌, ◌==◌, max, false, ◌||◌, if◌then◌else◌, List, length, Option, None, Some, slice_index_or}
use Rattle.rd_clock.specs.Clock.{component, IsTick, IsJoin}
use Rattle.rd_clock.specs.declared.clock.Stamp.{Stamp}
use Rattle.rd_event.specs.declared.events.Event.{Event}
use Rattle.rd_event.specs.declared.events.Event.TheVariants.{Fork, Join, Acquire, Release, Share, Unshare, Call}
use Rattle.rd_order.specs.EventLists.{is_hold}
use Rattle.rd_order.specs.Order.{thread_of, forked_thread, Hold, exclusive, shared, hold_given}
use Rattle.rd_order.specs.OrderTests.{is_this}
use Rattle.rd_hb.specs.Tracker.{IsFloor, IsLive, TrackedLocks, handed_by, tracked_thread, known_to, last_release, unshared}
use Rattle.rd_hb.specs.declared.tracker.Tracked.{Tracked}

-- ---- what holds between steps

-- the clock of thread t has room for t and not for more threads than there are, and counts the events of t
pub record IsTracked (threads : List Tracked) (t : ℕ) : Type 0 where
  pub own : t < length (tracked_thread threads t).clock
  pub room : length (tracked_thread threads t).clock ≤ length threads
  pub events : (tracked_thread threads t).events ≡ known_to threads t t

-- so it is with each thread, and their numbers have 32 bits
pub record AreTracked (threads : List Tracked) : Type 0 where
  pub each : (t : ℕ) → t < length threads → IsTracked threads t
  pub few : length threads ≤ 4294967295

-- the clock is that of thread t, but at t itself, where it may be less
pub record IsShared (threads : List Tracked) (t : ℕ) (clock : List ℕ) : Type 0 where
  pub own : t < length clock
  pub room : length clock ≡ length (tracked_thread threads t).clock
  pub others : (u : ℕ) → u ≢ t → component clock u ≡ known_to threads t u
  pub less : component clock t ≤ known_to threads t t

-- the clocks that threads share with locks are such, where they share one
abbrev pub AreShared : List Tracked → List (Option (List ℕ)) → Type 0
AreShared threads clocks = (t : ℕ) (clock : List ℕ) → slice_index_or clocks t None ≡ Some clock → IsShared threads t clock

-- no lock's clock has room for more threads than there are
abbrev pub AreRoomy : List Tracked → List (Option Stamp) → Type 0
AreRoomy threads releases = (lock : ℕ) (stamp : Stamp) → last_release releases lock ≡ Some stamp → length stamp.clock ≤ length threads

-- nor has the clock of its unshares
abbrev pub AreRoomyUnshares : List Tracked → List (Option (List ℕ)) → Type 0
AreRoomyUnshares threads unshares = (lock : ℕ) → length (unshared unshares lock) ≤ length threads

-- so it is with what a tracker holds
pub record AreKept (threads : List Tracked) (clocks : List (Option (List ℕ))) (releases : List (Option Stamp)) (unshares : List (Option (List ℕ))) : Type 0 where
  pub tracked : AreTracked threads
  pub shared : AreShared threads clocks
  pub locks : AreRoomy threads releases
  pub shares : AreRoomyUnshares threads unshares

-- the clock covers the thread and own number of what is held of a lock's releases, if that is something
abbrev pub IsHeard : Option Stamp → List ℕ → Type 0
IsHeard None clock = Unit {0}
IsHeard (Some stamp) clock = stamp.number ≤ component clock stamp.thread

-- what a thread takes in that takes a lock for itself: what its releases and its unshares hand on
abbrev pub heard_from : TrackedLocks → ℕ → ℕ → ℕ
heard_from locks lock u = max (handed_by locks (exclusive lock) u) (handed_by locks (shared lock) u)

-- ---- what an event makes of what is known, by numbers: thread t knows f t u of the events of u, of the events that give hold h back g h u is known

-- what an event takes in: what the thread knows that it joins, or what was known where the lock was given back that it acquires, or
-- released that it shares
abbrev pub news_of : Event → (ℕ → ℕ → ℕ) → (Hold → ℕ → ℕ) → ℕ → ℕ
news_of (Fork thread child) f g u = 0
news_of (Join thread child) f g u = f child u
news_of (Acquire thread lock) f g u = max (g (exclusive lock) u) (g (shared lock) u)
news_of (Release thread lock) f g u = 0
news_of (Share thread lock) f g u = g (exclusive lock) u
news_of (Unshare thread lock) f g u = 0
news_of (Call call) f g u = 0

-- what its thread knew, with what it takes in
abbrev pub known_with_news : Event → (ℕ → ℕ → ℕ) → (Hold → ℕ → ℕ) → ℕ → ℕ
known_with_news e f g u = max (f (thread_of e) u) (news_of e f g u)

-- the clock of an event, from what was known before it
abbrev pub clock_after : Event → (ℕ → ℕ → ℕ) → (Hold → ℕ → ℕ) → ℕ → ℕ
clock_after e f g u = if u == thread_of e then known_with_news e f g u + 1 else known_with_news e f g u

-- what the threads know after it: its own thread and the one that it forks know its clock
abbrev pub known_after : Event → (ℕ → ℕ → ℕ) → (Hold → ℕ → ℕ) → ℕ → ℕ → ℕ
known_after e f g t u = if (t == thread_of e) || is_this (forked_thread e) t then clock_after e f g u else f t u

-- what is known where a hold was given back, once it is given back again: the releases of a lock follow one another, its unshares needn't
abbrev pub gathered : Hold → ℕ → ℕ → ℕ
gathered (exclusive lock) before now = now
gathered (shared lock) before now = max before now

-- and the locks: the clock of one that it gives back is gathered there
abbrev pub handed_after : Event → (ℕ → ℕ → ℕ) → (Hold → ℕ → ℕ) → Hold → ℕ → ℕ
handed_after e f g hold u = if is_hold (hold_given e) hold then gathered hold (g hold u) (clock_after e f g u) else g hold u

-- ---- the parts of a step

-- the thread counted one more event, whose stamp has its clock
pub record IsCounted (thread : ℕ) (old new : List Tracked) (stamp : Stamp) : Type 0 where
  pub count : length new ≡ length old
  pub others : (t : ℕ) → t ≢ thread → tracked_thread new t ≡ tracked_thread old t
  pub own : IsTick (tracked_thread old thread).clock (tracked_thread new thread).clock thread
  pub joined : (tracked_thread new thread).joined ≡ (tracked_thread old thread).joined
  pub thread_is : stamp.thread ≡ thread
  pub number : stamp.number ≡ known_to old thread thread + 1
  pub clock : IsTick (tracked_thread old thread).clock stamp.clock thread

-- the next thread is known, with the clock that another has after its next event
pub record IsForked (thread child : ℕ) (old new : List Tracked) : Type 0 where
  pub count : length new ≡ length old + 1
  pub others : (t : ℕ) → t ≢ child → tracked_thread new t ≡ tracked_thread old t
  pub clock : IsTick (tracked_thread old thread).clock (tracked_thread new child).clock thread
  pub joined : (tracked_thread new child).joined ≡ false

-- the thread knows so many events of each thread, where it didn't know more, and a thread has ended, if one is told
pub record IsLearnt (thread : ℕ) (news : ℕ → ℕ) (ended : Option ℕ) (old new : List Tracked) : Type 0 where
  pub count : length new ≡ length old
  pub own : (u : ℕ) → known_to new thread u ≡ max (known_to old thread u) (news u)
  pub others : (t : ℕ) → t ≢ thread → (tracked_thread new t).clock ≡ (tracked_thread old t).clock
  pub joined : (t : ℕ) → (tracked_thread new t).joined ≡ ((tracked_thread old t).joined || is_this ended t)

-- two stamps say the same
pub record IsAlike (a b : Stamp) : Type 0 where
  pub thread : a.thread ≡ b.thread
  pub number : a.number ≡ b.number
  pub clock : (u : ℕ) → component a.clock u ≡ component b.clock u

-- the stamp is held of the lock's releases, and of each other lock what was
pub record IsReleased (lock : ℕ) (old new : List (Option Stamp)) (stamp : Stamp) : Type 0 where
  pub given : (last : Stamp) × (last_release new lock ≡ Some last) × IsAlike last stamp
  pub others : (l : ℕ) → l ≢ lock → last_release new l ≡ last_release old l

-- the clock of the lock's unshares counts what the other clock counts too, and that of each other lock what it did
pub record IsUnshared (lock : ℕ) (old new : List (Option (List ℕ))) (clock : List ℕ) : Type 0 where
  pub given : IsJoin (unshared old lock) clock (unshared new lock)
  pub others : (l u : ℕ) → l ≢ lock → component (unshared new l) u ≡ component (unshared old l) u

-- ---- the floor

-- the floor of these threads, where one of them wasn't joined
abbrev pub IsFloorSoFar : List Tracked → Option (List ℕ) → Type 0
IsFloorSoFar threads None = (t : ℕ) → ¬ (IsLive threads t)
IsFloorSoFar threads (Some floor) = IsFloor threads floor × ((t : ℕ) × IsLive threads t)
