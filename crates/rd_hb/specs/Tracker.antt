-- What a tracker holds of a list of events: this project's profile.
use Rattle.std.specs.Prelude.{◌≡◌, ◌↔◌, ◌⊎◌, ℕ, ◌*◌, ◌<◌, ◌≤◌, Bool, false, IsTrue, List, [], ◌∷◌, ◌++◌, length, Option, None, Some, slice_get, slice_index_or}
use Rattle.rd_event.specs.declared.events.Event.{Event}
use Rattle.rd_event.specs.declared.events.Event.TheVariants.{Fork, Join, Acquire, Release, Share, Unshare, Call}
use Rattle.rd_clock.specs.Clock.{component}
use Rattle.rd_hb.specs.EventClocks.{OwnNumber, IsClock}
use Rattle.rd_order.specs.EventLists.{IsKnownThread, WellFormed, joins}
use Rattle.rd_hb.specs.Knows.{Carries, KnownCount}
use Rattle.rd_order.specs.Order.{GivesBack, Hold, IsOf, exclusive, forked_thread, shared, thread_of}
use Rattle.rd_clock.specs.declared.clock.Stamp.{Stamp}
use Rattle.rd_hb.specs.declared.tracker.Tracked.{Tracked}

-- ---- the state

-- what is held of the locks, by their numbers: the stamp of the last event that released each, and the clock of the events that
-- unshared it
pub record TrackedLocks : Type 0 where
  pub releases : List (Option Stamp)
  pub unshares : List (Option (List ℕ))

-- what is held of the threads, by their numbers, and of the locks
pub record Tracking : Type 0 where
  pub threads : List Tracked
  pub locks : TrackedLocks

-- what is held of a thread that isn't known
abbrev pub no_thread : Tracked
no_thread = record { clock = []; events = 0; joined = false }

-- what is held of a thread
abbrev pub tracked_thread : List Tracked → ℕ → Tracked
tracked_thread threads t = slice_index_or threads t no_thread

-- the component of u in the clock of t
abbrev pub known_to : List Tracked → ℕ → ℕ → ℕ
known_to threads t u = component (tracked_thread threads t).clock u

-- what is held of the releases of a lock
abbrev pub last_release : List (Option Stamp) → ℕ → Option Stamp
last_release releases lock = slice_index_or releases lock None

-- its clock, 0 everywhere where that is nothing
abbrev pub clock_of : Option Stamp → List ℕ
clock_of None = []
clock_of (Some stamp) = stamp.clock

-- what is held of unshares as a clock, 0 everywhere where that is nothing
abbrev pub clock_held : Option (List ℕ) → List ℕ
clock_held None = []
clock_held (Some clock) = clock

-- the clock of the unshares of a lock
abbrev pub unshared : List (Option (List ℕ)) → ℕ → List ℕ
unshared unshares lock = clock_held (slice_index_or unshares lock None)

-- the component of u in the clock that a lock has of the events that gave this hold of it back
abbrev pub handed_by : TrackedLocks → Hold → ℕ → ℕ
handed_by locks (exclusive lock) u = component (clock_of (last_release locks.releases lock)) u
handed_by locks (shared lock) u = component (unshared locks.unshares lock) u

-- ---- what it stands for

-- the event at a place is the last one that releases the lock, and is the o-th of thread t
pub record IsRelease (es : List Event) (lock place t o : ℕ) : Type 0 where
  pub gives : GivesBack es (exclusive lock) place
  pub last : (m : ℕ) → GivesBack es (exclusive lock) m → m ≤ place
  pub thread : IsOf es t place
  pub number : OwnNumber es t place o

-- no event releases the lock, or the stamp is that of the last one
abbrev pub IsLastRelease : List Event → ℕ → Option Stamp → Type 0
IsLastRelease es lock None = (m : ℕ) → ¬ (GivesBack es (exclusive lock) m)
IsLastRelease es lock (Some stamp) = (place : ℕ) × IsRelease es lock place stamp.thread stamp.number

-- the known threads are exactly the roots and the threads that were forked; the clock of each gives for each thread
-- the number of its events that the thread knows; and the joined ones are marked. Of each lock one clock gives for each thread
-- the number of its events that release the lock or reach one that does, and another the number of those that unshare it or reach
-- one that does; and the thread and own number of the last release are told
pub record TrackerStandsFor (tracking : Tracking) (roots : ℕ → Bool) (es : List Event) : Type 0 where
  pub known : (t : ℕ) → (t < length tracking.threads) ↔ IsKnownThread roots es t
  pub clocks : (t u : ℕ) → KnownCount es (Carries es t) u (known_to tracking.threads t u)
  pub joined : (t : ℕ) → IsTrue (tracked_thread tracking.threads t).joined ↔ (0 < joins es t)
  pub locks : (hold : Hold) (u : ℕ) → KnownCount es (GivesBack es hold) u (handed_by tracking.locks hold u)
  pub releases : (lock : ℕ) → IsLastRelease es lock (last_release tracking.locks.releases lock)

-- ---- a step

-- the bound on the steps of an event, by the number of threads that are known once it is done
abbrev pub event_bound : Event → ℕ → ℕ
event_bound (Call call) count = 2 * count
event_bound _ count = 6 * count

-- with the event the list is well-formed, and a forked thread has the next number
pub record IsNextEvent (tracking : Tracking) (roots : ℕ → Bool) (es : List Event) (e : Event) : Type 0 where
  pub stands : TrackerStandsFor tracking roots es
  pub formed : WellFormed roots (es ++ e ∷ [])
  pub numbered : (u : ℕ) → forked_thread e ≡ Some u → u ≡ length tracking.threads

-- to take the event may take memory: a fork begins a thread, a release or an unshare gives a lock a clock, and who joins a thread,
-- acquires a lock or shares one may need room for all known threads. A call takes none
abbrev pub MayGrow : List Tracked → Event → Type 0
MayGrow threads (Fork thread child) = Unit {0}
MayGrow threads (Join thread child) = length (tracked_thread threads thread).clock < length threads
MayGrow threads (Acquire thread lock) = length (tracked_thread threads thread).clock < length threads
MayGrow threads (Release thread lock) = Unit {0}
MayGrow threads (Share thread lock) = length (tracked_thread threads thread).clock < length threads
MayGrow threads (Unshare thread lock) = Unit {0}
MayGrow threads (Call call) = ⊥

-- where the event at a place of a list stands
pub record IsStamp (es : List Event) (place : ℕ) (stamp : Stamp) : Type 0 where
  pub thread : (e : Event) → slice_get es place ≡ Some e → stamp.thread ≡ thread_of e
  pub number : OwnNumber es stamp.thread place stamp.number
  pub clock : (u : ℕ) → IsClock es place u (component stamp.clock u)

-- what is held of a thread as the stamp of its last event, where nothing was learnt since
abbrev pub last_stamp : List Tracked → ℕ → Stamp
last_stamp threads t = record { thread = t; number = (tracked_thread threads t).events; clock = (tracked_thread threads t).clock }

-- ---- the floor

-- the thread is known, and wasn't joined
abbrev pub IsLive : List Tracked → ℕ → Type 0
IsLive threads t = (t < length threads) × ((tracked_thread threads t).joined ≡ false)

-- the clock has for each thread the least component over the clocks of the threads that weren't joined, and 0 where each was
pub record IsFloor (threads : List Tracked) (floor : List ℕ) : Type 0 where
  pub below : (t u : ℕ) → IsLive threads t → component floor u ≤ known_to threads t u
  pub reached : (u : ℕ) → ((t : ℕ) × IsLive threads t × (known_to threads t u ≡ component floor u))
      ⊎ (((t : ℕ) → ¬ (IsLive threads t)) × (component floor u ≡ 0))
