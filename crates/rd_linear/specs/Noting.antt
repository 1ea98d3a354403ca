-- What is noted of threads and locks, event by event, and which waits are told from it.
use Rattle.std.specs.Prelude.{◌≡◌, ◌≢◌, ◌⊎◌, ◌<◌, ◌≤◌, ◌+◌, ℕ, ◌==◌, if◌then◌else◌, nat_eq, List, [], ◌∷◌, ◌++◌, length, Option, Some, None, slice_get, slice_index_or}
use Rattle.indexmap.specs.IndexMap.{get}
use Rattle.rd_event.specs.declared.events.Event.{Event}
use Rattle.rd_event.specs.declared.events.Event.TheVariants.{Join, Acquire, Release, Share, Unshare}
use Rattle.rd_order.specs.Order.{GivesBack, IsOf, Reaches, Uses, exclusive, forked_thread, shared, thread_of}
use Rattle.rd_linear.specs.declared.waits.Notes.{Notes}
use Rattle.rd_linear.specs.declared.waits.Part.{Part}
use Rattle.rd_linear.specs.declared.waits.Unshared.{Unshared}
use Rattle.rd_linear.specs.declared.waits.Waits.{Waits}
use Rattle.rd_linear.specs.Linear.{Stands}
use Rattle.rd_linear.specs.Waits.{AreWaits}

-- ---- what events do

-- it is of the thread or forks it
abbrev pub Touches : List Event → ℕ → ℕ → Type 0
Touches es thread k = (e : Event) × (slice_get es k ≡ Some e) × ((thread_of e ≡ thread) ⊎ (forked_thread e ≡ Some thread))

-- it takes or gives back the lock or a share of it
abbrev pub UsesLock : List Event → ℕ → ℕ → Type 0
UsesLock es lock k = (e : Event) × (slice_get es k ≡ Some e) × (Uses e (exclusive lock) ⊎ Uses e (shared lock))

-- the last number below n with a property, where there is one
abbrev pub IsLastBelow : (ℕ → Type 0) → ℕ → Option ℕ → Type 0
IsLastBelow P n None = (k : ℕ) → k < n → ¬ (P k)
IsLastBelow P n (Some w) = (w < n) × P w × ((k : ℕ) → k < n → P k → k ≤ w)

-- ---- what is noted

-- the places of unshares that are noted of a lock
abbrev pub places_in : Option Unshared → List ℕ
places_in None = []
places_in (Some unshared) = unshared.places.items

-- what is noted of a number
abbrev pub place_noted : List (Option ℕ) → ℕ → Option ℕ
place_noted noted key = slice_index_or noted key None

abbrev pub touch_noted : Notes → ℕ → Option ℕ
touch_noted notes thread = place_noted notes.threads.items thread

abbrev pub release_noted : Notes → ℕ → Option ℕ
release_noted notes lock = place_noted notes.releases.items lock

abbrev pub unshares_noted : Notes → ℕ → List ℕ
unshares_noted notes lock = places_in (get nat_eq notes.unshares lock)

-- What is noted behind the first events: for each thread the last place that touches it, for each lock the last release, and unshares so
-- that each other one reaches a later place that uses the lock.
pub record AreNotedBelow (es : List Event) (count : ℕ) (notes : Notes) : Type 0 where
  pub threads_are : (thread : ℕ) → IsLastBelow (Touches es thread) count (touch_noted notes thread)
  pub releases_are : (lock : ℕ) → IsLastBelow (GivesBack es (exclusive lock)) count (release_noted notes lock)
  pub unshares_are : (lock k : ℕ) → Stands (unshares_noted notes lock) k → (k < count) × GivesBack es (shared lock) k
  pub others : (lock k : ℕ) → k < count → GivesBack es (shared lock) k
      → Stands (unshares_noted notes lock) k ⊎ ((m : ℕ) × (m < count) × Reaches es k m × UsesLock es lock m)

-- ---- noting an event

-- with one place noted anew
abbrev pub noted_at : (ℕ → Option ℕ) → ℕ → ℕ → ℕ → Option ℕ
noted_at known key place q = if key == q then Some place else known q

abbrev pub noted_if : (ℕ → Option ℕ) → Option ℕ → ℕ → ℕ → Option ℕ
noted_if known None place q = known q
noted_if known (Some key) place q = noted_at known key place q

-- the lock that the event releases
abbrev pub lock_in_release : Event → Option ℕ
lock_in_release (Release thread lock) = Some lock
lock_in_release _ = None

-- the place takes that of the thread among these, or is one more
pub record IsReplaced (es : List Event) (thread place : ℕ) (old new : List ℕ) : Type 0 where
  pub here : Stands new place
  pub kept : (w : ℕ) → Stands old w → Stands new w ⊎ IsOf es thread w
  pub only : (w : ℕ) → Stands new w → Stands old w ⊎ (w ≡ place)

-- what is noted of the unshares of other locks stays
abbrev pub KeepsOthers : (ℕ → List ℕ) → (ℕ → List ℕ) → ℕ → Type 0
KeepsOthers old new lock = (other : ℕ) → lock ≢ other → new other ≡ old other

-- an acquire clears the unshares of its lock, and an unshare is one of them
abbrev pub AreUnsharesAfter : List Event → Event → ℕ → (ℕ → List ℕ) → (ℕ → List ℕ) → Type 0
AreUnsharesAfter es (Acquire thread lock) place old new = (new lock ≡ []) × KeepsOthers old new lock
AreUnsharesAfter es (Unshare thread lock) place old new = IsReplaced es thread place (old lock) (new lock) × KeepsOthers old new lock
AreUnsharesAfter es _ place old new = (lock : ℕ) → new lock ≡ old lock

-- ---- the waits of an event

abbrev pub one_if : Option ℕ → List ℕ
one_if None = []
one_if (Some place) = place ∷ []

-- beside that of its own thread: a join waits for the thread that it joins, an acquire for the release and the unshares that are noted, a
-- share for the release alone
abbrev pub other_waits : Notes → Event → List ℕ
other_waits notes (Join thread child) = one_if (touch_noted notes child)
other_waits notes (Acquire thread lock) = one_if (release_noted notes lock) ++ unshares_noted notes lock
other_waits notes (Share thread lock) = one_if (release_noted notes lock)
other_waits notes _ = []

abbrev pub waits_by : Notes → Event → List ℕ
waits_by notes e = one_if (touch_noted notes (thread_of e)) ++ other_waits notes e

-- these places stand in a part of a list
pub record IsPart (places : List ℕ) (part : Part) (waits : List ℕ) : Type 0 where
  pub count_is : part.to ≡ part.from + length waits
  pub within : part.to ≤ length places
  pub each : (i : ℕ) → i < length waits → slice_get places (part.from + i) ≡ slice_get waits i

-- these are the waits of the first events
pub record AreFirstWaits (es : List Event) (count : ℕ) (waits : Waits) : Type 0 where
  pub length_is : length waits.parts.items ≡ count
  pub each : (p : ℕ) (part : Part) → slice_get waits.parts.items p ≡ Some part → (ws : List ℕ) × IsPart waits.places.items part ws × AreWaits es p ws

-- these are the waits of all events
abbrev pub HaveWaits : List Event → Waits → Type 0
HaveWaits es waits = AreFirstWaits es (length es) waits
