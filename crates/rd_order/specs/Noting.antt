-- What is noted of threads and locks while events are passed backwards, and which next place is told from it.
use Rattle.std.specs.Prelude.{◌≡◌, ◌⊎◌, ◌≤◌, ℕ, ◌==◌, max, if◌then◌else◌, nat_eq, List, Option, Some, None, slice_get}
use Rattle.std.specs.Option.{option_or}
use Rattle.indexmap.specs.IndexMap.{get}
use Rattle.rd_event.specs.declared.events.Event.{Event}
use Rattle.rd_order.specs.Order.{Hold, exclusive, shared, forked_thread, hold_given, hold_taken, joined_thread, thread_of}
use Rattle.rd_order.specs.Paths.{Comes}
use Rattle.rd_order.specs.declared.steps.Notes.{Notes}

-- ---- what is noted

-- the greatest number from lo on with a property, where there is one
abbrev pub IsLastFrom : (ℕ → Type 0) → ℕ → Option ℕ → Type 0
IsLastFrom P lo None = (k : ℕ) → lo ≤ k → ¬ (P k)
IsLastFrom P lo (Some w) = (lo ≤ w) × P w × ((k : ℕ) → lo ≤ k → P k → k ≤ w)

-- the place is j or reaches it, and its event is of the thread or joins it
abbrev pub MeetsThread : List Event → ℕ → ℕ → ℕ → Type 0
MeetsThread es j thread k = Comes es j k × ((e : Event) × (slice_get es k ≡ Some e) × ((thread_of e ≡ thread) ⊎ (joined_thread e ≡ Some thread)))

-- it is j or reaches it, and its event takes the hold
abbrev pub TakesOn : List Event → ℕ → Hold → ℕ → Type 0
TakesOn es j hold k = Comes es j k × ((e : Event) × (slice_get es k ≡ Some e) × (hold_taken e ≡ Some hold))

-- what is noted of a thread, and of a lock
abbrev pub thread_noted : Notes → ℕ → Option ℕ
thread_noted notes thread = get nat_eq notes.threads thread

abbrev pub acquire_noted : Notes → ℕ → Option ℕ
acquire_noted notes lock = get nat_eq notes.acquires lock

abbrev pub share_noted : Notes → ℕ → Option ℕ
share_noted notes lock = get nat_eq notes.shares lock

-- of the places from lo on, of each thread and each lock the last one is noted
pub record AreNoted (es : List Event) (j lo : ℕ) (notes : Notes) : Type 0 where
  pub threads_are : (thread : ℕ) → IsLastFrom (MeetsThread es j thread) lo (thread_noted notes thread)
  pub acquires_are : (lock : ℕ) → IsLastFrom (TakesOn es j (exclusive lock)) lo (acquire_noted notes lock)
  pub shares_are : (lock : ℕ) → IsLastFrom (TakesOn es j (shared lock)) lo (share_noted notes lock)

-- with one place noted where none was
abbrev pub kept_at : (ℕ → Option ℕ) → ℕ → ℕ → ℕ → Option ℕ
kept_at known key place q = if key == q then option_or (known q) (Some place) else known q

-- the same for a key that may be there
abbrev pub kept_if : (ℕ → Option ℕ) → Option ℕ → ℕ → ℕ → Option ℕ
kept_if known None place q = known q
kept_if known (Some key) place q = kept_at known key place q

-- the lock that is taken for itself, and the one that is shared
abbrev pub exclusive_in : Option Hold → Option ℕ
exclusive_in None = None
exclusive_in (Some (exclusive lock)) = Some lock
exclusive_in (Some (shared lock)) = None

abbrev pub shared_in : Option Hold → Option ℕ
shared_in None = None
shared_in (Some (exclusive lock)) = None
shared_in (Some (shared lock)) = Some lock

-- ---- the next place

-- the later of two places that may be there
abbrev pub later_of_two : Option ℕ → Option ℕ → Option ℕ
later_of_two None y = y
later_of_two (Some x) None = Some x
later_of_two (Some x) (Some y) = Some (max x y)

-- what is noted by a key that may be there
abbrev pub noted_of : (ℕ → Option ℕ) → Option ℕ → Option ℕ
noted_of known None = None
noted_of known (Some key) = known key

-- the last place that takes a hold against the one that is given back
abbrev pub taker : Notes → Option Hold → Option ℕ
taker notes None = None
taker notes (Some (exclusive lock)) = later_of_two (acquire_noted notes lock) (share_noted notes lock)
taker notes (Some (shared lock)) = acquire_noted notes lock

-- the latest of what is noted of the event's thread, of the one that it forks, and of the hold that it gives back
abbrev pub next_by : Notes → Event → Option ℕ
next_by notes e = later_of_two (later_of_two (thread_noted notes (thread_of e)) (noted_of (thread_noted notes) (forked_thread e))) (taker notes (hold_given e))
