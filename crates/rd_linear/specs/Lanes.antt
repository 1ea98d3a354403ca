-- The events of each thread, in lanes.
use Rattle.std.specs.List.{filter, range_with_len, list_all}
use Rattle.std.specs.Prelude.{map, ◌/◌, ◌%◌, filter_map, ◌==◌, ◌-◌, ◌++◌, ◌∷◌, if◌then◌else◌, [], ◌≡◌, ◌<◌, ◌≤◌, ℕ, Bool, false, List, length, Option, Some, slice_get, slice_index_or}
use Rattle.std.specs.Option.{option_map_or}
use Rattle.rd_event.specs.declared.events.Event.{Event}
use Rattle.rd_order.specs.Order.{thread_of}
use Rattle.rd_order.specs.OrderTests.{reaches}
use Rattle.rd_linear.specs.declared.lanes.Lane.{Lane}
use Rattle.rd_linear.specs.declared.waits.Part.{Part}
use Rattle.rd_linear.specs.declared.waits.Waits.{Waits}
use Rattle.rd_linear.specs.Linear.{Marks, Placed, Stands}
use Rattle.rd_linear.specs.Turns.{keep_if, turns}

-- ---- the order

-- the thread of the event at a place
abbrev pub thread_at : List Event → ℕ → ℕ
thread_at es p = option_map_or thread_of (slice_get es p) 0

-- each number is below those behind it
abbrev pub AreThreadsRising : List ℕ → Type 0
AreThreadsRising threads = (i j t u : ℕ) → i < j → slice_get threads i ≡ Some t → slice_get threads j ≡ Some u → t < u

-- the threads of the first events, in the order of their numbers
pub record AreThreadsBelow (es : List Event) (count : ℕ) (threads : List ℕ) : Type 0 where
  pub rising : AreThreadsRising threads
  pub all : (p : ℕ) → p < count → Stands threads (thread_at es p)
  pub only : (t : ℕ) → Stands threads t → (p : ℕ) × (p < count) × (thread_at es p ≡ t)

-- those of all events
abbrev pub HaveThreads : List Event → List ℕ → Type 0
HaveThreads es threads = AreThreadsBelow es (length es) threads

-- the places in the order that a number picks
unfoldable pub order_by : List Event → List ℕ → ℕ → List ℕ
order_by es threads number = turns (length es) (thread_at es) (reaches es) threads (length es) number []

-- ---- lanes

-- the place is marked
abbrev pub is_seen : List Bool → ℕ → Bool
is_seen seen place = slice_index_or seen place false

-- the wait with this number is marked
abbrev pub is_over : Waits → List Bool → ℕ → Bool
is_over waits seen at = option_map_or (is_seen seen) (slice_get waits.places.items at) false

-- those of a part are
abbrev pub part_over : Waits → List Bool → Part → Bool
part_over waits seen part = list_all (is_over waits seen) (range_with_len part.from (part.to - part.from))

abbrev pub are_over : Waits → List Bool → ℕ → Bool
are_over waits seen place = option_map_or (part_over waits seen) (slice_get waits.parts.items place) false

-- the next place of a lane, where it is ready
unfoldable pub ready_in : Waits → List Bool → Lane → Option ℕ
ready_in waits seen lane = keep_if (are_over waits seen) (slice_get lane.places.items lane.given)

-- the places of a thread's events below n, in their order
abbrev pub places_below : List Event → ℕ → ℕ → List ℕ
places_below es t n = filter (λ p. thread_at es p == t) (range_with_len 0 n)

abbrev pub places_of : List Event → ℕ → List ℕ
places_of es t = places_below es t (length es)

-- a lane has the places of its thread's events, and those of them that were given stand
pub record IsLane (es : List Event) (places : List ℕ) (lane : Lane) : Type 0 where
  pub items_are : lane.places.items ≡ places_of es lane.thread
  pub given_stand : (i p : ℕ) → i < lane.given → slice_get lane.places.items i ≡ Some p → Stands places p
  pub others_wait : (i p : ℕ) → lane.given ≤ i → slice_get lane.places.items i ≡ Some p → ¬ (Stands places p)

abbrev pub AreLanes : List Event → List ℕ → List Lane → Type 0
AreLanes es places lanes = (i : ℕ) (lane : Lane) → slice_get lanes i ≡ Some lane → IsLane es places lane

abbrev pub threads_in : List Lane → List ℕ
threads_in lanes = map (λ lane. lane.thread) lanes

-- the lanes of these threads have the places of the first events, and none of them is given
pub record AreLanesBelow (es : List Event) (count : ℕ) (threads : List ℕ) (lanes : List Lane) : Type 0 where
  pub threads_are : threads_in lanes ≡ threads
  pub each : (i : ℕ) (lane : Lane) → slice_get lanes i ≡ Some lane → (lane.places.items ≡ places_below es lane.thread count) × (lane.given ≡ 0)

-- the place is put last in the lane with this number
abbrev pub IsPlaceAdded : List Lane → List Lane → ℕ → ℕ → Type 0
IsPlaceAdded old new at place =
    (threads_in new ≡ threads_in old)
    × ((i : ℕ) (lane : Lane) → slice_get new i ≡ Some lane → (before : Lane) × (slice_get old i ≡ Some before) × (lane.thread ≡ before.thread)
    × (lane.given ≡ before.given) × (lane.places.items ≡ (if i == at then before.places.items ++ place ∷ [] else before.places.items)))

-- ---- turns

-- so many turns were taken
pub record AreTurning (es : List Event) (number turn : ℕ) (threads : List ℕ) (lanes : List Lane) (seen : List Bool) (places : List ℕ) (left : ℕ) : Type 0 where
  pub placed : Placed es places
  pub marks : Marks seen (length es) places
  pub lanes_are : AreLanes es places lanes
  pub one_each : threads_in lanes ≡ threads
  pub given : length places ≡ turn
  pub rest : order_by es threads number ≡ turns (length es) (thread_at es) (reaches es) threads (length es - turn) left places

-- the ready lane that a number picks, its next place, and the number for the next turn
abbrev pub IsChoice : Waits → List Bool → List Lane → ℕ → ℕ × ℕ × ℕ → Type 0
IsChoice waits seen lanes left found = (lane : Lane) × (slice_get lanes found.0 ≡ Some lane) × (ready_in waits seen lane ≡ Some found.1)
    × (slice_get (filter_map (ready_in waits seen) lanes) (left % length (filter_map (ready_in waits seen) lanes)) ≡ Some found.1)
    × (found.2 ≡ left / length (filter_map (ready_in waits seen) lanes))
