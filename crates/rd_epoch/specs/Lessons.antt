-- What teaches a thread what others did, and by which line it learnt last.
use Rattle.std.specs.Prelude.{◌≡◌, ℕ, ◌≤◌, List, Some, slice_get}
use Rattle.rd_event.specs.declared.events.Event.{Event}
use Rattle.rd_order.specs.Order.{Hold, forked_thread, hold_taken, joined_thread, thread_of}

-- by the event the thread learns what others did: it waits for the end of one, takes a lock or a share of one, or is begun
pub data Teaches (e : Event) (thread : ℕ) : Type 0 where
  by_joining : (child : ℕ) → thread_of e ≡ thread → joined_thread e ≡ Some child → Teaches e thread
  by_taking : (hold : Hold) → thread_of e ≡ thread → hold_taken e ≡ Some hold → Teaches e thread
  by_beginning : forked_thread e ≡ Some thread → Teaches e thread

-- no event behind this line does
abbrev pub HasLearntBy : List ℕ → List Event → ℕ → ℕ → Type 0
HasLearntBy lines es thread learnt = (k : ℕ) (e : Event) (line : ℕ) → slice_get es k ≡ Some e → Teaches e thread → slice_get lines k ≡ Some line → line ≤ learnt

-- so for each thread of these, by its number
abbrev pub AreLessons : List ℕ → List ℕ → List Event → Type 0
AreLessons learnt lines es = (thread line : ℕ) → slice_get learnt thread ≡ Some line → HasLearntBy lines es thread line
