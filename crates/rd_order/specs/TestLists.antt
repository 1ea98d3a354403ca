-- Lists of events for tests: roots have the first numbers, and each forked thread the next one.
use Rattle.std.specs.Prelude.{◌≡◌, ℕ, Bool, ◌==◌, ◌||◌, List, [], ◌∷◌, Some}
use Rattle.rd_event.specs.declared.events.Event.{Event}
use Rattle.rd_event.specs.declared.events.Event.TheVariants.{Call}
use Rattle.rd_order.specs.EventLists.{threads_after}
use Rattle.rd_order.specs.Order.{forked_thread}

-- a call of a thread on an object that has the thread's number
abbrev pub sample_call : ℕ → Event
sample_call thread = Call (record { thread = thread; object = thread; kind = 0; method = 0; slots = [] })

-- thread 0 alone is a root
abbrev pub one_root : ℕ → Bool
one_root t = t == 0

-- threads 0 and 1 are
abbrev pub two_roots : ℕ → Bool
two_roots t = (t == 0) || (t == 1)

-- with so many threads before, each forked thread has the next number
abbrev pub NextNumbers : ℕ → List Event → Type 0
NextNumbers threads [] = Unit {0}
NextNumbers threads (e ∷ es) = ((u : ℕ) → forked_thread e ≡ Some u → u ≡ threads) × NextNumbers (threads_after e threads) es
