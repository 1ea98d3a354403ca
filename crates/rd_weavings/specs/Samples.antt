-- Logs for tests.
use Rattle.std.specs.Prelude.{ℕ, List, [], ◌∷◌}
use Rattle.rd_event.specs.declared.events.Event.{Event}
use Rattle.rd_event.specs.declared.events.Event.TheVariants.{Fork, Join, Acquire, Release, Call}
use Rattle.rd_weavings.specs.declared.spots.Spot.{Spot}
use Rattle.rd_weavings.specs.Logs.{Noted, ThreadLog}

abbrev pub unnumbered : Event → Noted
unnumbered e = record { event = e; number = 0 }

abbrev pub numbered : Event → ℕ → Noted
numbered e n = record { event = e; number = n }

abbrev pub a_call : ℕ → ℕ → Event
a_call t object = Call (record { thread = t; object = object; kind = 0; method = 0; slots = [] })

abbrev pub log : ℕ → List Noted → ThreadLog
log t events = record { thread = t; events = events }

abbrev pub at : ℕ → ℕ → Spot
at l p = record { log = l; place = p }

-- main forks a, acquires the lock as this one, calls, releases, and joins a
abbrev pub main_log : ℕ → ThreadLog
main_log n = log 0 (unnumbered (Fork 0 1) ∷ numbered (Acquire 0 0) n ∷ unnumbered (a_call 0 0) ∷ unnumbered (Release 0 0) ∷ unnumbered (Join 0 1) ∷ [])

-- a acquires it as the first one, calls, and releases
abbrev pub a_log : ThreadLog
a_log = log 1 (numbered (Acquire 1 0) 1 ∷ unnumbered (a_call 1 0) ∷ unnumbered (Release 1 0) ∷ [])
