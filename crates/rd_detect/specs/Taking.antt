-- What is made of the next call that a detector is handed.
use Rattle.std.specs.Prelude.{ℕ, ◌+◌, ◌≤◌, Bool, List, [], ◌∷◌, ◌++◌, length, Option, Result, IfOk, OnOk, OnErr}
use Rattle.rd_base.specs.declared.memory.NoMemory.{NoMemory}
use Rattle.rd_clock.specs.declared.clock.Stamp.{Stamp}
use Rattle.rd_ecl.specs.Specified.{SpecifiedKind}
use Rattle.rd_event.specs.declared.events.Call.{Call as CallOf}
use Rattle.rd_event.specs.declared.events.Event.{Event}
use Rattle.rd_event.specs.declared.events.Event.TheVariants.{Call}
use Rattle.rd_hb.specs.Tracker.{Tracking}
use Rattle.rd_store.specs.declared.Race.{Race}
use Rattle.rd_detect.specs.Detect.{Detecting, DetectorStandsFor, IsAnswer, IsCallKept, IsCallLeft, IsNextCall, detection_bound}

-- The call on this line, at this place and with this stamp, is judged and kept, where it is the next one.
pub record JudgesCall (old new : Detecting) (tracking : Tracking) (line place : ℕ) (call : CallOf) (stamp : Stamp)
    (result : Result (Option Race) NoMemory) (before after : ℕ) : Type 0 where
  -- the answer is the race with the latest call that races with it, or nothing where none does
  pub answer : IfOk result (λ answer. (kinds : List SpecifiedKind) (roots : ℕ → Bool) (lines : List ℕ) (es : List Event)
      → IsNextCall kinds old tracking roots lines es place call stamp → IsAnswer kinds (lines ++ line ∷ []) (es ++ Call call ∷ []) place answer)
  -- the detector then stands for the list with the call
  pub stands : OnOk result ((kinds : List SpecifiedKind) (roots : ℕ → Bool) (lines : List ℕ) (es : List Event)
      → IsNextCall kinds old tracking roots lines es place call stamp → DetectorStandsFor kinds new roots (lines ++ line ∷ []) (es ++ Call call ∷ []))
  -- the call is kept at the points that it touches, and a sweep comes where it is due
  pub taken : OnOk result (IsCallKept tracking.threads old new call (record { line = line; place = place; call = call; stamp = stamp }))
  -- after want of memory all is as before, but that there may be more room
  pub err : OnErr result (IsCallLeft old new)
  -- the steps hang on the threads, and not on how many calls there were
  pub cost : after ≤ before + detection_bound old.tables (length tracking.threads) call
