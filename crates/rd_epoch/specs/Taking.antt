-- What is made of the next access that is handed over.
use Rattle.std.specs.Prelude.{◌≡◌, ◌≢◌, ◌⊎◌, ℕ, ◌+◌, ◌≤◌, Bool, true, false, List, [], ◌∷◌, ◌++◌, length, max, Option, Result, IfOk, OnOk, OnErr}
use Rattle.rd_base.specs.declared.memory.NoMemory.{NoMemory}
use Rattle.rd_base.specs.declared.values.Value.{Value}
use Rattle.rd_clock.specs.declared.clock.Stamp.{Stamp}
use Rattle.rd_event.specs.declared.events.Event.{Event}
use Rattle.rd_epoch.specs.Epochs.{EpochsStandFor, HeldAccesses, IsFirstTold, IsNextAccess, event_of_access, held_at}
use Rattle.rd_epoch.specs.Lessons.{HasLearntBy}
use Rattle.rd_epoch.specs.declared.epochs.Access.{Access}
use Rattle.rd_epoch.specs.declared.epochs.First.{First}

-- the access, with this stamp, is the next event of some list for which this is held
abbrev pub MayTake : List HeldAccesses → Access → Stamp → Type 0
MayTake held access stamp = (roots : ℕ → Bool) × (lines : List ℕ) × (es : List Event) × (slots : List Value) × IsNextAccess held roots lines es access stamp slots

-- the access may be taken, and its thread has learnt nothing behind this line
abbrev pub MayTakeSince : List HeldAccesses → Access → Stamp → ℕ → Type 0
MayTakeSince held access stamp learnt = (roots : ℕ → Bool) × (lines : List ℕ) × (es : List Event) × (slots : List Value) × IsNextAccess held roots lines es access stamp slots
    × HasLearntBy lines es stamp.thread learnt

-- The access, with this stamp, is judged and kept, for each list whose next event it is.
pub record TakesAccess (old new : List HeldAccesses) (access : Access) (stamp : Stamp) (result : Result (Option First) NoMemory) (before after : ℕ) : Type 0 where
  -- the answer is the first race of the variable, where this is it, and else nothing
  pub answer : IfOk result (λ answer. (roots : ℕ → Bool) (lines : List ℕ) (es : List Event) (slots : List Value)
      → IsNextAccess old roots lines es access stamp slots
      → IsFirstTold (lines ++ access.line ∷ []) (es ++ event_of_access access stamp slots ∷ []) access.place access.variable answer)
  -- what is held then stands for the list with the access
  pub stands : OnOk result ((roots : ℕ → Bool) (lines : List ℕ) (es : List Event) (slots : List Value)
      → IsNextAccess old roots lines es access stamp slots
      → EpochsStandFor new roots (lines ++ access.line ∷ []) (es ++ event_of_access access stamp slots ∷ []))
  -- a variable that is new is the next one
  pub count : OnOk result (length new ≡ max (length old) (access.variable + 1))
  -- after want of memory all is as before
  pub err : OnErr result (new ≡ old)
  -- the steps hang on the open reads of the variable, and not on how many accesses there were
  pub cost : after ≤ before + (2 + length (held_at old access.variable).reads)
  -- an access to a variable that has raced costs nothing
  pub raced : (held_at old access.variable).raced ≡ true → after ≡ before
  -- memory is asked for only where the variable is new, or for a read where another one is open
  pub memory : OnErr result ((access.variable ≡ length old) ⊎ ((access.write ≡ false) × ((held_at old access.variable).reads ≢ [])))
