-- How an access is taken.
use Rattle.std.specs.Prelude.{◌≡◌, ◌≢◌, ℕ, ◌+◌, ◌<◌, ◌≤◌, AllPairs, IsPermutation, max, length, nat_le, not, Bool, true, false, List, [], ◌∷◌, ◌++◌, Contains, Option, Some, None, if◌then◌else◌, fold, filter}
use Rattle.rd_clock.specs.Clock.{component}
use Rattle.rd_epoch.specs.Epochs.{HeldAccesses, held_at, reads_of_one}
use Rattle.rd_epoch.specs.declared.kept.Epoch.{Epoch}

-- the clock counts the access
abbrev pub is_heard : List ℕ → Epoch → Bool
is_heard clock epoch = nat_le epoch.number (component clock epoch.thread)

abbrev pub IsHeardEpoch : List ℕ → Epoch → Type 0
IsHeardEpoch clock epoch = epoch.number ≤ component clock epoch.thread

-- those that it doesn't count
abbrev pub unheard : List ℕ → List Epoch → List Epoch
unheard clock epochs = filter (λ epoch. not (is_heard clock epoch)) epochs

-- the later of what was found before and a line
abbrev pub later_line_seen : Option ℕ → ℕ → Option ℕ
later_line_seen None line = Some line
later_line_seen (Some found) line = if nat_le line found then Some found else Some line

-- that of the line of an access, where the clock doesn't count it
abbrev pub later_unheard : List ℕ → Option ℕ → Epoch → Option ℕ
later_unheard clock found epoch = if is_heard clock epoch then found else later_line_seen found epoch.line

-- the latest of these, from what was found before
abbrev pub latest_line : List ℕ → Option ℕ → List Epoch → Option ℕ
latest_line clock found epochs = fold (later_unheard clock) found epochs

-- what an access is asked against: a read the last write, a write that and the open reads
abbrev pub asked : Bool → HeldAccesses → List Epoch
asked write held = reads_of_one held.write ++ (if write then held.reads else [])

-- the line that is found for an access
abbrev pub found_for : List ℕ → Bool → HeldAccesses → Option ℕ
found_for clock write held = if held.raced then None else latest_line clock None (asked write held)

-- what is held then, where none is found
abbrev pub held_with : List ℕ → Bool → Epoch → HeldAccesses → HeldAccesses
held_with clock write now held =
    if write then record { raced = false; write = Some now; reads = [] }
    else record { raced = false; write = held.write; reads = unheard clock held.reads ++ now ∷ [] }

-- that one was found, or what is held after an access
abbrev pub held_after : List ℕ → Bool → Epoch → HeldAccesses → Option ℕ → HeldAccesses
held_after clock write now held (Some line) = record held { raced = true }
held_after clock write now held None = if held.raced then held else held_with clock write now held

-- none of these is uncounted, or the line is that of one that is, and no other one has a later line
abbrev pub IsLatestLine : List ℕ → List Epoch → Option ℕ → Type 0
IsLatestLine clock epochs None = (epoch : Epoch) → Contains epochs epoch → IsHeardEpoch clock epoch
IsLatestLine clock epochs (Some line) =
    ((epoch : Epoch) × Contains epochs epoch × (¬ (IsHeardEpoch clock epoch)) × (epoch.line ≡ line))
    × ((epoch : Epoch) → Contains epochs epoch → ¬ (IsHeardEpoch clock epoch) → epoch.line ≤ line)

-- the same is held, but for the order of the open reads
pub record IsLikeHeld (one other : HeldAccesses) : Type 0 where
  pub raced : other.raced ≡ one.raced
  pub write : other.write ≡ one.write
  pub reads : IsPermutation one.reads other.reads

-- this is held of a variable, but for the order of its open reads, and of each other one what was
pub record IsHeldAt (variable : ℕ) (held : HeldAccesses) (old new : List HeldAccesses) : Type 0 where
  pub count : length new ≡ max (length old) (variable + 1)
  pub at : IsLikeHeld held (held_at new variable)
  pub others : (w : ℕ) → w ≢ variable → held_at new w ≡ held_at old w

-- Of these open reads each thread has one at most, which it has heard of itself. Where the thread of the access learnt nothing behind a line, and its own
-- read is behind it, it has heard of no other.
pub record AreStill (clock : List ℕ) (learnt : ℕ) (now : Epoch) (reads : List Epoch) : Type 0 where
  pub one_each : AllPairs (λ a b. a.thread ≢ b.thread) reads
  pub own : (one : Epoch) → Contains reads one → one.thread ≡ now.thread → IsHeardEpoch clock one
  pub others : (one : Epoch) → Contains reads one → one.thread ≡ now.thread → learnt < one.line → (other : Epoch) → Contains reads other → other.thread ≢ now.thread → ¬ (IsHeardEpoch clock other)
