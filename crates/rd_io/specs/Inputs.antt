-- Sources of bytes: what they tell of themselves, and when they fail. This project's profile.
use Rattle.std.specs.Prelude.{◌≡◌, ℕ, ◌+◌, ◌-◌, ◌^◌, ◌<◌, ◌≤◌, min, List, [], ◌∷◌, ◌++◌, codes, take, length, Option, Some, None, is_some, if◌then◌else◌, Result, Ok, Err, OnOk, OnErr}
use Rattle.std.specs.Str.{bytes_eq}

-- what inputs tell: the files with their names, what is left of the current input and what was taken of it,
-- how many calls opened a file, and how many named a file that isn't there
pub record Source : Type 0 where
  pub files : List (List ℕ × List ℕ)
  pub held : List ℕ
  pub taken : List ℕ
  pub opens : ℕ
  pub misses : ℕ

-- one more, in a count of 64 bits that stays at its last value
abbrev pub next_count : ℕ → ℕ
next_count n = min (n + 1) (2 ^ 64 - 1)

-- a count of 64 bits rose, or stands at its last value
abbrev pub Rose : ℕ → ℕ → Type 0
Rose before now = next_count before ≤ now

-- the bytes of the first file with this name
abbrev pub file_of : List (List ℕ × List ℕ) → List ℕ → Option (List ℕ)
file_of [] name = None
file_of (file ∷ files) name = if bytes_eq file.0 name then Some file.1 else file_of files name

-- where something was told before, something is told now, and the two are so related
abbrev pub Goes : Option Source → Option Source → (Source → Source → Type 0) → Type 0
Goes before now R = (old : Source) → before ≡ Some old → (new : Source) × (now ≡ Some new) × R old new

-- the named file is the current input, whole
pub record IsOpened (old new : Source) (name : List ℕ) : Type 0 where
  pub files : new.files ≡ old.files
  pub held : file_of old.files name ≡ Some new.held
  pub taken : new.taken ≡ []
  pub opens : new.opens ≡ next_count old.opens
  pub misses : new.misses ≡ old.misses

-- the current input is as before, and a name that no file has is counted
pub record IsNotOpened (old new : Source) (name : List ℕ) : Type 0 where
  pub files : new.files ≡ old.files
  pub held : new.held ≡ old.held
  pub taken : new.taken ≡ old.taken
  pub opens : new.opens ≡ old.opens
  pub misses : new.misses ≡ (if is_some (file_of old.files name) then old.misses else next_count old.misses)

abbrev pub Opens : {E : Type 0} → Source → Source → List ℕ → Result (Unit {0}) E → Type 0
Opens old new name (Ok _) = IsOpened old new name
Opens old new name (Err _) = IsNotOpened old new name

-- these bytes were taken from the front of what was left
pub record Takes (old new : Source) (bytes : List ℕ) : Type 0 where
  pub files : new.files ≡ old.files
  pub held : old.held ≡ bytes ++ new.held
  pub taken : new.taken ≡ old.taken ++ bytes
  pub opens : new.opens ≡ old.opens
  pub misses : new.misses ≡ old.misses

-- what a read leaves: it took the front of the buffer, nothing only at the end or without room, and nothing before a
-- file was opened
abbrev pub Reads : {E : Type 0} → Source → Source → List ℕ → Result ℕ E → Type 0
Reads old new buffer (Ok count) =
    Takes old new (take count buffer) × (count ≡ 0 → 0 < length buffer → old.held ≡ []) × (old.opens ≡ 0 → count ≡ 0)
Reads old new buffer (Err _) = new ≡ old

-- a count of faults never falls, stays where the call went well, and rose where it failed
pub record HasCause {T E : Type 0} (before now : ℕ) (result : Result T E) : Type 0 where
  pub later : before ≤ now
  pub calm : OnOk result (now ≡ before)
  pub failed : OnErr result (Rose before now)

-- what a program writes where a file could not be opened or read
abbrev pub fault_line : List ℕ
fault_line = codes "fault input\n"
