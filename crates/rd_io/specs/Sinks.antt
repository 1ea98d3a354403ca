-- Sinks of bytes. This project's profile.
use Rattle.std.specs.Prelude.{◌≡◌, ◌==◌, ◌&&◌, ℕ, nat_lt, Bool, true, List, Option, Some, ◌++◌, take, length, Result, Ok, Err}

-- where it is told what was written, these bytes are behind it now
abbrev pub Appends : Option (List ℕ) → Option (List ℕ) → List ℕ → Type 0
Appends before now bytes = (written : List ℕ) → before ≡ Some written → now ≡ Some (written ++ bytes)

-- what a write leaves: a front of the part was written, or nothing
abbrev pub Writes : {E : Type 0} → Option (List ℕ) → Option (List ℕ) → List ℕ → Result ℕ E → Type 0
Writes before now bytes (Ok count) = Appends before now (take count bytes)
Writes before now bytes (Err _) = now ≡ before

-- a write failed, or took nothing of a part that isn't empty
abbrev pub is_failed : {E : Type 0} → List ℕ → Result ℕ E → Bool
is_failed part (Ok count) = (count == 0) && nat_lt 0 (length part)
is_failed part (Err _) = true
