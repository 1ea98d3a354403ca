-- The front of an input: this project's profile.
use Rattle.std.specs.Prelude.{◌≡◌, ◌⊎◌, ◌≤◌, ℕ, List, [], take, length}
use Rattle.rd_io.specs.Inputs.{Source, Takes}

-- these bytes were taken: the first so many of what was left, or all of it where there are fewer
pub record TakesFront (most : ℕ) (old new : Source) (bytes : List ℕ) : Type 0 where
  pub takes : Takes old new bytes
  pub front : bytes ≡ take most old.held
  pub whole : (length bytes ≡ most) ⊎ (new.held ≡ [])

-- some bytes were taken, no more than so many
abbrev pub TakesSome : ℕ → Source → Source → Type 0
TakesSome most old new = (bytes : List ℕ) × (length bytes ≤ most) × Takes old new bytes
