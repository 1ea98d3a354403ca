-- How far a text is read. Nobody has to believe this: the reader's contract speaks of the whole text alone.
use Rattle.std.specs.Prelude.{◌≡◌, ◌≤◌, ◌+◌, ◌⊎◌, ℕ, List, ◌++◌, length}
use Rattle.rd_reading.specs.Adding.{AcceptsSpecLine}
use Rattle.rd_reading.specs.Known.{nothing}
use Rattle.rd_reading.specs.declared.known.Known.{Known}
use Rattle.rd_reading.specs.Judging.{LineRefuses}
use Rattle.rd_pairs.specs.declared.refused.SpecLineRefused.{SpecLineRefused}
use Rattle.rd_pairs.specs.declared.refused.SpecLineRefused.TheVariants as line
use Rattle.rd_reading.specs.declared.parsing.ParseRefused.{ParseRefused}
use Rattle.rd_reading.specs.declared.parsing.ParseRefused.TheVariants.{Spec, NoMemory}
use Rattle.rd_reading.specs.Texts.{AreLines, IsSkipped, ReadsLines}

-- a line behind what is known: one that says nothing leaves it, one that is accepted leaves this
abbrev pub TakesLine : List (List ℕ) → Known → List ℕ → Known → Type 0
TakesLine taken known line next = (IsSkipped line × (next ≡ known)) ⊎ (¬ (IsSkipped line) × AcceptsSpecLine taken known line next)

-- a line that isn't skipped is refused
abbrev pub Stops : List (List ℕ) → Known → List ℕ → SpecLineRefused → Type 0
Stops taken known line refused = ¬ (IsSkipped line) × LineRefuses taken known line refused

-- so many lines of the text are read, and this is left of it
pub record IsHalfRead (taken : List (List ℕ)) (text rest : List ℕ) (number : ℕ) (known : Known) : Type 0 where
  pub before : List (List ℕ)
  pub ahead : (lines : List (List ℕ)) → AreLines rest lines → AreLines text (before ++ lines)
  pub reads : ReadsLines taken nothing before known
  pub count : number ≡ length before
  pub few : number + length rest ≤ length text

-- the text is read to its end, and has so many lines
pub record IsRead (taken : List (List ℕ)) (text : List ℕ) (number : ℕ) (known : Known) : Type 0 where
  pub lines : List (List ℕ)
  pub cut : AreLines text lines
  pub reads : ReadsLines taken nothing lines known
  pub count : number ≡ length lines

-- the refusal of the line with this number
abbrev pub at_line : ℕ → SpecLineRefused → ParseRefused
at_line number (line.Fault fault) = Spec (record { line = number; place = fault.place; cause = fault.cause })
at_line number line.NoMemory = NoMemory
