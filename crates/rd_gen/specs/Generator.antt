-- What a generator has still to give.
use Rattle.std.specs.Prelude.{ℕ, ◌<◌, ◌≤◌, Bool, List, [], ◌∷◌, ◌++◌, drop, Option, Some, None, ⊤}
use Rattle.rd_event.specs.declared.items.Line.{Line}
use Rattle.rd_kinds.specs.Machines.{Entries}
use Rattle.rd_gen.specs.Generated.{call_of, choice_of, closing_lines, entries_after, opening_lines, release_of, lines_of_turns}
use Rattle.rd_gen.specs.declared.generator.Stage.{Stage}
use Rattle.rd_gen.specs.declared.generator.Stage.TheVariants.{Opening, Turning, Calling, Releasing, Closing}

-- the lines that a generator has still to give, and whether it has failed
pub record Generating : Type 0 where
  pub lines : List Line
  pub failed : Bool

-- the lines from a stage on
abbrev pub lines_from : Stage → Bool → ℕ → ℕ → Entries → List Line
lines_from (Opening given) locked left number entries = drop given opening_lines ++ lines_of_turns locked left number entries
lines_from Turning locked left number entries = lines_of_turns locked left number entries
lines_from Calling locked left number entries =
    call_of (choice_of number) entries ∷ release_of (choice_of number) ∷ lines_of_turns locked left number (entries_after (choice_of number) entries)
lines_from Releasing locked left number entries = release_of (choice_of number) ∷ lines_of_turns locked left number entries
lines_from (Closing given) locked left number entries = drop given (closing_lines entries)

-- the first of some lines, and those behind it
abbrev pub first_of : List Line → Option Line
first_of [] = None
first_of (line ∷ lines) = Some line

abbrev pub behind_first : List Line → List Line
behind_first [] = []
behind_first (line ∷ lines) = lines

-- no more of the first and of the last lines were given than there are
abbrev pub IsStage : Stage → Type 0
IsStage (Opening given) = given < 7
IsStage (Closing given) = given ≤ 5
IsStage _ = ⊤
