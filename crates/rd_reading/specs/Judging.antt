-- What a refusal of a line, and of the end, says: this project's profile.
use Rattle.std.specs.Prelude.{ℕ, List}
use Rattle.rd_reading.specs.Causes.{EndHas, Has}
use Rattle.rd_pairs.specs.Causes.{IsFirstOf}
use Rattle.rd_reading.specs.declared.known.Known.{Known}
use Rattle.rd_pairs.specs.declared.refused.SpecLineRefused.{SpecLineRefused}
use Rattle.rd_pairs.specs.declared.refused.SpecLineRefused.TheVariants.{Fault, NoMemory}
use Rattle.rd_tokens.specs.declared.sorts.Token.{Token}
use Rattle.rd_tokens.specs.Tokens.{AreTokens}

-- the first cause of the line behind what is known, where these names of kinds are taken; want of memory says nothing
abbrev pub LineRefuses : List (List ℕ) → Known → List ℕ → SpecLineRefused → Type 0
LineRefuses taken known line (Fault fault) = (tokens : List Token) × AreTokens line tokens × IsFirstOf (Has taken known line tokens) fault.cause fault.place
LineRefuses taken known line NoMemory = Unit {0}

-- the first cause of the end of the text
abbrev pub EndRefuses : Known → SpecLineRefused → Type 0
EndRefuses known (Fault fault) = IsFirstOf (EndHas known) fault.cause fault.place
EndRefuses known NoMemory = Unit {0}
