-- The parts of a judgement. Nobody has to believe them: the contracts of the public functions speak of causes alone.
use Rattle.std.specs.Prelude.{◌≡◌, ◌≤◌, ◌<◌, ◌⊎◌, ℕ, List, length}
use Rattle.rd_base.specs.declared.limits.LimitName.TheVariants.{Methods, Arguments}
use Rattle.rd_pairs.specs.declared.spec_causes.Fault.{Fault}
use Rattle.rd_pairs.specs.declared.spec_causes.SpecCause.{SpecCause}
use Rattle.rd_pairs.specs.declared.spec_causes.SpecCause.TheVariants.{Limit, MissingPair}
use Rattle.rd_reading.specs.Causes.{LacksPair}
use Rattle.rd_pairs.specs.Causes.{place_at}
use Rattle.rd_ecl.specs.Specified.{SpecifiedKind}
use Rattle.rd_tokens.specs.declared.sorts.Token.{Token}
use Rattle.rd_base.specs.declared.limits.TheConstants.{MOST_ARGUMENTS, MOST_METHODS}

-- the kind has a pair missing, and the cause names the first
abbrev pub IsMissing : SpecifiedKind → SpecCause → Type 0
IsMissing kind cause = (first : List ℕ) × (second : List ℕ) × (cause ≡ MissingPair first second) × LacksPair kind first second

-- the line of a method with these arguments passes a limit, that of the methods first
abbrev pub IsPassed : SpecifiedKind → List ℕ → List Token → List (List ℕ) → Fault → Type 0
IsPassed kind line tokens arguments fault =
    ((MOST_METHODS ≤ length kind.methods) × (fault ≡ record { place = place_at line tokens 1; cause = Limit Methods MOST_METHODS }))
    ⊎ ((length kind.methods < MOST_METHODS) × (MOST_ARGUMENTS < length arguments)
    × (fault ≡ record { place = place_at line tokens 8; cause = Limit Arguments MOST_ARGUMENTS }))
