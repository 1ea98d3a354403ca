-- How the walk over a trace ends of which no line breaks a rule but for limits, and the statuses of a report on it: this project's profile.
use Rattle.std.specs.Prelude.{◌≡◌, ◌⊎◌, ℕ}
use Rattle.rd_base.specs.declared.limits.LimitName.{LimitName}
use Rattle.rd_walk.specs.Walk.{Walked, ending_of}
use Rattle.rd_walk.specs.declared.status.Status.TheVariants.{Clean, LimitReached, Raced}
use Rattle.rd_walk.specs.declared.status.Status.{Status}
use Rattle.rd_walk.specs.declared.walk.WalkEnd.TheVariants.{End, Refused}
use Rattle.rd_rules.specs.declared.causes.TraceCause.TheVariants.{Wf}
use Rattle.rd_rules.specs.declared.causes.WfCause.TheVariants.{Limit}

-- it ends at the end, or at a line that would pass a limit on counts
abbrev pub IsWellEnded : Walked → Type 0
IsWellEnded walked =
    (ending_of walked ≡ End)
    ⊎ ((line : ℕ) × (name : LimitName) × (most : ℕ) × (ending_of walked ≡ Refused line (Wf (Limit name most))))

-- no line is refused but by a limit, and in the replay no call differs
abbrev pub IsGeneratedStatus : Status → Type 0
IsGeneratedStatus status = (status ≡ Clean) ⊎ ((status ≡ Raced) ⊎ (status ≡ LimitReached))
