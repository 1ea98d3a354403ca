-- What is written of a trace of which nothing is written before its end. This project's profile.
use Rattle.std.specs.Prelude.{ℕ, List}
use Rattle.rd_report.specs.Endings.{check_status}
use Rattle.rd_report.specs.Texts.{refused_line}
use Rattle.rd_report.specs.declared.endings.Ending.TheVariants as report
use Rattle.rd_walk.specs.Output.{Outcome, fault_outcome}
use Rattle.rd_walk.specs.declared.walk.WalkEnd.TheVariants.{End, Refused, Fault}
use Rattle.rd_walk.specs.declared.walk.WalkEnd.{WalkEnd}

-- where the lines of a trace end so: this at its end, or the one line that says why a line was refused or that a read failed, as `replay`
-- writes it. The names are those of the threads.
abbrev pub ended_as : List (List ℕ) → Outcome → WalkEnd → Outcome
ended_as names whole End = whole
ended_as names whole (Refused number cause) =
    record { text = refused_line names number cause; status = check_status 0 (report.Refused number cause) }
ended_as names whole Fault = fault_outcome
