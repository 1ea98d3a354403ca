-- How a report ends, and its status. This project's profile.
use Rattle.rd_object.specs.declared.shapes.ReplayEnd.TheVariants.{Exact, Differs}
use Rattle.rd_object.specs.declared.shapes.ReplayEnd.{ReplayEnd}
use Rattle.rd_report.specs.declared.endings.Ending.TheVariants as report
use Rattle.rd_report.specs.declared.endings.Ending.{Ending}
use Rattle.rd_rules.specs.declared.causes.TraceCause.TheVariants as cause
use Rattle.rd_rules.specs.declared.causes.TraceCause.{TraceCause}
use Rattle.rd_walk.specs.Walk.{Entry, items}
use Rattle.rd_walk.specs.declared.status.Status.TheVariants.{Clean, Raced, TraceRefused, ReplayDiffers, InputFault, LimitReached}
use Rattle.rd_walk.specs.declared.status.Status.{Status}
use Rattle.rd_walk.specs.declared.walk.WalkEnd.TheVariants.{End, Refused, Fault}
use Rattle.rd_walk.specs.declared.walk.WalkEnd.{WalkEnd}
use Rattle.rd_rules.specs.MayFollow.{threads_of}
use Rattle.rd_rules.specs.declared.causes.WfCause.TheVariants as wf
use Rattle.rd_rules.specs.declared.causes.WfCause.{WfCause}
use Rattle.std.specs.Prelude.{ℕ, ◌==◌, Bool, true, false, List, if◌then◌else◌}

-- the names of the threads of the accepted lines, by their numbers
abbrev pub thread_names : List Entry → List (List ℕ)
thread_names entries = threads_of (items entries)

-- the cause is a limit
abbrev pub is_wf_limit : WfCause → Bool
is_wf_limit (wf.Limit name number) = true
is_wf_limit _ = false

abbrev pub is_limit : TraceCause → Bool
is_limit (cause.Wf broken) = is_wf_limit broken
is_limit (cause.Limit name number) = true
is_limit _ = false

-- of a replay alone
abbrev pub replay_status : ReplayEnd → Status
replay_status (Differs line expected) = ReplayDiffers
replay_status _ = Clean

unfoldable pub check_status : ℕ → Ending → Status
check_status races (report.End replay shown) = if races == 0 then replay_status replay else Raced
check_status races (report.Refused number cause) = if is_limit cause then LimitReached else TraceRefused
check_status races report.Fault = InputFault

-- that every order of the events which keeps what comes before what ends the same is shown where no call is reported and the replay
-- is exact, so that all objects are of built-in kinds
abbrev pub is_shown : ℕ → ReplayEnd → Bool
is_shown races Exact = races == 0
is_shown races _ = false

-- how a report ends of which so many calls are reported: as the walk does, and at the end of the trace with how the replay of the calls ends
abbrev pub ending_of_report : ℕ → ReplayEnd → WalkEnd → Ending
ending_of_report races replay End = report.End replay (is_shown races replay)
ending_of_report races replay (Refused number cause) = report.Refused number cause
ending_of_report races replay Fault = report.Fault
