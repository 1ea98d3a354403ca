-- Which limit logs pass: this project's profile.
use Rattle.std.specs.Prelude.{ℕ, ◌+◌, ◌≤◌, All, ⊤, count_by, nat_le, not, sum_by, if◌then◌else◌, List, [], ◌∷◌, Option, Some, None, Result, Ok, Err}
use Rattle.rd_base.specs.declared.limits.LimitName.TheVariants.{Bytes, Line, Events}
use Rattle.rd_base.specs.declared.limits.Limits.{Limits}
use Rattle.rd_event.specs.Items.{is_skipped}
use Rattle.rd_io.specs.Lines.{LinesEnding, Reading, reading}
use Rattle.rd_io.specs.Lines.LinesEnding.{line_too_long, bytes_limit}
use Rattle.rd_io.specs.Lines.Reading.{stops, line}
use Rattle.rd_io.specs.Lines.Stop.{end}
use Rattle.rd_log_files.specs.declared.unread.LogLimit.{LogLimit}

-- What follows where the lines of a log end so in front of the line with this number: a limit is passed there, or there are this many lines
-- that aren't skipped in all.
abbrev pub ended_log : Limits → ℕ → ℕ → ℕ → LinesEnding → Result ℕ LogLimit
ended_log limits log events number line_too_long = Err (record { log = log; line = number; name = Line; number = limits.line })
ended_log limits log events number bytes_limit = Err (record { log = log; line = number; name = Bytes; number = limits.bytes })
ended_log limits log events number _ = Ok events

-- The lines of a log from the one with this number on, behind so many that aren't skipped, in it and in the logs before it: how many these are with
-- those of the log, or the first limit that it passes. Each line that isn't skipped is one more, and `limits.events` is passed at the one
-- with which there are more.
unfoldable pub counted_lines : Limits → ℕ → ℕ → ℕ → Reading → Result ℕ LogLimit
counted_lines limits log events number (stops ending) = ended_log limits log events number ending
counted_lines limits log events number (line bytes more) =
    if is_skipped bytes then counted_lines limits log events (number + 1) more
    else if nat_le limits.events events then Err (record { log = log; line = number; name = Events; number = limits.events })
    else counted_lines limits log (events + 1) (number + 1) more

-- the lines of a log with these bytes, under the limits on a line and on bytes
abbrev pub log_reading : Limits → List ℕ → Reading
log_reading limits bytes = reading limits.line limits.bytes end bytes

-- the same of all lines of a log
abbrev pub counted_log : Limits → ℕ → ℕ → List ℕ → Result ℕ LogLimit
counted_log limits log events bytes = counted_lines limits log events 1 (log_reading limits bytes)

abbrev pub passed_or : Result ℕ LogLimit → (ℕ → Option LogLimit) → Option LogLimit
passed_or (Ok events) more = more events
passed_or (Err passed) more = Some passed

-- the first limit that is passed by logs from the one with this number on, behind so many lines that aren't skipped
unfoldable pub first_limit_from : Limits → ℕ → ℕ → List (List ℕ) → Option LogLimit
first_limit_from limits log events [] = None
first_limit_from limits log events (bytes ∷ logs) = passed_or (counted_log limits log events bytes) (λ more. first_limit_from limits (log + 1) more logs)

-- the first limit that logs with these bytes pass, with the number of the log and of its line, from 1
abbrev pub first_limit : Limits → List (List ℕ) → Option LogLimit
first_limit limits logs = first_limit_from limits 1 0 logs

-- ---- where no limit is passed

-- the lines of a log up to where the reader stops, and how they end
unfoldable pub given_lines : Reading → List (List ℕ)
given_lines (stops ending) = []
given_lines (line bytes more) = bytes ∷ given_lines more

unfoldable pub lines_ending : Reading → LinesEnding
lines_ending (stops ending) = ending
lines_ending (line bytes more) = lines_ending more

-- how many lines aren't skipped, of a log that is read so
abbrev pub lines_not_skipped : Reading → ℕ
lines_not_skipped lines = count_by (λ bytes. not (is_skipped bytes)) (given_lines lines)

-- they end by no limit
abbrev pub EndsWithin : LinesEnding → Type 0
EndsWithin line_too_long = ⊥
EndsWithin bytes_limit = ⊥
EndsWithin _ = ⊤

-- the logs pass no limit: the lines of each end by none, and in all there are no more that aren't skipped than may be
pub record AreWithin (limits : Limits) (logs : List (List ℕ)) : Type 0 where
  pub ends : All (λ bytes. EndsWithin (lines_ending (log_reading limits bytes))) logs
  pub few : sum_by (λ bytes. lines_not_skipped (log_reading limits bytes)) logs ≤ limits.events
