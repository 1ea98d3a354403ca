-- What `weave` writes of logs with these bytes, and answers. This project's profile.
use Rattle.std.specs.Prelude.{ℕ, ◌+◌, ◌++◌, List, Option, Some, None, codes, decimal, flat_map, ⊤}
use Rattle.rd_base.specs.Limits.{limit_cause_text}
use Rattle.rd_base.specs.declared.limits.Limits.{Limits}
use Rattle.rd_event.specs.Items.{lines_text}
use Rattle.rd_log_files.specs.Gathered.{first_limit}
use Rattle.rd_log_files.specs.declared.unread.LogLimit.{LogLimit}
use Rattle.rd_walk.specs.Output.{Outcome}
use Rattle.rd_walk.specs.declared.status.Ended.TheVariants as ended
use Rattle.rd_walk.specs.declared.status.Ended.{Ended}
use Rattle.rd_walk.specs.declared.status.Status.TheVariants.{Clean, LimitReached, LogRefused}
use Rattle.rd_weave.specs.Answers.{WeaveAnswer, weave_answer}
use Rattle.rd_weave.specs.Answers.WeaveAnswer.{Bad, Stuck, Woven}

-- ---- the lines of refusals

-- a line of a log is refused: the number of the log and its own, from 1
unfoldable pub refused_at : ℕ → ℕ → List ℕ
refused_at log line = codes "refused log " ++ decimal log ++ (codes " line " ++ decimal line)

-- it is bad
abbrev pub bad_log_line : ℕ → ℕ → List ℕ
bad_log_line log line = refused_at log line ++ codes " bad-log\n"

-- a limit is passed there
abbrev pub log_limit_line : LogLimit → List ℕ
log_limit_line passed = refused_at passed.log passed.line ++ codes " " ++ limit_cause_text passed.name passed.number ++ codes "\n"

-- how many events of each log were placed, when no further one could be
abbrev pub placed_text : ℕ → List ℕ
placed_text count = codes " " ++ decimal count

abbrev pub stuck_line : List ℕ → List ℕ
stuck_line counts = codes "refused logs stuck" ++ flat_map placed_text counts ++ codes "\n"

-- ---- the outcome

abbrev pub limit_outcome : LogLimit → Outcome
limit_outcome passed = record { text = log_limit_line passed; status = LimitReached }

-- where the logs pass no limit, by what weaving them answers. It counts logs from 0
abbrev pub answer_outcome : WeaveAnswer → Outcome
answer_outcome (Bad bad) = record { text = bad_log_line (bad.log + 1) bad.line; status = LogRefused }
answer_outcome (Stuck counts) = record { text = stuck_line counts; status = LogRefused }
answer_outcome (Woven lines) = record { text = lines_text lines; status = Clean }

abbrev pub outcome_by : Option LogLimit → Outcome → Outcome
outcome_by (Some passed) other = limit_outcome passed
outcome_by None other = other

-- for logs with these bytes: the first limit that they pass, and else what weaving them answers
abbrev pub weave_outcome : Limits → List (List ℕ) → Outcome
weave_outcome limits logs = outcome_by (first_limit limits logs) (answer_outcome (weave_answer logs))

-- which ends `weave` may have
abbrev pub IsWeaveEnd : Ended → Type 0
IsWeaveEnd ended.Clean = ⊤
IsWeaveEnd ended.InputFault = ⊤
IsWeaveEnd ended.LimitReached = ⊤
IsWeaveEnd ended.LogRefused = ⊤
IsWeaveEnd _ = ⊥
