use Rattle.std.proofs.Common.{◌<◌, ◌≤◌, ℕ, get_or, length, map}
use Rattle.rd_logs.specs.WholeLogs.{record_of}
use Rattle.rd_weave.specs.Answers.{events_of_log}
use Rattle.rd_weave.proofs.counts.is_left.Given as goal

abbrev pub invariant-loop-place : goal.invariant-loop-place
invariant-loop-place l = (log : ℕ) → log < l.place → length (events_of_log (map record_of l.logs) log) ≤ get_or l.counts log 0
