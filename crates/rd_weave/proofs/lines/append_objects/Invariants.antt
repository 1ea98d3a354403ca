use Rattle.std.proofs.Common.{◌≡◌, ◌++◌, map, take}
use Rattle.rd_logs.specs.WholeLogs.{record_of}
use Rattle.rd_weave.specs.Answers.{object_lines}
use Rattle.rd_weave.proofs.lines.append_objects.Given as goal

abbrev pub invariant-loop-log : goal.invariant-loop-log
invariant-loop-log l = l.lines.items ≡ l.initial.lines.items ++ object_lines (take l.log-index (map record_of l.logs))
