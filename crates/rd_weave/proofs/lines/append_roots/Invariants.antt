use Rattle.std.proofs.Common.{◌≡◌, ◌++◌, false, get_or, map, drop}
use Rattle.rd_logs.specs.WholeLogs.{record_of}
use Rattle.rd_weave.specs.Answers.{root_lines}
use Rattle.rd_weave.proofs.lines.append_roots.Given as goal

abbrev pub invariant-loop-place : goal.invariant-loop-place
invariant-loop-place l =
    l.initial.lines.items ++ root_lines (λ thread. get_or l.roots thread false) 0 (map record_of l.logs)
    ≡ l.lines.items ++ root_lines (λ thread. get_or l.roots thread false) l.place (drop l.place (map record_of l.logs))
