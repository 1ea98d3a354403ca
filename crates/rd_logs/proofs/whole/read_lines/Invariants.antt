use Rattle.std.proofs.Common.{◌≡◌, ◌+◌, ◌≤◌, length}
use Rattle.rd_io.specs.Lines.{parts_of}
use Rattle.rd_logs.specs.WholeLogs.{in_front, log_lines_from, said_in}
use Rattle.rd_logs.proofs.whole.read_lines.Given as goal

abbrev pub invariant-loop-rest : goal.invariant-loop-rest
invariant-loop-rest l = record {
  same : log_lines_from l.thread l.first (parts_of l.bytes) ≡ in_front (said_in l.said) (log_lines_from l.thread l.number (parts_of l.rest));
  few : l.number + length l.rest ≤ l.first + length l.bytes;
}

abbrev pub decreases-loop-rest : goal.decreases-loop-rest
decreases-loop-rest l = length l.rest
