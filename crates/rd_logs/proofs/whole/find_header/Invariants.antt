use Rattle.std.proofs.Common.{◌≡◌, ◌+◌, ◌≤◌, length}
use Rattle.rd_io.specs.Lines.{parts_of}
use Rattle.rd_logs.specs.WholeLogs.{log_from, log_of}
use Rattle.rd_logs.proofs.whole.find_header.Given as goal

abbrev pub invariant-loop-rest : goal.invariant-loop-rest
invariant-loop-rest l = record {
  same : log_of l.bytes ≡ log_from l.number (parts_of l.rest);
  few : l.number + length l.rest ≤ length l.bytes + 1;
}

abbrev pub decreases-loop-rest : goal.decreases-loop-rest
decreases-loop-rest l = length l.rest
