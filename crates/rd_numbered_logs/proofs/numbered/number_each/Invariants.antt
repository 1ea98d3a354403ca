use Rattle.std.proofs.Common.{◌≡◌, ◌≤◌, length, map, take}
use Rattle.rd_logs.specs.WholeLogs.{record_of}
use Rattle.rd_numbered_logs.specs.LogNames.{mentioning_in}
use Rattle.rd_numbered_logs.specs.Numbering.{AreNumberedLogs}
use Rattle.rd_numbered_logs.proofs.numbered.number_each.Given as goal

abbrev pub invariant-loop-thread : goal.invariant-loop-thread
invariant-loop-thread l = record {
  names : l.names ≡ mentioning_in l.initial.names (take l.thread (map record_of l.logs));
  logs : AreNumberedLogs l.names (take l.thread (map record_of l.logs)) l.numbered.items;
  known : length l.initial.names.threads ≤ length l.names.threads;
}
