use Rattle.std.proofs.Common.{◌≡◌, [], map, take, drop}
use Rattle.rd_logs.specs.WholeLogs.{record_of}
use Rattle.rd_numbered_logs.specs.LogNames.{are_new, log_threads}
use Rattle.rd_numbered_logs.proofs.names.own_threads.Given as goal

abbrev pub invariant-loop-log : goal.invariant-loop-log
invariant-loop-log l = record {
  keys : l.names.keys ≡ take l.log-index (log_threads (map record_of l.logs));
  left : are_new [] (log_threads (map record_of l.logs)) ≡ are_new l.names.keys (drop l.log-index (log_threads (map record_of l.logs)));
}
