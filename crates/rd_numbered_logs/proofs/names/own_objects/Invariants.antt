use Rattle.std.proofs.Common.{◌≡◌, [], map, take, drop}
use Rattle.rd_logs.specs.WholeLogs.{record_of}
use Rattle.rd_numbered_logs.specs.LogNames.{are_new, declared_names}
use Rattle.rd_numbered_logs.proofs.names.own_objects.Given as goal

abbrev pub invariant-loop-log : goal.invariant-loop-log
invariant-loop-log l = record {
  keys : l.names.keys ≡ declared_names (take l.log-index (map record_of l.logs));
  left : are_new [] (declared_names (map record_of l.logs)) ≡ are_new l.names.keys (declared_names (drop l.log-index (map record_of l.logs)));
}
