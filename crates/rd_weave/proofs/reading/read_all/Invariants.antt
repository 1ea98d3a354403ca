use Rattle.std.proofs.Common.{◌≡◌, length, map, drop}
use Rattle.rd_logs.specs.WholeLogs.{log_texts, record_of}
use Rattle.rd_weave.specs.Answers.{records_from, records_of}
use Rattle.rd_weave.proofs.ReadingLemmas.{in_front}
use Rattle.rd_weave.proofs.reading.read_all.Given as goal

abbrev pub invariant-loop-log : goal.invariant-loop-log
invariant-loop-log l = record {
  same : records_of (log_texts l.logs) ≡ in_front (map record_of l.read.items) (records_from l.log-index (drop l.log-index (log_texts l.logs)));
  count : length l.read.items ≡ l.log-index;
}
