use Rattle.std.proofs.Common.{◌≡◌, length}
use Rattle.rd_turns.proofs.waiting.counts.Given as goal

abbrev pub invariant-loop-log : goal.invariant-loop-log
invariant-loop-log l = length l.counts.items ≡ l.logs.locks

abbrev pub invariant-loop-step : goal.invariant-loop-step
invariant-loop-step l = length l.counts.items ≡ l.logs.locks
