use Rattle.std.proofs.Common.{ℕ, ◌<◌}
use Rattle.rd_turns.specs.Waiting.{HasSlots, KnowsLog}
use Rattle.rd_turns.proofs.waiting.Waiting.of.Given as goal

abbrev pub invariant-loop-log : goal.invariant-loop-log
invariant-loop-log l = record {
  slots : HasSlots l.logs l.waiting;
  known : (log : ℕ) → log < l.log → KnowsLog l.logs l.waiting log;
}
