use Rattle.std.proofs.Common.{take}
use Rattle.rd_turns.specs.Standing.{AreLeftOpen}
use Rattle.rd_turns.proofs.tables.mark_open.Given as goal

abbrev pub invariant-loop-log : goal.invariant-loop-log
invariant-loop-log l = AreLeftOpen (take l.log-index l.logs) l.initial.threads l.threads
