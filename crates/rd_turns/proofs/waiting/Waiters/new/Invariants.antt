use Rattle.std.proofs.Common.{◌≡◌, length}
use Rattle.rd_turns.proofs.waiting.Waiters.new.Given as goal

abbrev pub invariant-loop : goal.invariant-loop
invariant-loop l = length l.slots.items ≡ l.counter
