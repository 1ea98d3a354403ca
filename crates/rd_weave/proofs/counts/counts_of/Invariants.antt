use Rattle.std.proofs.Common.{◌≡◌, ◌<◌, ℕ, get_or, length, take}
use Rattle.rd_weavings.specs.Logs.{given}
use Rattle.rd_weave.proofs.counts.counts_of.Given as goal

abbrev pub invariant-loop-spot : goal.invariant-loop-spot
invariant-loop-spot l = record {
  count : length l.counts.items ≡ l.logs;
  each : (log : ℕ) → log < l.logs → get_or l.counts.items log 0 ≡ given (take l.spot-index l.spots) log;
}
