use Rattle.std.proofs.Common.{◌≡◌, ℕ, ◌<◌, true, false, length}
use Rattle.std.specs.Prelude.{slice_index_or}
use Rattle.rd_turns.specs.Standing.{no_state}
use Rattle.rd_turns.proofs.tables.threads_of.Given as goal

abbrev pub invariant-loop-known : goal.invariant-loop-known
invariant-loop-known l = record {
  filled : length l.threads.items ≡ l.known-index;
  each : (thread : ℕ) → thread < l.known-index → slice_index_or l.threads.items thread no_state ≡ record { known = slice_index_or l.roots thread false; joined = false; ended = true };
}
