use Rattle.std.proofs.Common.{ℕ, ◌<◌}
use Rattle.std.specs.Prelude.{IsTrue, slice_index}
use Rattle.std.specs.BTreeSet.{contains}
use Rattle.std.specs.Ordering.{nat_cmp}
use Rattle.rd_turns.proofs.waiting.Waiters.wake.Given as goal

abbrev pub invariant-loop-log : goal.invariant-loop-log
invariant-loop-log l = record {
  woken : (k : ℕ) → k < l.log-index → IsTrue (contains nat_cmp l.ready (slice_index l.log-items k));
  kept : (log : ℕ) → IsTrue (contains nat_cmp l.initial.ready log) → IsTrue (contains nat_cmp l.ready log);
}
