use Rattle.std.proofs.Common.{◌≡◌, ◌⊎◌, ℕ, None}
use Rattle.std.specs.Prelude.{IsTrue}
use Rattle.std.specs.BTreeSet.{btree_set_len, contains}
use Rattle.std.specs.Ordering.{nat_cmp}
use Rattle.rd_turns.specs.Standing.{next_step_of}
use Rattle.rd_turns.proofs.turns.next_giver.Given as goal

abbrev pub decreases-loop-first : goal.decreases-loop-first
decreases-loop-first l = btree_set_len l.ready

abbrev pub invariant-loop-first : goal.invariant-loop-first
invariant-loop-first l = (log : ℕ) → IsTrue (contains nat_cmp l.initial.ready log) → IsTrue (contains nat_cmp l.ready log) ⊎ (next_step_of l.logs l.tables log ≡ None)
