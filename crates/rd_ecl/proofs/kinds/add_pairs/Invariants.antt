use Rattle.std.proofs.Common.{◌≡◌, ◌≤◌, ◌+◌, ◌++◌, None, replicate}
use Rattle.std.specs.Prelude.{vec_len, vec_capacity}
use Rattle.rd_ecl.proofs.kinds.add_pairs.Given as goal
use Rattle.rd_base.specs.declared.limits.TheConstants.{MOST_METHODS}

abbrev pub invariant-loop : goal.invariant-loop
invariant-loop l = (l.pairs.items ≡ l.fn.pairs.items ++ replicate l.counter None) × (vec_len l.pairs + MOST_METHODS ≤ vec_capacity l.pairs + l.counter)
