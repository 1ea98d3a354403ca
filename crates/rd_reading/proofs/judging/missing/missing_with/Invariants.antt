use Rattle.std.proofs.Common.{ℕ, ◌<◌, ◌≤◌}
use Rattle.std.specs.Prelude.{IsSome}
use Rattle.rd_ecl.specs.Specified.{formula_at}
use Rattle.rd_reading.proofs.judging.missing.missing_with.Given as goal

abbrev pub invariant-loop-second : goal.invariant-loop-second
invariant-loop-second l = (n : ℕ) → l.first ≤ n → n < l.second → IsSome (formula_at l.kind l.first n)
