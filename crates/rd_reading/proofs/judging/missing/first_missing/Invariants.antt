use Rattle.std.proofs.Common.{ℕ, ◌<◌, ◌≤◌, length}
use Rattle.std.specs.Prelude.{IsSome}
use Rattle.rd_ecl.specs.Specified.{formula_at}
use Rattle.rd_reading.proofs.judging.missing.first_missing.Given as goal

abbrev pub invariant-loop-first : goal.invariant-loop-first
invariant-loop-first l = (m n : ℕ) → m < l.first → m ≤ n → n < length l.kind.methods → IsSome (formula_at l.kind m n)
