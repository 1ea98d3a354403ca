use Rattle.std.proofs.Common.{◌≡◌, ◌<◌, ℕ, get_or}
use Rattle.rd_ecl.specs.Specified.{names_of}
use Rattle.rd_pairs.proofs.numbers.number_of.Given as goal

abbrev pub invariant-loop-number : goal.invariant-loop-number
invariant-loop-number l = (k : ℕ) → k < l.number → get_or (names_of l.methods) k l.name ≡ l.name → ⊥
