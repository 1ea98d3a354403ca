-- A pair put in its place.
use Rattle.std.proofs.Common.{◌≡◌, ℕ, List, ◌++◌, take, drop}
use Rattle.rd_ecl.specs.SlotPairs.{insert_pair}

-- the places before i are those of smaller pairs
abbrev pub Splits : ℕ × ℕ → List (ℕ × ℕ) → ℕ → Type 0
Splits x ps i = insert_pair x ps ≡ take i ps ++ insert_pair x (drop i ps)
