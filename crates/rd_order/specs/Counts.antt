-- How many numbers have a property.
use Rattle.std.specs.Prelude.{◌≡◌, ◌⊎◌, ℕ, zero, suc}

-- of the numbers below n, c have P
abbrev pub Counts : (ℕ → Type 0) → ℕ → ℕ → Type 0
Counts P zero c = c ≡ 0
Counts P (suc n) c = (P n × ((m : ℕ) × (c ≡ suc m) × Counts P n m)) ⊎ ((¬ (P n)) × Counts P n c)
