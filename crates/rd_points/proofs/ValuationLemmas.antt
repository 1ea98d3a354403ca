-- How large the valuation of a call is.
use Rattle.std.proofs.Common.{◌+◌, ◌*◌, ◌^◌, ◌<◌, ◌≤◌, ℕ, zero, suc, Bool, true, false, cond, List, [], ◌∷◌, length, drop, length-drop, arith}
use Rattle.std.proofs.Math.Nat.{pow-suc}
use Rattle.rd_base.specs.declared.values.Value.{Value}
use Rattle.rd_ecl.specs.declared.formulas.Predicate.{Predicate}
use Rattle.rd_ecl.specs.Reduction.{predicate_holds}
use Rattle.rd_points.specs.Classes.{bits_of}

pub bits_below : (ps : List Predicate) (slots : List Value) → bits_of ps slots < 2 ^ length ps
bits_below [] slots = let few : 0 < 1 = omega arith in few
bits_below (p ∷ ps) slots = by (predicate_holds p slots) (bits_of ps slots) (bits_below ps slots)
  where
    by : (b : Bool) (r : ℕ) → r < 2 ^ length ps → cond b 1 0 + 2 * r < 2 ^ suc (length ps)
    by true r h = omega (arith, h, pow-suc 2 (length ps))
    by false r h = omega (arith, h, pow-suc 2 (length ps))

few_bits : (n : ℕ) → n ≤ 5 → 2 ^ n ≤ 32
few_bits zero h = omega arith
few_bits (suc zero) h = omega arith
few_bits (suc (suc zero)) h = omega arith
few_bits (suc (suc (suc zero))) h = omega arith
few_bits (suc (suc (suc (suc zero)))) h = omega arith
few_bits (suc (suc (suc (suc (suc zero))))) h = omega arith
few_bits (suc (suc (suc (suc (suc (suc n)))))) h = absurd (omega arith)

pub bits_small : (ps : List Predicate) (slots : List Value) (i : ℕ) → length ps ≤ 5 → bits_of (drop i ps) slots < 32
bits_small ps slots i few =
    let fewer : length (drop i ps) ≤ 5 = omega (arith, length-drop i ps) in
    omega (arith, bits_below (drop i ps) slots, few_bits (length (drop i ps)) fewer)

pub bit_small : (b : Bool) → cond b 1 0 ≤ 1
bit_small true = omega arith
bit_small false = omega arith
