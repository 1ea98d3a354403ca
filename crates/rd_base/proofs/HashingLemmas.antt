-- The parts of a text.
use Rattle.std.proofs.Common.{◌≡◌, ℕ, zero, suc, ◌<◌, ◌≤◌, nat_le, true, false, inl, inr, List, [], ◌∷◌, length, take, drop, refl, sym, ap, subst, arith}
use Rattle.std.proofs.lemmas.Bool.{cases_Bool}
use Rattle.std.proofs.lemmas.Bool.Decides.{nat_tests}
use Rattle.std.proofs.lemmas.List.{length-drop}
use Rattle.rd_base.specs.Hashing.{eights, eights_of}

-- how many parts there may be changes nothing where it is enough
same_eights : (k m : ℕ) (bytes : List ℕ) → length bytes ≤ k → length bytes ≤ m → eights k bytes ≡ eights m bytes
unfolding eights
same_eights zero zero bytes few fewer = refl
same_eights zero (suc m) bytes few fewer =
    let small : nat_le (length bytes) 8 ≡ true = grind (arith, nat_tests, few) in
    rw small refl
same_eights (suc k) zero bytes few fewer =
    let small : nat_le (length bytes) 8 ≡ true = grind (arith, nat_tests, fewer) in
    rw small refl
same_eights (suc k) (suc m) bytes few fewer =
    elim (cases_Bool (nat_le (length bytes) 8)) [
      | inl short ↦ rw short refl
      | inr long ↦
          let many : 8 < length bytes = grind (arith, nat_tests, long) in
          rw long (ap (λ rest. take 8 bytes ∷ rest)
          (same_eights k m (drop 8 bytes) (rw (length-drop 8 bytes) (omega (arith, few, many))) (rw (length-drop 8 bytes) (omega (arith, fewer, many)))))
    ]

-- of at most eight bytes there is one part
pub short_eights : (bytes : List ℕ) → length bytes ≤ 8 → eights_of bytes ≡ bytes ∷ []
unfolding eights
short_eights [] few = refl
short_eights (byte ∷ bytes) few =
    let small : nat_le (suc (length bytes)) 8 ≡ true = grind (arith, nat_tests, few) in
    rw small refl

-- of more the first eight are one
pub long_eights : (bytes rest : List ℕ) → 8 < length bytes → rest ≡ drop 8 bytes → eights_of bytes ≡ take 8 bytes ∷ eights_of rest
unfolding eights
long_eights [] rest many is = absurd (omega (arith, many))
long_eights (byte ∷ bytes) rest many is =
    let large : nat_le (suc (length bytes)) 8 ≡ false = grind (arith, nat_tests, many) in
    subst (λ rest. eights_of (byte ∷ bytes) ≡ take 8 (byte ∷ bytes) ∷ eights_of rest) (sym is)
    (rw large (ap (λ rest. take 8 (byte ∷ bytes) ∷ rest)
    (same_eights (length bytes) (length (drop 8 (byte ∷ bytes))) (drop 8 (byte ∷ bytes))
    (rw (length-drop 8 (byte ∷ bytes)) (omega (arith, many))) (omega arith))))
