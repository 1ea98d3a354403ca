-- The first broken rule, where flags tell which are broken.
use Rattle.std.proofs.Common.{◌≡◌, inl, inr, ℕ, zero, suc, ◌+◌, ◌<◌, ◌≤◌, Bool, true, false, cond, ◌==◌, List, ◌++◌, map, Option, Some, None, IfSome, refl, sym, ap, ◌∙◌, arith}
use Rattle.std.specs.Prelude.{find}
use Rattle.std.specs.List.{range_with_len}
use Rattle.std.proofs.lemmas.Bool.{cases_eq}
use Rattle.rd_rules.specs.declared.causes.WfCause.{WfCause}
use Rattle.rd_rules.specs.declared.causes.WfCause.TheVariants.{LockHeld}
use Rattle.rd_rules.specs.declared.broken.Broken.{Broken}
use Rattle.rd_rules.specs.MayFollow.{passes}
use Rattle.rd_rules.specs.Broken.{flag}
use Rattle.rd_tables.specs.Sharers.{IsLeast}
use Rattle.rd_rules.proofs.CauseLemmas.{one_holds}

-- ---- of the threads, the one that has the lock

module _ (f g : WfCause → Bool) (rest : List WfCause) (same : find f rest ≡ find g rest) where
  -- where two tests agree on what stands behind the holders and on these, they find the same
  pub same_found : (a n : ℕ) → ((holder : ℕ) → holder < a + n → f (LockHeld holder) ≡ g (LockHeld holder))
      → find f (map LockHeld (range_with_len a n) ++ rest) ≡ find g (map LockHeld (range_with_len a n) ++ rest)
  same_found a zero agree = same
  same_found a (suc n) agree =
      let later = same_found (a + 1) n (λ holder below. agree holder (omega arith)) in
      λ i. cond (agree a (omega arith) i) (Some (LockHeld a)) (later i)

-- the first number that passes the test is found
first_holds : (f : WfCause → Bool) (rest : List WfCause) (holder : ℕ) → f (LockHeld holder) ≡ true → ((n : ℕ) → n < holder → f (LockHeld n) ≡ false)
    → (a n : ℕ) → a ≤ holder → holder < a + n → find f (map LockHeld (range_with_len a n) ++ rest) ≡ Some (LockHeld holder)
first_holds f rest holder is before a zero least most = absurd (omega arith)
first_holds f rest holder is before a (suc n) least most = elim (cases_eq a holder) [
  | inl same ↦
      let here : f (LockHeld a) ≡ true = ap (λ n. f (LockHeld n)) same ∙ is in
      ap (λ b. cond b (Some (LockHeld a)) (find f (map LockHeld (range_with_len (a + 1) n) ++ rest))) here ∙ ap (λ n. Some (LockHeld n)) same
  | inr other ↦
      ap (λ b. cond b (Some (LockHeld a)) (find f (map LockHeld (range_with_len (a + 1) n) ++ rest))) (before a (omega arith))
      ∙ first_holds f rest holder is before (a + 1) n (omega arith) (omega arith)
]

module _ (f : WfCause → Bool) (broken : Broken) (rest : List WfCause) (count : ℕ) (same : find f rest ≡ find (flag broken) rest) (test : ℕ → Bool)
    (agree : (n : ℕ) → n < count → f (LockHeld n) ≡ test n) where
  -- where the thread that is told is the least that stands against the line, both searches find the same
  pub least_found : IsLeast test broken.held_by → IfSome broken.held_by (λ holder. holder < count)
      → find f (map LockHeld (range_with_len 0 count) ++ rest) ≡ find (flag broken) (map LockHeld (range_with_len 0 count) ++ rest)
  least_found = by broken.held_by refl
    where
      by : (o : Option ℕ) → broken.held_by ≡ o → IsLeast test o → IfSome o (λ holder. holder < count)
          → find f (map LockHeld (range_with_len 0 count) ++ rest) ≡ find (flag broken) (map LockHeld (range_with_len 0 count) ++ rest)
      by None e least within =
          same_found f (flag broken) rest same 0 count
          (λ n below. agree n (omega arith) ∙ least n ∙ sym (ap (λ o. passes o (λ other. other == n)) e))
      by (Some holder) e least within =
          first_holds f rest holder (agree holder within ∙ least.0) (λ n before. agree n (omega (arith, within)) ∙ least.1 n before) 0 count (omega arith) (omega (arith, within))
          ∙ sym (one_holds broken rest holder e 0 count (omega arith) (omega (arith, within)))
