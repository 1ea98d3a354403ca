-- The first broken rule, where flags tell which are broken.
use Rattle.std.proofs.Common.{◌≡◌, ◌≢◌, ℕ, zero, suc, ◌+◌, ◌<◌, ◌≤◌, Bool, true, false, cond, ◌==◌, List, ◌++◌, length, map, Option, Some, None, refl, sym, ap, ◌∙◌, arith}
use Rattle.std.specs.Prelude.{find}
use Rattle.std.specs.List.{range_with_len}
use Rattle.std.proofs.lemmas.Bool.Decides.{Decides-eqb, not_from_Decides}
use Rattle.rd_base.specs.declared.limits.Limits.{Limits}
use Rattle.rd_event.specs.declared.items.Line.{Line}
use Rattle.rd_rules.specs.declared.broken.Broken.{Broken}
use Rattle.rd_rules.specs.declared.causes.WfCause.{WfCause}
use Rattle.rd_rules.specs.declared.causes.WfCause.TheVariants.{LockHeld}
use Rattle.rd_rules.specs.Broken.{flag, nothing_broken}
use Rattle.rd_rules.specs.MayFollow.{passes, causes, threads_of}

module _ (broken : Broken) (rest : List WfCause) where
  -- the rest of the search from the number a on
  abbrev from : ℕ → ℕ → Option WfCause
  from a n = find (flag broken) (map LockHeld (range_with_len a n) ++ rest)

  pub none_holds : broken.held_by ≡ None → (a n : ℕ) → from a n ≡ find (flag broken) rest
  none_holds e a zero = refl
  none_holds e a (suc n) = ap (λ o. cond (passes o (λ other. other == a)) (Some (LockHeld a)) (from (a + 1) n)) e ∙ none_holds e (a + 1) n

  pub one_holds : (holder : ℕ) → broken.held_by ≡ Some holder → (a n : ℕ) → a ≤ holder → holder < a + n → from a n ≡ Some (LockHeld holder)
  one_holds holder e a zero least most = absurd (omega arith)
  one_holds holder e a (suc n) least most =
      ap (λ o. cond (passes o (λ other. other == a)) (Some (LockHeld a)) (from (a + 1) n)) e
      ∙ by (holder == a) refl (λ later. one_holds holder e (a + 1) n later (omega arith))
    where
      by : (b : Bool) → (holder == a) ≡ b → (a + 1 ≤ holder → from (a + 1) n ≡ Some (LockHeld holder)) → cond (holder == a) (Some (LockHeld a)) (from (a + 1) n) ≡ Some (LockHeld holder)
      by true is rest =
          let same : holder ≡ a = (Decides-eqb holder a).0 is in
          ap (λ b. cond b (Some (LockHeld a)) (from (a + 1) n)) is ∙ ap (λ n. Some (LockHeld n)) (sym same)
      by false is rest =
          let other : holder ≢ a = not_from_Decides _ (Decides-eqb holder a) is in
          ap (λ b. cond b (Some (LockHeld a)) (from (a + 1) n)) is ∙ rest (omega (arith, other))

-- where no rule is broken, no cause is found
pub none_found : (limits : Limits) (before : List Line) → find (flag nothing_broken) (causes limits before) ≡ None
none_found limits before = none_holds nothing_broken _ refl 0 (length (threads_of before))
