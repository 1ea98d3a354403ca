-- What the formula of two blocks says, by the code.
use Rattle.std.proofs.Common.{◌≡◌, ◌<◌, ◌≤◌, ℕ, true, cond, List, length, get_or, Some, Result, Ok, Err, IfOk, sym, ap, ◌∙◌, arith, subst}
use Rattle.std.specs.Prelude.{nat_le, unwrap_or}
use Rattle.std.proofs.lemmas.Bool.{le-leb}
use Rattle.std.proofs.lemmas.List.FromFn.{get_or-map-range_with_len, length-map-range_with_len}
use Rattle.rd_ecl.specs.declared.formulas.Predicate.{Predicate}
use Rattle.rd_ecl.specs.declared.reduction.Reduced.{Reduced}
use Rattle.rd_ecl.specs.declared.reduction.Reduced.TheVariants.{True}
use Rattle.rd_ecl.specs.Formulas.{Tree, truth}
use Rattle.rd_ecl.specs.Reduction.{AreListed, reduce_of}
use Rattle.rd_ecl.specs.Specified.{IsKind, SpecifiedKind, formula_at, method_predicates}
use Rattle.rd_ecl.proofs.ListedLemmas.{pair_listed}
use Rattle.rd_points.specs.Blocks.{ArePredicates}
use Rattle.rd_points.specs.Classes.{reduced_pair}

module _ (kind : SpecifiedKind) (predicates : List (List Predicate)) (are : ArePredicates kind predicates) where
  pub predicates_long : length predicates ≡ length kind.methods
  predicates_long = ap length are ∙ length-map-range_with_len (method_predicates kind) 0 (length kind.methods)

  -- those of a method, by its number
  pub predicates_read : (m n : ℕ) (p : List Predicate) → m < length kind.methods → n ≡ m → p ≡ get_or predicates n p → p ≡ method_predicates kind m
  predicates_read m n p known same e =
      e ∙ ap (λ k. get_or predicates k p) same ∙ ap (λ l. get_or l m p) are ∙ get_or-map-range_with_len (method_predicates kind) 0 (length kind.methods) m m p known (omega arith)

module _ (kind : SpecifiedKind) (m n : ℕ) (p q : List Predicate) (first : p ≡ method_predicates kind m) (second : q ≡ method_predicates kind n) where
  pub listed_here : IsKind kind → m ≤ n → n < length kind.methods → (f : Tree) → formula_at kind m n ≡ Some f → AreListed f p q
  listed_here is ordered known f found =
      subst (λ l. AreListed f l q) (sym first) (subst (λ l. AreListed f (method_predicates kind m) l) (sym second) (pair_listed kind m n f is ordered known found))

  pub one_way_is : {E : Type 0} (result : Result Reduced E) (v w : ℕ) (f : Tree) → m ≤ n → formula_at kind m n ≡ Some f
      → IfOk result (λ r. r ≡ reduce_of f p v q w) → IfOk result (λ r. r ≡ cond (nat_le m n) (reduced_pair kind m v n w) True)
  one_way_is (Err e) v w f ordered found h = tt
  one_way_is (Ok r) v w f ordered found h =
      h ∙ ap (λ l. reduce_of f l v q w) first ∙ ap (λ l. reduce_of f (method_predicates kind m) v l w) second
      ∙ ap (λ o. reduce_of (unwrap_or o (truth true)) (method_predicates kind m) v (method_predicates kind n) w) (sym found)
      ∙ ap (λ b. cond b (reduced_pair kind m v n w) True) (sym (le-leb m n ordered))
