-- What is held says the same where the open reads stand in another order.
use Rattle.std.proofs.Common.{◌≡◌, ⊎_elim, inl, inr, ℕ, ◌<◌, Bool, true, false, List, length, get_or, refl, sym, ap, subst, ◌∙◌, arith}
use Rattle.std.specs.Prelude.{AllPairs, IsPermutation}
use Rattle.std.specs.List.{swap}
use Rattle.std.proofs.lemmas.Bool.{cases_eq, cases_lt}
use Rattle.std.proofs.lemmas.List.Edits.{Swapped, length-swap, swapped_from_swap}
use Rattle.std.proofs.lemmas.List.Sorted.{Contains-permutation, IsPermutation-keeps, IsPermutation-sym}
use Rattle.rd_event.specs.declared.events.Event.{Event}
use Rattle.rd_epoch.specs.EpochParts.{IsLikeHeld}
use Rattle.rd_epoch.specs.Epochs.{AreOpen, HeldAccesses, HoldsOf, IsLastWrite}
use Rattle.rd_epoch.specs.declared.kept.Epoch.{Epoch}

-- ---- each two, in another order

-- where a place went when a and b changed places
moved_place : {X : Type 0} (f g : ℕ → X) (a b n : ℕ) → Swapped f g a b → a < n → b < n → (p : ℕ) → p < n
    → (s : ℕ) × (s < n) × (g p ≡ f s) × (p ≡ a → s ≡ b) × (p ≡ b → s ≡ a) × (¬ (p ≡ a) → ¬ (p ≡ b) → s ≡ p)
moved_place f g a b n sw la lb p lp = ⊎_elim
    (λ ea. (b, lb, ap g ea ∙ sw.0, (λ _. refl), (λ eb. omega (arith, ea, eb)), (λ u v. absurd (u ea))))
    (λ na. ⊎_elim
    (λ eb. (a, la, ap g eb ∙ sw.1, (λ e. absurd (na e)), (λ _. refl), (λ u v. absurd (v eb))))
    (λ nb. (p, lp, sw.2 p na nb, (λ e. absurd (na e)), (λ e. absurd (nb e)), (λ u v. refl)))
    (cases_eq p b))
    (cases_eq p a)

-- two places go to two places
two_places : (a b i j s t : ℕ) → ¬ (i ≡ j) → (i ≡ a → s ≡ b) → (i ≡ b → s ≡ a) → (¬ (i ≡ a) → ¬ (i ≡ b) → s ≡ i)
    → (j ≡ a → t ≡ b) → (j ≡ b → t ≡ a) → (¬ (j ≡ a) → ¬ (j ≡ b) → t ≡ j) → ¬ (s ≡ t)
two_places a b i j s t ne p q r x y z e = grind arith

module _ {X : Type 0} (R : X → X → Type 0) (flips : (x y : X) → R x y → R y x) where
  either : (l : List X) (s t : ℕ) (d : X) → AllPairs R l → ¬ (s ≡ t) → s < length l → t < length l → R (get_or l s d) (get_or l t d)
  either l s t d all ne ls lt = ⊎_elim (λ less. all s t d less lt) (λ more. flips _ _ (all t s d (omega (arith, more, ne)) ls)) (cases_lt s t)

  pub all_pairs_moved : (xs ys : List X) → IsPermutation xs ys → AllPairs R xs → AllPairs R ys
  all_pairs_moved xs ys p start = IsPermutation-keeps xs (AllPairs R) start (λ l a b la lb h i j d ij lj.
      let n = length l in
      let long = length-swap l a b in
      let sw = swapped_from_swap l (swap l a b) a b d la lb refl in
      let u = moved_place (λ i. get_or l i d) (λ i. get_or (swap l a b) i d) a b n sw la lb i (omega (arith, ij, lj, long)) in
      let v = moved_place (λ i. get_or l i d) (λ i. get_or (swap l a b) i d) a b n sw la lb j (omega (arith, lj, long)) in
      subst (λ x. R x (get_or (swap l a b) j d)) (sym u.2) (subst (R (get_or l u.0 d)) (sym v.2)
      (either l u.0 v.0 d h (two_places a b i j u.0 v.0 (λ e. omega (arith, ij, e)) u.3 u.4 u.5 v.3 v.4 v.5) u.1 v.1))) ys p

-- ---- what is held

open_like : (lines : List ℕ) (es : List Event) (v : ℕ) (one other : List Epoch) → IsPermutation one other → AreOpen lines es v one → AreOpen lines es v other
open_like lines es v one other moved are = record {
  only = λ epoch has. are.only epoch (Contains-permutation other one epoch (IsPermutation-sym one other moved) has);
  all = λ k at. ⊎_elim (λ kept. inl (kept.0, Contains-permutation one other kept.0 moved kept.1, kept.2)) (λ passed. inr passed) (are.all k at);
  one_each = all_pairs_moved (λ (a : Epoch) b. a.thread ≡ b.thread → ⊥) (λ x y apart same. apart (sym same)) one other moved are.one_each;
}

pub holds_like : (lines : List ℕ) (es : List Event) (v : ℕ) (one other : HeldAccesses) → IsLikeHeld one other → HoldsOf lines es v one one.raced → HoldsOf lines es v other other.raced
holds_like lines es v one other like is = subst (HoldsOf lines es v other) (sym like.raced) (by one.raced is)
  where
    by : (b : Bool) → HoldsOf lines es v one b → HoldsOf lines es v other b
    by true raced = raced
    by false quiet = record {
      quiet = quiet.quiet;
      write = subst (IsLastWrite lines es v) (sym like.write) quiet.write;
      reads = open_like lines es v one.reads other.reads like.reads quiet.reads;
    }
