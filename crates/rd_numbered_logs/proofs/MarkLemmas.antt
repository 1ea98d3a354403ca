-- Marks of threads, one by one.
use Rattle.std.proofs.Common.{◌≡◌, inl, inr, ℕ, zero, suc, Some, slice_get, ◌+◌, ◌<◌, ◌≤◌, ◌==◌, ◌&&◌, ◌||◌, Bool, true, false, not, List, [], ◌∷◌, ◌++◌, length, take, get_or, set, refl, sym, ap, ◌∙◌, arith}
use Rattle.std.specs.List.{list_any}
use Rattle.std.proofs.lemmas.Bool.{cases_eq, eq-eqb, ne_eqb}
use Rattle.std.proofs.lemmas.List.{get_or-set_other, get_or-set_same, get_or_past}
use Rattle.rd_numbered_logs.proofs.NameLemmas.{item_taken}

-- an item of a list
pub item_got : {X : Type 0} (xs : List X) (i : ℕ) (x : X) → i < length xs → x ≡ get_or xs i x → slice_get xs i ≡ Some x
item_got [] i x within is = absurd (omega arith)
item_got (y ∷ ys) zero x within is = ap Some (sym is)
item_got (y ∷ ys) (suc i) x within is = item_got ys i x (omega (arith, within)) is

-- one test more
pub any_more : {X : Type 0} (test : X → Bool) (xs : List X) (i : ℕ) (x : X) → i < length xs → x ≡ get_or xs i x → list_any test (take (i + 1) xs) ≡ (list_any test (take i xs) || test x)
any_more {X = X} test xs i x within is = ap (list_any test) (item_taken xs i x within is) ∙ push (take i xs)
  where
    push : (front : List X) → list_any test (front ++ x ∷ []) ≡ (list_any test front || test x)
    push [] = by (test x)
      where
        by : (b : Bool) → (b || false) ≡ b
        by true = refl
        by false = refl
    push (y ∷ ys) = by (test y) (push ys)
      where
        by : (b : Bool) → list_any test (ys ++ x ∷ []) ≡ (list_any test ys || test x) → (b || list_any test (ys ++ x ∷ [])) ≡ ((b || list_any test ys) || test x)
        by true rest = refl
        by false rest = rest

-- a mark is set or taken
pub marked : (marks : List Bool) (k t : ℕ) → k < length marks → get_or (set marks k true) t false ≡ (get_or marks t false || (k == t))
marked marks k t within = elim (cases_eq k t) [
  | inl same ↦ ap (λ n. get_or (set marks k true) n false) (sym same) ∙ get_or-set_same marks k true false within ∙ sym (ap (λ b. get_or marks t false || b) (eq-eqb k t same) ∙ or_true (get_or marks t false))
  | inr other ↦ get_or-set_other marks k t true false (λ same. other (sym same)) ∙ sym (ap (λ b. get_or marks t false || b) (ne_eqb k t other) ∙ or_false (get_or marks t false))
]
  where
    or_true : (b : Bool) → (b || true) ≡ true
    or_true true = refl
    or_true false = refl

    or_false : (b : Bool) → (b || false) ≡ b
    or_false true = refl
    or_false false = refl

pub unmarked : (marks : List Bool) (k t : ℕ) → k < length marks → get_or (set marks k false) t false ≡ (get_or marks t false && not (k == t))
unmarked marks k t within = elim (cases_eq k t) [
  | inl same ↦ ap (λ n. get_or (set marks k false) n false) (sym same) ∙ get_or-set_same marks k false false within ∙ sym (ap (λ b. get_or marks t false && not b) (eq-eqb k t same) ∙ and_false (get_or marks t false))
  | inr other ↦ get_or-set_other marks k t false false (λ same. other (sym same)) ∙ sym (ap (λ b. get_or marks t false && not b) (ne_eqb k t other) ∙ and_true (get_or marks t false))
]
  where
    and_false : (b : Bool) → (b && false) ≡ false
    and_false true = refl
    and_false false = refl

    and_true : (b : Bool) → (b && true) ≡ b
    and_true true = refl
    and_true false = refl

pub unmarked_past : (marks : List Bool) (k t : ℕ) → length marks ≤ k → get_or marks t false ≡ (get_or marks t false && not (k == t))
unmarked_past marks k t past = elim (cases_eq k t) [
  | inl same ↦ (let none : get_or marks t false ≡ false = get_or_past marks t false (omega (arith, past, same)) in none ∙ sym (ap (λ b. b && not (k == t)) none))
  | inr other ↦ sym (ap (λ b. get_or marks t false && not b) (ne_eqb k t other) ∙ and_true (get_or marks t false))
]
  where
    and_true : (b : Bool) → (b && true) ≡ b
    and_true true = refl
    and_true false = refl

pub or_then : (was more one now : Bool) (next start : Bool) → was ≡ (start || more) → now ≡ (was || one) → next ≡ (more || one) → now ≡ (start || next)
or_then was more one now next start before step is = step ∙ ap (λ b. b || one) before ∙ by start ∙ sym (ap (λ b. start || b) is)
  where
    by : (s : Bool) → ((s || more) || one) ≡ (s || (more || one))
    by true = refl
    by false = refl

pub and_then : (was more one now : Bool) (next start : Bool) → was ≡ (start && not more) → now ≡ (was && not one) → next ≡ (more || one) → now ≡ (start && not next)
and_then was more one now next start before step is = step ∙ ap (λ b. b && not one) before ∙ by start more ∙ sym (ap (λ b. start && not b) is)
  where
    by : (s m : Bool) → ((s && not m) && not one) ≡ (s && not (m || one))
    by false m = refl
    by true true = refl
    by true false = refl
