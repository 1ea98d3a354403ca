-- The numbers of those members of a list that pass a test.
use Rattle.std.proofs.Common.{◌≡◌, ◌+◌, ◌<◌, ◌≤◌, ℕ, zero, suc, Bool, true, false, cond, List, [], ◌∷◌, ◌++◌, length, map, Some, refl, ap, ◌∙◌, arith, subst}
use Rattle.std.specs.Prelude.{Contains, slice_get, slice_index}
use Rattle.std.specs.List.Sorted.{IsStrictlyIncreasing}
use Rattle.std.proofs.lemmas.Option.{none-some, same_Some}
use Rattle.rd_points.specs.Compiled.{numbers_from}

module _ {X : Type 0} (test : X → Bool) where
  -- a member of the list that passes has the number
  abbrev pub Passes : List X → ℕ → ℕ → Type 0
  Passes xs n j = (i : ℕ) × (x : X) × (slice_get xs i ≡ Some x) × (test x ≡ true) × (j ≡ n + i)

  pub number_has : (xs : List X) (n j : ℕ) → Contains (numbers_from n test xs) j → Passes xs n j
  number_has [] n j h = absurd (omega (arith, h.1))
  number_has (x ∷ xs) n j h = by (test x) refl h (number_has xs (n + 1) j)
    where
      later : Passes xs (n + 1) j → Passes (x ∷ xs) n j
      later (i, y, at, passes, e) = (suc i, y, at, passes, omega (arith, e))

      by : (b : Bool) → test x ≡ b → Contains (cond b (n ∷ numbers_from (n + 1) test xs) (numbers_from (n + 1) test xs)) j
          → (Contains (numbers_from (n + 1) test xs) j → Passes xs (n + 1) j) → Passes (x ∷ xs) n j
      by true passes (zero, within, e) rest = (zero, x, refl, passes, omega (arith, e))
      by true passes (suc k, within, e) rest = later (rest (k, omega (arith, within), e))
      by false fails h rest = later (rest h)

  pub has_number : (xs : List X) (n i : ℕ) (x : X) → slice_get xs i ≡ Some x → test x ≡ true → Contains (numbers_from n test xs) (n + i)
  has_number [] n i x at passes = absurd (none-some x at)
  has_number (y ∷ xs) n zero x at passes = by (test y) (ap test (same_Some y x at) ∙ passes)
    where
      by : (b : Bool) → b ≡ true → Contains (cond b (n ∷ numbers_from (n + 1) test xs) (numbers_from (n + 1) test xs)) (n + 0)
      by true e = (0, omega arith, omega arith)
      by false e = absurd (cc)
  has_number (y ∷ xs) n (suc i) x at passes = by (test y) (subst (λ k. Contains (numbers_from (n + 1) test xs) k) (omega arith) (has_number xs (n + 1) i x at passes))
    where
      by : (b : Bool) → Contains (numbers_from (n + 1) test xs) (n + suc i) → Contains (cond b (n ∷ numbers_from (n + 1) test xs) (numbers_from (n + 1) test xs)) (n + suc i)
      by true (k, within, e) = (suc k, omega (arith, within), e)
      by false h = h

  pub numbers-append : (xs ys : List X) (n : ℕ) → numbers_from n test (xs ++ ys) ≡ numbers_from n test xs ++ numbers_from (n + length xs) test ys
  numbers-append [] ys n = ap (λ k. numbers_from k test ys) (let e : n ≡ n + 0 = omega arith in e)
  numbers-append (x ∷ xs) ys n = by (test x) (numbers-append xs ys (n + 1) ∙ ap (λ k. numbers_from (n + 1) test xs ++ numbers_from k test ys) (let e : n + 1 + length xs ≡ n + suc (length xs) = omega arith in e))
    where
      by : (b : Bool) → numbers_from (n + 1) test (xs ++ ys) ≡ numbers_from (n + 1) test xs ++ numbers_from (n + suc (length xs)) test ys
          → cond b (n ∷ numbers_from (n + 1) test (xs ++ ys)) (numbers_from (n + 1) test (xs ++ ys))
          ≡ cond b (n ∷ numbers_from (n + 1) test xs) (numbers_from (n + 1) test xs) ++ numbers_from (n + suc (length xs)) test ys
      by true e = ap (λ l. n ∷ l) e
      by false e = e

  -- none is below the first
  numbers_from_first : (xs : List X) (n k : ℕ) → k < length (numbers_from n test xs) → n ≤ slice_index (numbers_from n test xs) k
  numbers_from_first [] n k h = absurd (omega arith)
  numbers_from_first (x ∷ xs) n k h = by (test x) k h (numbers_from_first xs (n + 1))
    where
      by : (b : Bool) (k : ℕ) → k < length (cond b (n ∷ numbers_from (n + 1) test xs) (numbers_from (n + 1) test xs))
          → ((k : ℕ) → k < length (numbers_from (n + 1) test xs) → n + 1 ≤ slice_index (numbers_from (n + 1) test xs) k)
          → n ≤ slice_index (cond b (n ∷ numbers_from (n + 1) test xs) (numbers_from (n + 1) test xs)) k
      by true zero h rest = omega arith
      by true (suc k) h rest = omega (arith, rest k (omega arith))
      by false k h rest = omega (arith, rest k h)

  pub numbers_rise : (xs : List X) (n : ℕ) → IsStrictlyIncreasing (numbers_from n test xs)
  numbers_rise [] n k h = absurd (omega arith)
  numbers_rise (x ∷ xs) n k h = by (test x) (numbers_rise xs (n + 1)) k h
    where
      by : (b : Bool) → IsStrictlyIncreasing (numbers_from (n + 1) test xs) → IsStrictlyIncreasing (cond b (n ∷ numbers_from (n + 1) test xs) (numbers_from (n + 1) test xs))
      by true rest zero h = omega (arith, numbers_from_first xs (n + 1) 0 (omega arith))
      by true rest (suc k) h =
          subst (λ j. slice_index (numbers_from (n + 1) test xs) k < slice_index (n ∷ numbers_from (n + 1) test xs) j)
          (let e : suc (k + 1) ≡ suc k + 1 = omega arith in e) (rest k (omega arith))
      by false rest k h = rest k h

-- the numbers of those whose image passes
pub numbers-map : {X Y : Type 0} (test : Y → Bool) (f : X → Y) (xs : List X) (n : ℕ) → numbers_from n test (map f xs) ≡ numbers_from n (λ x. test (f x)) xs
numbers-map test f [] n = refl
numbers-map test f (x ∷ xs) n = ap (λ l. cond (test (f x)) (n ∷ l) l) (numbers-map test f xs (n + 1))

-- tests that agree
pub numbers_agree : {X : Type 0} (test other : X → Bool) → ((x : X) → test x ≡ other x) → (xs : List X) (n : ℕ) → numbers_from n test xs ≡ numbers_from n other xs
numbers_agree test other h [] n = refl
numbers_agree test other h (x ∷ xs) n =
    ap (λ l. cond (test x) (n ∷ l) l) (numbers_agree test other h xs (n + 1))
    ∙ ap (λ b. cond b (n ∷ numbers_from (n + 1) other xs) (numbers_from (n + 1) other xs)) (h x)
