-- Spots in lists, and how many of them pass a test.
use Rattle.std.proofs.Common.{◌≡◌, ◌≢◌, ◌⊎◌, inl, inr, ℕ, zero, suc, ◌+◌, ◌<◌, ◌≤◌, ◌==◌, ◌&&◌, not, Bool, true, false, cond, List, [], ◌∷◌, ◌++◌, length, map, take, count_by, Option, Some, Decides, refl, sym, ap, subst, ◌∙◌, arith, true≢false}
use Rattle.std.specs.Prelude.{slice_get}
use Rattle.std.proofs.lemmas.Bool.{cases_Bool}
use Rattle.std.proofs.lemmas.Bool.Decides.{Decides-and, Decides-eqb, not_from_Decides}
use Rattle.std.proofs.lemmas.List.Sums.{sum_by-cons, sum_by_push}
use Rattle.std.proofs.lemmas.Option.{none-some, same_Some, slice_get_within}
use Rattle.rd_weavings.specs.declared.spots.Spot.{Spot}
use Rattle.rd_weavings.specs.Logs.{IsPlaced}

-- ---- one spot

pub same_at : (o : Option Spot) (a b : Spot) → o ≡ Some a → o ≡ Some b → a ≡ b
same_at o a b is_a is_b = same_Some a b (sym is_a ∙ is_b)

pub spot_is : (s t : Spot) → s.log ≡ t.log → s.place ≡ t.place → s ≡ t
spot_is s t log place = λ i. record { log = log i; place = place i }

abbrev same_spot : Spot → Spot → Bool
same_spot s t = (s.log == t.log) && (s.place == t.place)

spot_decides : (s t : Spot) → Decides (same_spot s t) ((s.log ≡ t.log) × (s.place ≡ t.place))
spot_decides s t = Decides-and (s.log == t.log) (s.place == t.place) (Decides-eqb s.log t.log) (Decides-eqb s.place t.place)

pub cases_spot : (s t : Spot) → (s ≡ t) ⊎ (s ≢ t)
cases_spot s t = elim (cases_Bool (same_spot s t)) [
  | inl same ↦ let is = (spot_decides s t).0 same in inl (spot_is s t is.0 is.1)
  | inr other ↦ inr (λ same. not_from_Decides (same_spot s t) (spot_decides s t) other (ap (λ (x : Spot). x.log) same, ap (λ (x : Spot). x.place) same))
]

-- ---- lists

pub stands_here : (x : Spot) (xs : List Spot) → IsPlaced (x ∷ xs) x
stands_here x xs = (0, refl)

pub stands_behind : (x : Spot) (xs : List Spot) (s : Spot) → IsPlaced xs s → IsPlaced (x ∷ xs) s
stands_behind x xs s is = (suc is.0, is.1)

at_cons : (x : Spot) (xs : List Spot) (s : Spot) (j : ℕ) → slice_get (x ∷ xs) j ≡ Some s → (x ≡ s) ⊎ IsPlaced xs s
at_cons x xs s zero is = inl (same_Some x s is)
at_cons x xs s (suc j) is = inr (j, is)

pub stands_cases : (x : Spot) (xs : List Spot) (s : Spot) → IsPlaced (x ∷ xs) s → (x ≡ s) ⊎ IsPlaced xs s
stands_cases x xs s is = at_cons x xs s is.0 is.1

pub nowhere : {P : Type 0} (s : Spot) → IsPlaced [] s → P
nowhere s is = absurd (let inside = slice_get_within [] is.0 s is.1 in omega arith)

pub at_take : (xs : List Spot) (n j : ℕ) (s : Spot) → slice_get (take n xs) j ≡ Some s → (j < n) × (slice_get xs j ≡ Some s)
at_take [] zero j s is = absurd (let inside = slice_get_within [] j s is in omega arith)
at_take [] (suc n) j s is = absurd (let inside = slice_get_within [] j s is in omega arith)
at_take (x ∷ xs) zero j s is = absurd (let inside = slice_get_within [] j s is in omega arith)
at_take (x ∷ xs) (suc n) zero s is = (omega arith, is)
at_take (x ∷ xs) (suc n) (suc j) s is = let rest = at_take xs n j s is in (let l = rest.0 in omega arith, rest.1)

pub in_take : (xs : List Spot) (n j : ℕ) (s : Spot) → j < n → slice_get xs j ≡ Some s → slice_get (take n xs) j ≡ Some s
in_take [] n j s less is = absurd (let inside = slice_get_within [] j s is in omega arith)
in_take (x ∷ xs) zero j s less is = absurd (omega arith)
in_take (x ∷ xs) (suc n) zero s less is = is
in_take (x ∷ xs) (suc n) (suc j) s less is = in_take xs n j s (omega arith) is

pub at_front : (xs ys : List Spot) (k : ℕ) → k < length xs → slice_get (xs ++ ys) k ≡ slice_get xs k
at_front [] ys k l = absurd (omega arith)
at_front (x ∷ xs) ys zero l = refl
at_front (x ∷ xs) ys (suc k) l = at_front xs ys k (omega arith)

pub at_end : (xs : List Spot) (y : Spot) → slice_get (xs ++ y ∷ []) (length xs) ≡ Some y
at_end [] y = refl
at_end (x ∷ xs) y = at_end xs y

-- it stands in front, or it is the last
pub at_push : (xs : List Spot) (y s : Spot) (j : ℕ) → slice_get (xs ++ y ∷ []) j ≡ Some s → ((j < length xs) × (slice_get xs j ≡ Some s)) ⊎ ((j ≡ length xs) × (y ≡ s))
at_push [] y s zero is = inr (refl, same_Some y s is)
at_push [] y s (suc j) is = absurd (none-some s is)
at_push (x ∷ xs) y s zero is = inl (omega arith, is)
at_push (x ∷ xs) y s (suc j) is = elim (at_push xs y s j is) [
  | inl front ↦ inl (let l = front.0 in omega arith, front.1)
  | inr last ↦ inr (let e = last.0 in omega arith, last.1)
]

-- ---- how many pass

pub count_cons : {X : Type 0} (f : X → Bool) (x : X) (xs : List X) → count_by f (x ∷ xs) ≡ cond (f x) 1 0 + count_by f xs
count_cons f x xs = sum_by-cons (λ y. cond (f y) 1 0) x xs

-- the first passes, or it doesn't
count_yes : (f : Spot → Bool) (x : Spot) (xs : List Spot) → f x ≡ true → count_by f (x ∷ xs) ≡ 1 + count_by f xs
count_yes f x xs is = count_cons f x xs ∙ ap (λ b. cond b 1 0 + count_by f xs) is

count_no : (f : Spot → Bool) (x : Spot) (xs : List Spot) → f x ≡ false → count_by f (x ∷ xs) ≡ count_by f xs
count_no f x xs is = omega (arith, count_cons f x xs, ap {B = ℕ} (λ b. cond b 1 0) is)

-- what passes one test and stands in the list passes another: so at least as many do
pub count_imply : (f g : Spot → Bool) (xs : List Spot) → ((s : Spot) → IsPlaced xs s → f s ≡ true → g s ≡ true) → count_by f xs ≤ count_by g xs
count_imply f g [] imply = omega arith
count_imply f g (x ∷ xs) imply = by (f x) refl (count_imply f g xs (λ s at. imply s (stands_behind x xs s at)))
  where
    by : (b : Bool) → f x ≡ b → count_by f xs ≤ count_by g xs → count_by f (x ∷ xs) ≤ count_by g (x ∷ xs)
    by true is rest = omega (arith, rest, count_yes f x xs is, count_yes g x xs (imply x (stands_here x xs) is))
    by false is rest = omega (arith, rest, count_no f x xs is, count_cons g x xs)

-- one that passes the weaker test alone makes it one more
count_less : (f g : Spot → Bool) (xs : List Spot) (x : Spot) → ((s : Spot) → f s ≡ true → g s ≡ true) → f x ≡ false → g x ≡ true → IsPlaced xs x → count_by f xs + 1 ≤ count_by g xs
count_less f g [] x imply fails passes at = nowhere x at
count_less f g (y ∷ ys) x imply fails passes at = elim (stands_cases y ys x at) [
  | inl same ↦ omega (arith, count_imply f g ys (λ s at. imply s), count_no f y ys (ap f same ∙ fails), count_yes g y ys (ap g same ∙ passes))
  | inr later ↦ by (f y) refl (count_less f g ys x imply fails passes later)
]
  where
    by : (b : Bool) → f y ≡ b → count_by f ys + 1 ≤ count_by g ys → count_by f (y ∷ ys) + 1 ≤ count_by g (y ∷ ys)
    by true is rest = omega (arith, rest, count_yes f y ys is, count_yes g y ys (imply y is))
    by false is rest = omega (arith, rest, count_no f y ys is, count_cons g y ys)

-- no spot stands twice
abbrev pub Once : List Spot → Type 0
Once xs = (s : Spot) (j k : ℕ) → slice_get xs j ≡ Some s → slice_get xs k ≡ Some s → j ≡ k

once_behind : (x : Spot) (xs : List Spot) → Once (x ∷ xs) → Once xs
once_behind x xs once s j k at_j at_k = let e = once s (suc j) (suc k) at_j at_k in omega arith

once_first : (x : Spot) (xs : List Spot) → Once (x ∷ xs) → IsPlaced xs x → ⊥
once_first x xs once at = let e = once x 0 (suc at.0) refl at.1 in omega arith

pub once_take : (xs : List Spot) (n : ℕ) → Once xs → Once (take n xs)
once_take xs n once s j k at_j at_k = once s j k (at_take xs n j s at_j).1 (at_take xs n k s at_k).1

-- each that passes and stands in one list, once, stands in the other: so there at least as many pass
pub count_most : (f : Spot → Bool) (xs ys : List Spot) → Once xs → ((s : Spot) → IsPlaced xs s → f s ≡ true → IsPlaced ys s) → count_by f xs ≤ count_by f ys
count_most f [] ys once within = omega arith
count_most f (x ∷ xs) ys once within = by (f x) refl (λ g inside. count_most g xs ys (once_behind x xs once) inside)
  where
    -- all but x
    but : Spot → Bool
    but s = f s && not (same_spot s x)

    but_is : (s : Spot) → f s ≡ true → s ≢ x → but s ≡ true
    but_is s passes other = by_cases (f s) (same_spot s x) passes (elim (cases_Bool (same_spot s x)) [
      | inl same ↦ absurd (other (spot_is s x ((spot_decides s x).0 same).0 ((spot_decides s x).0 same).1))
      | inr not_same ↦ not_same
    ])
      where
        by_cases : (a b : Bool) → a ≡ true → b ≡ false → (a && not b) ≡ true
        by_cases true false p q = refl
        by_cases true true p q = sym q
        by_cases false b p q = absurd (true≢false (sym p))

    from_but : (s : Spot) → but s ≡ true → f s ≡ true
    from_but s is = first (f s) (not (same_spot s x)) is
      where
        first : (a b : Bool) → (a && b) ≡ true → a ≡ true
        first true b is = refl
        first false b is = is

    not_x : but x ≡ false
    not_x = none (f x) (same_spot x x) ((spot_decides x x).1 (refl, refl))
      where
        none : (a b : Bool) → b ≡ true → (a && not b) ≡ false
        none true true is = refl
        none true false is = absurd (true≢false (sym is))
        none false b is = refl

    apart : (s : Spot) → IsPlaced xs s → s ≢ x
    apart s at same = once_first x xs once (subst (IsPlaced xs) same at)

    by : (b : Bool) → f x ≡ b → ((g : Spot → Bool) → ((s : Spot) → IsPlaced xs s → g s ≡ true → IsPlaced ys s) → count_by g xs ≤ count_by g ys) → count_by f (x ∷ xs) ≤ count_by f ys
    by true is rest =
        let fewer : count_by f xs ≤ count_by but xs = count_imply f but xs (λ s at passes. but_is s passes (apart s at)) in
        let most : count_by but xs ≤ count_by but ys = rest but (λ s at passes. within s (stands_behind x xs s at) (from_but s passes)) in
        let one : count_by but ys + 1 ≤ count_by f ys = count_less but f ys x from_but not_x is (within x (stands_here x xs) is) in
        omega (arith, fewer, most, one, count_yes f x xs is)
    by false is rest =
        let most : count_by f xs ≤ count_by f ys = rest f (λ s at passes. within s (stands_behind x xs s at) passes) in
        omega (arith, most, count_no f x xs is)

-- and more, where one there doesn't stand here
pub count_more : (f : Spot → Bool) (xs ys : List Spot) (x : Spot) → Once xs → ((s : Spot) → IsPlaced xs s → f s ≡ true → IsPlaced ys s) → f x ≡ true → IsPlaced ys x → ¬ (IsPlaced xs x)
    → count_by f xs + 1 ≤ count_by f ys
count_more f xs ys x once within passes at not_in =
    let most : count_by f (x ∷ xs) ≤ count_by f ys = count_most f (x ∷ xs) ys once_more within_more in
    omega (arith, most, count_yes f x xs passes)
  where
    once_more : Once (x ∷ xs)
    once_more s zero zero at_j at_k = refl
    once_more s zero (suc k) at_j at_k = absurd (not_in (subst (IsPlaced xs) (sym (same_Some x s at_j)) (k, at_k)))
    once_more s (suc j) zero at_j at_k = absurd (not_in (subst (IsPlaced xs) (sym (same_Some x s at_k)) (j, at_j)))
    once_more s (suc j) (suc k) at_j at_k = ap suc (once s j k at_j at_k)

    within_more : (s : Spot) → IsPlaced (x ∷ xs) s → f s ≡ true → IsPlaced ys s
    within_more s here is = elim (stands_cases x xs s here) [ inl same ↦ subst (IsPlaced ys) same at | inr behind ↦ within s behind is ]

-- where one passes, some stands there that does
pub some_counted : (f : Spot → Bool) (xs : List Spot) → 0 < count_by f xs → (s : Spot) × IsPlaced xs s × (f s ≡ true)
some_counted f [] some = absurd (omega arith)
some_counted f (x ∷ xs) some = by (f x) refl (λ more. some_counted f xs more)
  where
    by : (b : Bool) → f x ≡ b → (0 < count_by f xs → (s : Spot) × IsPlaced xs s × (f s ≡ true)) → (s : Spot) × IsPlaced (x ∷ xs) s × (f s ≡ true)
    by true is again = (x, stands_here x xs, is)
    by false is again =
        let rest = again (omega (arith, some, count_no f x xs is)) in
        (rest.0, stands_behind x xs rest.0 rest.1, rest.2)

pub counted : (f : Spot → Bool) (xs : List Spot) (s : Spot) → IsPlaced xs s → f s ≡ true → 0 < count_by f xs
counted f [] s at is = nowhere s at
counted f (x ∷ xs) s at is = elim (stands_cases x xs s at) [
  | inl same ↦ omega (arith, count_yes f x xs (ap f same ∙ is))
  | inr behind ↦ omega (arith, counted f xs s behind is, count_cons f x xs)
]

pub count_push : (f : Spot → Bool) (xs : List Spot) (y : Spot) → count_by f (xs ++ y ∷ []) ≡ count_by f xs + cond (f y) 1 0
count_push f xs y = sum_by_push (λ x. cond (f x) 1 0) xs y

-- an event list's count is one of spots
pub count_map : {X : Type 0} (g : Spot → X) (f : X → Bool) (xs : List Spot) → count_by f (map g xs) ≡ count_by (λ s. f (g s)) xs
count_map g f [] = refl
count_map g f (x ∷ xs) = count_cons f (g x) (map g xs) ∙ ap (λ n. cond (f (g x)) 1 0 + n) (count_map g f xs) ∙ sym (count_cons (λ s. f (g s)) x xs)

-- ---- the first that doesn't stand in another list

pub cases_stands : (xs : List Spot) (s : Spot) → IsPlaced xs s ⊎ ¬ (IsPlaced xs s)
cases_stands [] s = inr (λ at. nowhere s at)
cases_stands (x ∷ xs) s = elim (cases_spot x s) [
  | inl same ↦ inl (0, ap Some same)
  | inr other ↦ elim (cases_stands xs s) [
    | inl behind ↦ inl (stands_behind x xs s behind)
    | inr missing ↦ inr (λ at. elim (stands_cases x xs s at) [ inl same ↦ other same | inr behind ↦ missing behind ])
  ]
]

-- all of a list stand in the other, or one is the first that doesn't
pub record FirstOut (xs ys : List Spot) : Type 0 where
  pub spot : Spot
  pub place : ℕ
  pub at : slice_get xs place ≡ Some spot
  pub out : ¬ (IsPlaced ys spot)
  pub before : (s : Spot) (j : ℕ) → j < place → slice_get xs j ≡ Some s → IsPlaced ys s

pub first_out : (xs ys : List Spot) → ((s : Spot) → IsPlaced xs s → IsPlaced ys s) ⊎ FirstOut xs ys
first_out [] ys = inl (λ s at. nowhere s at)
first_out (x ∷ xs) ys = elim (cases_stands ys x) [
  | inr missing ↦ inr (record { spot = x; place = 0; at = refl; out = missing; before = λ s j less at. absurd (omega arith) })
  | inl here ↦ elim (first_out xs ys) [
    | inl all ↦ inl (λ s at. elim (stands_cases x xs s at) [ inl same ↦ subst (IsPlaced ys) same here | inr behind ↦ all s behind ])
    | inr first ↦ inr (record {
      spot = first.spot;
      place = suc first.place;
      at = first.at;
      out = first.out;
      before = λ s j less at. in_front first here s j less at;
    })
  ]
]
  where
    in_front : (first : FirstOut xs ys) → IsPlaced ys x → (s : Spot) (j : ℕ) → j < suc first.place → slice_get (x ∷ xs) j ≡ Some s → IsPlaced ys s
    in_front first here s zero less at = subst (IsPlaced ys) (same_Some x s at) here
    in_front first here s (suc j) less at = first.before s j (omega arith) at

-- ---- fronts of a list

pub take_longer : (xs : List Spot) (p q : ℕ) (s : Spot) → p ≤ q → IsPlaced (take p xs) s → IsPlaced (take q xs) s
take_longer xs p q s less at = let is = at_take xs p at.0 s at.1 in (at.0, in_take xs q at.0 s (let l = is.0 in omega arith) is.1)

pub not_before : (xs : List Spot) (p q : ℕ) (s : Spot) → Once xs → slice_get xs q ≡ Some s → p ≤ q → ¬ (IsPlaced (take p xs) s)
not_before xs p q s once at less before = let is = at_take xs p before.0 s before.1 in let same = once s before.0 q is.1 at in let l = is.0 in omega arith

pub count_longer : (f : Spot → Bool) (xs : List Spot) (p q : ℕ) → Once xs → p ≤ q → count_by f (take p xs) ≤ count_by f (take q xs)
count_longer f xs p q once less = count_most f (take p xs) (take q xs) (once_take xs p once) (λ s at passes. take_longer xs p q s less at)

pub count_rises : (f : Spot → Bool) (xs : List Spot) (p q : ℕ) (s : Spot) → Once xs → p < q → slice_get xs p ≡ Some s → f s ≡ true
    → count_by f (take p xs) + 1 ≤ count_by f (take q xs)
count_rises f xs p q s once less at passes =
    count_more f (take p xs) (take q xs) s (once_take xs p once) (λ x here ok. take_longer xs p q x (omega arith) here) passes
    (p, in_take xs q p s less at) (not_before xs p p s once at (omega arith))

-- the one that passes with so many before it
pub nth_counted : (f : Spot → Bool) (xs : List Spot) (c : ℕ) → c < count_by f xs → (i : ℕ) × (x : Spot) × (slice_get xs i ≡ Some x) × (f x ≡ true) × (count_by f (take i xs) ≡ c)
nth_counted f [] c less = absurd (omega arith)
nth_counted f (x ∷ xs) c less = by (f x) refl (λ d fewer. nth_counted f xs d fewer) c less
  where
    by : (b : Bool) → f x ≡ b → ((d : ℕ) → d < count_by f xs → (i : ℕ) × (y : Spot) × (slice_get xs i ≡ Some y) × (f y ≡ true) × (count_by f (take i xs) ≡ d)) → (c : ℕ) → c < count_by f (x ∷ xs) → (i : ℕ) × (y : Spot) × (slice_get (x ∷ xs) i ≡ Some y) × (f y ≡ true) × (count_by f (take i (x ∷ xs)) ≡ c)
    by true is again zero less = (0, x, refl, is, refl)
    by true is again (suc c) less =
        let rest = again c (omega (arith, less, count_yes f x xs is)) in
        (suc rest.0, rest.1, rest.2, rest.3, omega (arith, rest.4, count_yes f x (take rest.0 xs) is))
    by false is again c less =
        let rest = again c (omega (arith, less, count_no f x xs is)) in
        (suc rest.0, rest.1, rest.2, rest.3, omega (arith, rest.4, count_no f x (take rest.0 xs) is))
