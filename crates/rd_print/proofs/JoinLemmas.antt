-- The texts of the elements of a list, and of the numbers of a range, one behind another.
use Rattle.std.proofs.Common.{◌≡◌, ℕ, suc, ◌+◌, ◌-◌, ◌<◌, ◌≤◌, List, [], ◌∷◌, ◌++◌, length, drop, get_or, flat_map, refl, sym, ◌∙◌, ap, arith, append_assoc, append-nil}
use Rattle.std.specs.List.{range_with_len}
use Rattle.std.specs.Prelude.{Result, Ok, Err, OnOk}
use Rattle.std.proofs.lemmas.Grind.{flat_map-append}
use Rattle.std.proofs.lemmas.List.{drop_all, drop_more}

pub ok_then : {X E : Type 0} (r : Result X E) (P Q : Type 0) → (P → Q) → OnOk r P → OnOk r Q
ok_then (Ok x) P Q then here = then here
ok_then (Err e) P Q then here = tt

-- one element more
pub element_more : {X : Type 0} (f : X → List ℕ) (whole text new : List ℕ) (xs : List X) (i : ℕ) (x : X) → i < length xs → x ≡ get_or xs i x
    → whole ≡ text ++ flat_map f (drop i xs) → new ≡ text ++ f x → whole ≡ new ++ flat_map f (drop (i + 1) xs)
element_more f whole text new xs i x within is all here =
    let next = ap (λ x. f x ++ flat_map f (drop (i + 1) xs)) (sym is) in
    all ∙ ap (λ ys. text ++ flat_map f ys) (drop_more xs i x within) ∙ ap (λ ys. text ++ ys) next
    ∙ sym (append_assoc text (f x) (flat_map f (drop (i + 1) xs)))
    ∙ ap (λ ys. ys ++ flat_map f (drop (i + 1) xs)) (sym here)

-- all elements
pub elements_all : {X : Type 0} (f : X → List ℕ) (whole text : List ℕ) (xs : List X) (i : ℕ) → length xs ≤ i
    → whole ≡ text ++ flat_map f (drop i xs) → text ≡ whole
elements_all f whole text xs i past all =
    sym (append-nil text) ∙ ap (λ ys. text ++ flat_map f ys) (sym (drop_all i xs past)) ∙ sym all

-- one number more
range_more : (a n : ℕ) → a < n → range_with_len a (n - a) ≡ a ∷ range_with_len (a + 1) (n - (a + 1))
range_more a n within = let same : n - a ≡ suc (n - (a + 1)) = omega arith in ap (range_with_len a) same

range_none : (a n : ℕ) → n ≤ a → range_with_len a (n - a) ≡ []
range_none a n past = let same : n - a ≡ 0 = omega arith in ap (range_with_len a) same

pub number_more : (f : ℕ → List ℕ) (whole text new : List ℕ) (a n : ℕ) → a < n → whole ≡ text ++ flat_map f (range_with_len a (n - a))
    → new ≡ text ++ f a → whole ≡ new ++ flat_map f (range_with_len (a + 1) (n - (a + 1)))
number_more f whole text new a n within all here =
    all ∙ ap (λ ys. text ++ flat_map f ys) (range_more a n within)
    ∙ sym (append_assoc text (f a) (flat_map f (range_with_len (a + 1) (n - (a + 1)))))
    ∙ ap (λ ys. ys ++ flat_map f (range_with_len (a + 1) (n - (a + 1)))) (sym here)

-- all numbers
pub numbers_all : (f : ℕ → List ℕ) (whole text : List ℕ) (a n : ℕ) → n ≤ a → whole ≡ text ++ flat_map f (range_with_len a (n - a)) → text ≡ whole
numbers_all f whole text a n past all =
    sym (append-nil text) ∙ ap (λ ys. text ++ flat_map f ys) (sym (range_none a n past)) ∙ sym all

-- lists of lists
pub flat_of_flat : {X Y Z : Type 0} (f : Y → List Z) (g : X → List Y) (xs : List X) → flat_map f (flat_map g xs) ≡ flat_map (λ x. flat_map f (g x)) xs
flat_of_flat f g [] = refl
flat_of_flat f g (x ∷ xs) = flat_map-append f (g x) (flat_map g xs) ∙ ap (λ zs. flat_map f (g x) ++ zs) (flat_of_flat f g xs)

pub flat_same : {X Y : Type 0} (f g : X → List Y) (xs : List X) → ((x : X) → f x ≡ g x) → flat_map f xs ≡ flat_map g xs
flat_same f g [] same = refl
flat_same f g (x ∷ xs) same = ap (λ ys. ys ++ flat_map f xs) (same x) ∙ ap (λ ys. g x ++ ys) (flat_same f g xs same)
