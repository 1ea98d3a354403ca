-- Facts of what a search finds, and of each element of a list.
use Rattle.std.proofs.Common.{◌≡◌, zero, suc, Bool, true, false, cond, List, [], ◌∷◌, refl, arith, Option, Some, None, IfSome, option_map, option_and_then}
use Rattle.std.specs.List.{All, AllByRecursion}

-- where a test fails nothing is found, and where it passes what is found has P
pub if_some : {A : Type 0} (P : A → Type 0) (test : Bool) (found other : Option A)
    → (test ≡ true → IfSome found P) → IfSome other P → IfSome (cond test found other) P
if_some P true found other here there = here refl
if_some P false found other here there = there

-- what is made of what has P
pub map_some : {A B : Type 0} (P : A → Type 0) (Q : B → Type 0) (f : A → B) (found : Option A)
    → IfSome found P → ((x : A) → P x → Q (f x)) → IfSome (option_map f found) Q
map_some P Q f (Some x) has then = then x has
map_some P Q f None has then = has

-- what is made of what is found
pub map_found : {A B : Type 0} (P : B → Type 0) (f : A → B) (found : Option A)
    → ((x : A) → found ≡ Some x → P (f x)) → IfSome (option_map f found) P
map_found P f (Some x) then = then x refl
map_found P f None then = tt

-- what a second search finds behind a first
pub then_found : {A B : Type 0} (P : B → Type 0) (f : A → Option B) (found : Option A)
    → ((x : A) → found ≡ Some x → IfSome (f x) P) → IfSome (option_and_then f found) P
then_found P f (Some x) then = then x refl
then_found P f None then = tt

pub each_by_recursion : {X : Type 0} (P : X → Type 0) (xs : List X) → All P xs → AllByRecursion P xs
each_by_recursion P [] each = tt
each_by_recursion P (x ∷ xs) each =
    (each 0 x (omega arith), each_by_recursion P xs (λ k d inside. each (suc k) d (omega arith)))

pub each_from_recursion : {X : Type 0} (P : X → Type 0) (xs : List X) → AllByRecursion P xs → All P xs
each_from_recursion P [] each k d inside = absurd (omega arith)
each_from_recursion P (x ∷ xs) each zero d inside = each.0
each_from_recursion P (x ∷ xs) each (suc k) d inside = each_from_recursion P xs each.1 k d (omega arith)
