-- Classes that conflict with none of a block, by their slots.
use Rattle.std.proofs.Common.{◌≡◌, ◌+◌, ◌==◌, ◌&&◌, ◌||◌, ℕ, zero, suc, Bool, true, false, cond, List, [], ◌∷◌, Option, Some, None, refl, ap, ◌∙◌, arith}
use Rattle.std.specs.List.{list_any, range_with_len}
use Rattle.rd_ecl.specs.declared.reduction.Reduced.{Reduced}
use Rattle.rd_ecl.specs.declared.reduction.Reduced.TheVariants.{True, False, Pairs}
use Rattle.rd_ecl.specs.SlotPairs.{has_pair}
use Rattle.rd_points.specs.Blocks.{Column, meets, numbers_in}
use Rattle.rd_points.specs.Classes.{clash, slot_at}
use Rattle.rd_points.specs.Compiled.{numbers_from}
use Rattle.rd_points.specs.SlotsInPairs.{has_first, has_second}

-- no member passes
none_pass : {X : Type 0} (test : X → Bool) → ((x : X) → test x ≡ false) → (xs : List X) (n : ℕ) → numbers_from n test xs ≡ []
none_pass test h [] n = refl
none_pass test h (x ∷ xs) n = ap (λ b. cond b (n ∷ numbers_from (n + 1) test xs) (numbers_from (n + 1) test xs)) (h x) ∙ none_pass test h xs (n + 1)

not_or : (a b : Bool) → (a || b) ≡ false → (a ≡ false) × (b ≡ false)
not_or true b h = absurd (cc)
not_or false b h = (refl, h)

-- without the slot there is no pair of it

first_apart : (pairs : List (ℕ × ℕ)) (s t : ℕ) → list_any (λ pair. pair.0 == s) pairs ≡ false → has_pair (s, t) pairs ≡ false
first_apart [] s t h = refl
first_apart (pair ∷ pairs) s t h =
    let two = not_or (pair.0 == s) (list_any (λ pair. pair.0 == s) pairs) h in
    ap (λ b. (b && (pair.1 == t)) || has_pair (s, t) pairs) two.0 ∙ first_apart pairs s t two.1

second_apart : (pairs : List (ℕ × ℕ)) (s t : ℕ) → list_any (λ pair. pair.1 == s) pairs ≡ false → has_pair (t, s) pairs ≡ false
second_apart [] s t h = refl
second_apart (pair ∷ pairs) s t h =
    let two = not_or (pair.1 == s) (list_any (λ pair. pair.1 == s) pairs) h in
    ap (λ b. ((pair.0 == t) && b) || has_pair (t, s) pairs) two.0 ∙ ap (λ b. b || has_pair (t, s) pairs) (off (pair.0 == t)) ∙ second_apart pairs s t two.1
  where
    off : (b : Bool) → (b && false) ≡ false
    off true = refl
    off false = refl

clash_first : (r : Reduced) (s : ℕ) (t : Option ℕ) → has_first r s ≡ false → clash r (Some s) t ≡ false
clash_first True s t h = refl
clash_first False s t h = refl
clash_first (Pairs pairs) s None h = refl
clash_first (Pairs pairs) s (Some t) h = first_apart pairs s t h

clash_second : (r : Reduced) (s : ℕ) (t : Option ℕ) → has_second r s ≡ false → clash r t (Some s) ≡ false
clash_second True s t h = refl
clash_second False s None h = refl
clash_second False s (Some t) h = refl
clash_second (Pairs pairs) s None h = refl
clash_second (Pairs pairs) s (Some t) h = second_apart pairs s t h

pub apart : (n s : ℕ) (column : Column) → (has_first column.forward s || has_second column.backward s) ≡ false → numbers_in n (Some s) column ≡ []
apart n s column h =
    let two = not_or (has_first column.forward s) (has_second column.backward s) h in
    none_pass (λ i. meets column (Some s) (slot_at i))
    (λ i. ap (λ b. b || clash column.backward (slot_at i) (Some s)) (clash_first column.forward s (slot_at i) two.0) ∙ clash_second column.backward s (slot_at i) two.1)
    (range_with_len 0 (column.slots + 1)) n

-- a plain class conflicts with the plain one alone

plain_first : (r : Reduced) (t : ℕ) → clash r None (Some t) ≡ false
plain_first True t = refl
plain_first False t = refl
plain_first (Pairs pairs) t = refl

plain_second : (r : Reduced) (t : ℕ) → clash r (Some t) None ≡ false
plain_second True t = refl
plain_second False t = refl
plain_second (Pairs pairs) t = refl

later_none : (column : Column) (a k n : ℕ) → numbers_from n (λ i. meets column None (slot_at i)) (range_with_len (suc a) k) ≡ []
later_none column a zero n = refl
later_none column a (suc k) n =
    let test : ℕ → Bool = λ i. meets column None (slot_at i) in
    let off : test (suc a) ≡ false = ap (λ b. b || clash column.backward (Some a) None) (plain_first column.forward a) ∙ plain_second column.backward a in
    ap (λ b. cond b (n ∷ numbers_from (n + 1) test (range_with_len (suc a + 1) k)) (numbers_from (n + 1) test (range_with_len (suc a + 1) k))) off
    ∙ ap (λ j. numbers_from (n + 1) test (range_with_len j k)) (let e : suc a + 1 ≡ suc (a + 1) = omega arith in e) ∙ later_none column (a + 1) k (n + 1)

pub plain_alone : (n : ℕ) (column : Column) → numbers_in n None column ≡ cond (meets column None None) (n ∷ []) []
plain_alone n column =
    let test : ℕ → Bool = λ i. meets column None (slot_at i) in
    ap (λ j. numbers_from n test (range_with_len 0 j)) (let e : column.slots + 1 ≡ suc column.slots = omega arith in e)
    ∙ ap (λ l. cond (test 0) (n ∷ l) l) (later_none column 0 column.slots (n + 1))
