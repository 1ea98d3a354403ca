-- What a formula reduces to, by its parts.
use Rattle.std.proofs.Common.{◌≡◌, ◌+◌, ◌≤◌, ◌||◌, ℕ, zero, suc, Bool, true, false, List, [], ◌∷◌, ◌++◌, length, map, Option, Some, None, Result, Ok, Err, IfOk, cond, slice_get, refl, sym, ap, ◌∙◌, arith, subst}
use Rattle.std.specs.Prelude.{nat_le, slice_index_or, unwrap_or}
use Rattle.std.specs.List.{range_with_len}
use Rattle.std.proofs.lemmas.Bool.{le-leb}
use Rattle.std.proofs.lemmas.List.{length-map, map_push}
use Rattle.rd_ecl.specs.declared.formulas.Predicate.{Predicate}
use Rattle.rd_ecl.specs.declared.formulas.Side.TheVariants.{First as Side1, Second as Side2}
use Rattle.rd_ecl.specs.declared.reduction.Reduced.{Reduced}
use Rattle.rd_ecl.specs.declared.reduction.Reduced.TheVariants.{True, False, Pairs}
use Rattle.rd_ecl.specs.Formulas.{Tree, truth, atom, cross, mixed, negation, both, either, simple_both, sided_both, sided_either, InFragment, of_simple, of_sided, of_both, of_or_sided, of_sided_or}
use Rattle.rd_ecl.specs.Reduction.{flipped, of_both as reduced_both, of_either as reduced_either, reduce_of}
use Rattle.rd_ecl.specs.Specified.{SpecifiedKind, formula_at, method_predicates}
use Rattle.rd_points.specs.declared.parts.Part.{Part}
use Rattle.rd_points.specs.declared.parts.Part.TheVariants.{Unknown}
use Rattle.rd_points.specs.Classes.{reduced_pair}
use Rattle.rd_points.specs.Parts.{Agrees, IsRow, AreRows, IsPartOf, both_known, either_known, known, reads}

-- ---- parts of a formula in the fragment

pub both_inside : {f g : Tree} → InFragment (both f g) → InFragment f × InFragment g
both_inside (of_simple (simple_both s t)) = (of_simple s, of_simple t)
both_inside (of_sided (sided_both s t)) = (of_sided s, of_sided t)
both_inside (of_both s t) = (s, t)

pub either_inside : {f g : Tree} → InFragment (either f g) → InFragment f × InFragment g
either_inside (of_simple s) = elim s [ ]
either_inside (of_sided (sided_either s t)) = (of_sided s, of_sided t)
either_inside (of_or_sided s t) = (s, of_sided t)
either_inside (of_sided_or s t) = (of_sided s, t)

-- ---- a side that isn't read

not_or : (a b : Bool) → (a || b) ≡ false → (a ≡ false) × (b ≡ false)
not_or true b h = absurd (cc)
not_or false b h = (refl, h)

module _ (p q : List Predicate) where
  unread_second : (f : Tree) (v w : ℕ) → reads Side2 f ≡ false → reduce_of f p v q 0 ≡ reduce_of f p v q w
  unread_second (truth value) v w h = refl
  unread_second (atom Side1 rel l r) v w h = refl
  unread_second (atom Side2 rel l r) v w h = absurd (cc)
  unread_second (cross first second) v w h = refl
  unread_second (mixed rel turned first second) v w h = refl
  unread_second (negation f) v w h = ap flipped (unread_second f v w h)
  unread_second (both f g) v w h =
      let two = not_or (reads Side2 f) (reads Side2 g) h in
      ap (λ x. reduced_both x (reduce_of g p v q 0)) (unread_second f v w two.0) ∙ ap (reduced_both (reduce_of f p v q w)) (unread_second g v w two.1)
  unread_second (either f g) v w h =
      let two = not_or (reads Side2 f) (reads Side2 g) h in
      ap (λ x. reduced_either x (reduce_of g p v q 0)) (unread_second f v w two.0) ∙ ap (reduced_either (reduce_of f p v q w)) (unread_second g v w two.1)

  unread_first : (f : Tree) (v w : ℕ) → reads Side1 f ≡ false → reduce_of f p 0 q w ≡ reduce_of f p v q w
  unread_first (truth value) v w h = refl
  unread_first (atom Side1 rel l r) v w h = absurd (cc)
  unread_first (atom Side2 rel l r) v w h = refl
  unread_first (cross first second) v w h = refl
  unread_first (mixed rel turned first second) v w h = refl
  unread_first (negation f) v w h = ap flipped (unread_first f v w h)
  unread_first (both f g) v w h =
      let two = not_or (reads Side1 f) (reads Side1 g) h in
      ap (λ x. reduced_both x (reduce_of g p 0 q w)) (unread_first f v w two.0) ∙ ap (reduced_both (reduce_of f p v q w)) (unread_first g v w two.1)
  unread_first (either f g) v w h =
      let two = not_or (reads Side1 f) (reads Side1 g) h in
      ap (λ x. reduced_either x (reduce_of g p 0 q w)) (unread_first f v w two.0) ∙ ap (reduced_either (reduce_of f p v q w)) (unread_first g v w two.1)

-- what stands in a table
listed : (f : ℕ → Reduced) (a n i k : ℕ) (r : Reduced) → a + i ≡ k → f k ≡ r → Agrees (slice_get (map f (range_with_len a n)) i) r
listed f a zero i k r e h = tt
listed f a (suc n) zero k r e h = ap f (let same : a ≡ k = omega (arith, e) in same) ∙ h
listed f a (suc n) (suc i) k r e h = listed f (a + 1) n i k r (omega (arith, e)) h

module _ (f : Tree) (p q : List Predicate) where
  pub stands_first : (table : List Reduced) (n : ℕ) → table ≡ map (λ v. reduce_of f p v q 0) (range_with_len 0 n) → reads Side2 f ≡ false
      → (v w : ℕ) → Agrees (slice_get table v) (reduce_of f p v q w)
  stands_first table n are h v w =
      subst (λ t. Agrees (slice_get t v) (reduce_of f p v q w)) (sym are) (listed (λ k. reduce_of f p k q 0) 0 n v v (reduce_of f p v q w) (omega arith) (unread_second p q f v w h))

  pub stands_second : (table : List Reduced) (n : ℕ) → table ≡ map (λ w. reduce_of f p 0 q w) (range_with_len 0 n) → reads Side1 f ≡ false
      → (v w : ℕ) → Agrees (slice_get table w) (reduce_of f p v q w)
  stands_second table n are h v w =
      subst (λ t. Agrees (slice_get t w) (reduce_of f p v q w)) (sym are) (listed (λ k. reduce_of f p 0 q k) 0 n w w (reduce_of f p v q w) (omega arith) (unread_first p q f v w h))

-- ---- both, and either

both_agrees : (x y : Option Reduced) (r s : Reduced) → Agrees x r → Agrees y s → Agrees (both_known x y) (reduced_both r s)
both_agrees None y r s h l = tt
both_agrees (Some x) y r s h l = subst (λ z. Agrees (both_known (Some x) y) (reduced_both z s)) h (by x y s l)
  where
    by : (x : Reduced) (y : Option Reduced) (s : Reduced) → Agrees y s → Agrees (both_known (Some x) y) (reduced_both x s)
    by False y s l = refl
    by True y s l = l
    by (Pairs xs) None s l = tt
    by (Pairs xs) (Some False) s l = subst (λ z. False ≡ reduced_both (Pairs xs) z) l refl
    by (Pairs xs) (Some True) s l = subst (λ z. Pairs xs ≡ reduced_both (Pairs xs) z) l refl
    by (Pairs xs) (Some (Pairs ys)) s l = tt

either_agrees : (x y : Option Reduced) (r s : Reduced) → Agrees x r → Agrees y s → Agrees (either_known x y) (reduced_either r s)
either_agrees None y r s h l = tt
either_agrees (Some x) y r s h l = subst (λ z. Agrees (either_known (Some x) y) (reduced_either z s)) h (by x y s l)
  where
    by : (x : Reduced) (y : Option Reduced) (s : Reduced) → Agrees y s → Agrees (either_known (Some x) y) (reduced_either x s)
    by True y s l = refl
    by False y s l = l
    by (Pairs xs) None s l = tt
    by (Pairs xs) (Some True) s l = subst (λ z. True ≡ reduced_either (Pairs xs) z) l refl
    by (Pairs xs) (Some False) s l = subst (λ z. Pairs xs ≡ reduced_either (Pairs xs) z) l refl
    by (Pairs xs) (Some (Pairs ys)) s l = tt

module _ (p q : List Predicate) (x y : Part) (whole f g : Tree) where
  pub both_stand : whole ≡ both f g → IsPartOf x f p q → IsPartOf y g p q → (v w : ℕ) → Agrees (both_known (known x v w) (known y v w)) (reduce_of whole p v q w)
  both_stand is h l v w =
      subst (λ z. Agrees (both_known (known x v w) (known y v w)) (reduce_of z p v q w)) (sym is)
      (both_agrees (known x v w) (known y v w) (reduce_of f p v q w) (reduce_of g p v q w) (h v w) (l v w))

  pub either_stand : whole ≡ either f g → IsPartOf x f p q → IsPartOf y g p q → (v w : ℕ) → Agrees (either_known (known x v w) (known y v w)) (reduce_of whole p v q w)
  either_stand is h l v w =
      subst (λ z. Agrees (either_known (known x v w) (known y v w)) (reduce_of z p v q w)) (sym is)
      (either_agrees (known x v w) (known y v w) (reduce_of f p v q w) (reduce_of g p v q w) (h v w) (l v w))

-- ---- lists that grow, each of whose members is right for its place

each_more : {X : Type 0} (P : ℕ → X → Type 0) (xs : List X) (x d : X) → ((i : ℕ) → P i (slice_index_or xs i d)) → P (length xs) x → ((i : ℕ) → P i d)
    → (i : ℕ) → P i (slice_index_or (xs ++ x ∷ []) i d)
each_more P [] x d all one none zero = one
each_more P [] x d all one none (suc i) = none (suc i)
each_more P (y ∷ xs) x d all one none zero = all 0
each_more P (y ∷ xs) x d all one none (suc i) = each_more (λ k. P (suc k)) xs x d (λ k. all (suc k)) one (λ k. none (suc k)) i

module _ (kind : SpecifiedKind) (n : ℕ) where
  pub stands_pair : (m : ℕ) (part : Part) (f : Tree) (p q : List Predicate) → p ≡ method_predicates kind m → q ≡ method_predicates kind n → formula_at kind m n ≡ Some f → IsPartOf part f p q
      → (v w : ℕ) → Agrees (known part v w) (reduced_pair kind m v n w)
  stands_pair m part f p q first second found h v w =
      let same : reduce_of f p v q w ≡ reduced_pair kind m v n w =
      ap (λ l. reduce_of f l v q w) first ∙ ap (λ l. reduce_of f (method_predicates kind m) v l w) second
      ∙ ap (λ o. reduce_of (unwrap_or o (truth true)) (method_predicates kind m) v (method_predicates kind n) w) (sym found) in
      subst (Agrees (known part v w)) same (h v w)

  pub parts_more : (m : ℕ) (old new : List Part) (part : Part) → length old ≡ m → new ≡ old ++ part ∷ [] → IsRow kind n old
      → ((v w : ℕ) → Agrees (known part v w) (reduced_pair kind m v n w)) → IsRow kind n new
  parts_more m old new part long more all one =
      let Right : ℕ → Part → Type 0 = λ i x. (v w : ℕ) → Agrees (known x v w) (reduced_pair kind i v n w) in
      subst (IsRow kind n) (sym more) (each_more Right old part Unknown all (subst (λ k. Right k part) (sym long) one) (λ i v w. tt))

pub rows_more : {X : Type 0} (view : X → List Part) (kind : SpecifiedKind) (n : ℕ) (old new : List X) (row : X) → length old ≡ n → new ≡ old ++ row ∷ [] → AreRows kind (map view old)
    → IsRow kind n (view row) → AreRows kind (map view new)
rows_more view kind n old new row long more all one =
    subst (AreRows kind) (sym (ap (map view) more ∙ map_push view old row))
    (each_more (IsRow kind) (map view old) (view row) [] all (subst (λ k. IsRow kind k (view row)) (sym (length-map old view ∙ long)) one) (λ i m v w. tt))

-- what is found is what the formula reduces to
pub one_way_found : {E : Type 0} (result : Result Reduced E) (kind : SpecifiedKind) (m n v w : ℕ) (r : Reduced) (o : Option Reduced) → m ≤ n → Some r ≡ o
    → Agrees o (reduced_pair kind m v n w) → IfOk result (λ copy. copy ≡ r) → IfOk result (λ copy. copy ≡ cond (nat_le m n) (reduced_pair kind m v n w) True)
one_way_found (Err e) kind m n v w r o ordered found h copy = tt
one_way_found (Ok x) kind m n v w r o ordered found h copy =
    let same : r ≡ reduced_pair kind m v n w = subst (λ z. Agrees z (reduced_pair kind m v n w)) (sym found) h in
    copy ∙ same ∙ ap (λ b. cond b (reduced_pair kind m v n w) True) (sym (le-leb m n ordered))
