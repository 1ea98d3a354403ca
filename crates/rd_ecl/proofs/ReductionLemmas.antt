-- The reduced formula says what the formula says.
use Rattle.std.proofs.Common.{◌≡◌, ◌==◌, ℕ, Bool, true, false, ◌&&◌, ◌||◌, not, cond, List, [], ◌∷◌, get_or, Option, Some, None, IsSome, slice_get, refl, sym, ap, ◌∙◌, inl, inr, ◌⊎◌, IfOk, Result, Ok, Err, subst, true≢false}
use Rattle.std.specs.List.{list_all}
use Rattle.std.specs.Option.{option_map_or}
use Rattle.std.specs.Int.{bit_at}
use Rattle.std.proofs.lemmas.Bool.{and_parts, eqb-true}
use Rattle.std.proofs.lemmas.List.Quantifiers.{position-Some}
use Rattle.std.proofs.lemmas.Option.{slice_get-get_or}
use Rattle.rd_base.specs.declared.values.Value.{Value}
use Rattle.rd_ecl.specs.declared.formulas.Side.{Side}
use Rattle.rd_ecl.specs.declared.formulas.Side.TheVariants.{First, Second}
use Rattle.rd_ecl.specs.declared.formulas.Predicate.{Predicate}
use Rattle.rd_ecl.specs.Formulas.{Tree, atom, both, either, holds, same_predicate, IsSimple, simple_truth, simple_cross, simple_both, IsSided, sided_truth, sided_atom, sided_negation, sided_both, sided_either, InFragment, of_simple, of_sided, of_both as fragment_both, of_or_sided, of_sided_or}
use Rattle.rd_ecl.proofs.EqualLemmas.{predicate_decides}
use Rattle.rd_ecl.specs.declared.reduction.Reduced.{Reduced}
use Rattle.rd_ecl.specs.declared.reduction.Reduced.TheVariants.{True, False, Pairs}
use Rattle.rd_ecl.specs.SlotPairs.{is_before, same_pair, insert_pair, union_pairs}
use Rattle.rd_ecl.specs.Reduction.{AreListed, HaveBits, Reduces, constant, differ, flipped, means, of_both, of_either, place_in, predicate_holds, predicate_of, reduce_of, truth_in}

-- ---- pairs

pub pairs_same : (x y : ℕ × ℕ) → x.0 ≡ y.0 → x.1 ≡ y.1 → x ≡ y
pairs_same x y p q = let f : ℕ → ℕ × ℕ = λ k. (k, x.1) in let g : ℕ → ℕ × ℕ = λ k. (y.0, k) in ap f p ∙ ap g q

pub all_insert : (t : ℕ × ℕ → Bool) (x : ℕ × ℕ) (ys : List (ℕ × ℕ)) → list_all t (insert_pair x ys) ≡ (t x && list_all t ys)
all_insert t x [] = refl
all_insert t x (y ∷ ys) = by (is_before y x) (same_pair y x) refl (all_insert t x ys)
  where
    swap : (a b c : Bool) → (a && (b && c)) ≡ (b && (a && c))
    swap true true c = refl
    swap true false c = refl
    swap false true c = refl
    swap false false c = refl

    twice : (a c : Bool) → (a && c) ≡ (a && (a && c))
    twice true c = refl
    twice false c = refl

    by : (b s : Bool) → same_pair y x ≡ s → list_all t (insert_pair x ys) ≡ (t x && list_all t ys)
        → list_all t (cond b (y ∷ insert_pair x ys) (cond s (y ∷ ys) (x ∷ (y ∷ ys)))) ≡ (t x && (t y && list_all t ys))
    by true s h e = ap (λ k. t y && k) e ∙ swap (t y) (t x) (list_all t ys)
    by false true h e =
        let k = and_parts (y.0 == x.0) (y.1 == x.1) h in
        let p : y ≡ x = pairs_same y x (eqb-true y.0 x.0 k.0) (eqb-true y.1 x.1 k.1) in
        rw p (twice (t x) (list_all t ys))
    by false false h e = refl

pub all_union : (t : ℕ × ℕ → Bool) (xs ys : List (ℕ × ℕ)) → list_all t (union_pairs xs ys) ≡ (list_all t xs && list_all t ys)
all_union t xs [] = sym (and_true (list_all t xs))
  where
    and_true : (b : Bool) → (b && true) ≡ b
    and_true true = refl
    and_true false = refl
all_union t xs (y ∷ ys) = all_union t (insert_pair y xs) ys ∙ ap (λ k. k && list_all t ys) (all_insert t y xs) ∙ move (t y) (list_all t xs) (list_all t ys)
  where
    move : (a b c : Bool) → ((a && b) && c) ≡ (b && (a && c))
    move true true c = refl
    move true false c = refl
    move false true c = refl
    move false false c = refl

-- ---- parts

-- no pairs are left
abbrev IsConstant : Reduced → Type 0
IsConstant r = (b : Bool) × (r ≡ constant b)

flipped_constant : (r : Reduced) → IsConstant r → IsConstant (flipped r)
flipped_constant r (true, e) = (false, ap flipped e)
flipped_constant r (false, e) = (true, ap flipped e)

both_constant : (r s : Reduced) → IsConstant r → IsConstant s → IsConstant (of_both r s)
both_constant r s (true, e) (b, d) = (b, rw e d)
both_constant r s (false, e) (b, d) = (false, rw e refl)

either_constant : (r s : Reduced) → IsConstant r → IsConstant s → IsConstant (of_either r s)
either_constant r s (true, e) (b, d) = (true, rw e refl)
either_constant r s (false, e) (b, d) = (b, rw e d)

module _ (a b : List Value) where
  means_constant : (x : Bool) → means (constant x) a b ≡ x
  means_constant true = refl
  means_constant false = refl

  means_flipped : (r : Reduced) → IsConstant r → means (flipped r) a b ≡ not (means r a b)
  means_flipped r (true, e) = rw e refl
  means_flipped r (false, e) = rw e refl

  means_both : (r s : Reduced) → means (of_both r s) a b ≡ (means r a b && means s a b)
  means_both False s = refl
  means_both True s = refl
  means_both (Pairs ps) False = off (means (Pairs ps) a b)
    where
      off : (x : Bool) → false ≡ (x && false)
      off true = refl
      off false = refl
  means_both (Pairs ps) True = on (means (Pairs ps) a b)
    where
      on : (x : Bool) → x ≡ (x && true)
      on true = refl
      on false = refl
  means_both (Pairs ps) (Pairs qs) = all_union (λ p. differ a b p.0 p.1) ps qs

  means_either : (r s : Reduced) → IsConstant r ⊎ IsConstant s → means (of_either r s) a b ≡ (means r a b || means s a b)
  means_either r s (inl (true, e)) = rw e refl
  means_either r s (inl (false, e)) = rw e refl
  means_either True s (inr k) = refl
  means_either False s (inr k) = refl
  means_either (Pairs ps) s (inr (true, e)) = rw e (on (means (Pairs ps) a b))
    where
      on : (x : Bool) → true ≡ (x || true)
      on true = refl
      on false = refl
  means_either (Pairs ps) s (inr (false, e)) = rw e (off (means (Pairs ps) a b))
    where
      off : (x : Bool) → x ≡ (x || false)
      off true = refl
      off false = refl

-- ---- predicates

-- the bit of a listed predicate is what it says of a call with these values
truth_is : (ps : List Predicate) (v : ℕ) (slots : List Value) (p : Predicate) → HaveBits ps v slots → IsSome (place_in ps p) → truth_in ps v p ≡ predicate_holds p slots
truth_is ps v slots p has here = by (place_in ps p) refl here
  where
    by : (o : Option ℕ) → place_in ps p ≡ o → IsSome o → option_map_or (λ i. bit_at v i == 1) o false ≡ predicate_holds p slots
    by (Some i) e h =
        let f = position-Some (same_predicate p) ps i p e in
        let known = get_or ps i p in
        let at : slice_get ps i ≡ Some known = slice_get-get_or ps i p f.0 in
        let same : p ≡ known = (predicate_decides p known).0 f.1 in
        sym (has i known at) ∙ ap (λ k. predicate_holds k slots) (sym same)
    by None e h = absurd (true≢false (sym h))

module _ (p q : List Predicate) (v w : ℕ) where
  sided_constant : {f : Tree} → IsSided f → IsConstant (reduce_of f p v q w)
  sided_constant (sided_truth {value}) = (value, refl)
  sided_constant (sided_atom {side} {rel} {left} {right}) = by side
    where
      by : (side : Side) → IsConstant (reduce_of (atom side rel left right) p v q w)
      by First = (truth_in p v (predicate_of rel left right), refl)
      by Second = (truth_in q w (predicate_of rel left right), refl)
  sided_constant (sided_negation h) = flipped_constant _ (sided_constant h)
  sided_constant (sided_both h k) = both_constant _ _ (sided_constant h) (sided_constant k)
  sided_constant (sided_either h k) = either_constant _ _ (sided_constant h) (sided_constant k)

  module _ (a b : List Value) (has : HaveBits p v a) (has_too : HaveBits q w b) where
    Said : Tree → Type 0
    Said f = holds f a b ≡ means (reduce_of f p v q w) a b

    said_both : (f g : Tree) → Said f → Said g → Said (both f g)
    unfolding Said
    said_both f g x y = rw (x, y) (sym (means_both a b (reduce_of f p v q w) (reduce_of g p v q w)))

    said_either : (f g : Tree) → IsConstant (reduce_of f p v q w) ⊎ IsConstant (reduce_of g p v q w) → Said f → Said g → Said (either f g)
    unfolding Said
    said_either f g c x y = rw (x, y) (sym (means_either a b (reduce_of f p v q w) (reduce_of g p v q w) c))

    said_sided : {f : Tree} → IsSided f → AreListed f p q → Said f
    unfolding Said
    said_sided (sided_truth {value}) l = sym (means_constant a b value)
    said_sided (sided_atom {side} {rel} {left} {right}) l = by side l
      where
        by : (side : Side) → AreListed (atom side rel left right) p q → holds (atom side rel left right) a b ≡ means (reduce_of (atom side rel left right) p v q w) a b
        by First l = sym (means_constant a b _ ∙ truth_is p v a (predicate_of rel left right) has l)
        by Second l = sym (means_constant a b _ ∙ truth_is q w b (predicate_of rel left right) has_too l)
    said_sided (sided_negation h) l = ap not (said_sided h l) ∙ sym (means_flipped a b _ (sided_constant h))
    said_sided (sided_both {f} {g} h k) l = said_both f g (said_sided h l.0) (said_sided k l.1)
    said_sided (sided_either {f} {g} h k) l = said_either f g (inl (sided_constant h)) (said_sided h l.0) (said_sided k l.1)

    said_simple : {f : Tree} → IsSimple f → AreListed f p q → Said f
    unfolding Said
    said_simple (simple_truth {value}) l = sym (means_constant a b value)
    said_simple (simple_cross {first} {second}) l = one (differ a b first second)
      where
        one : (x : Bool) → x ≡ (x && true)
        one true = refl
        one false = refl
    said_simple (simple_both {f} {g} h k) l = said_both f g (said_simple h l.0) (said_simple k l.1)

    said : {f : Tree} → InFragment f → AreListed f p q → Said f
    said (of_simple h) l = said_simple h l
    said (of_sided h) l = said_sided h l
    said (fragment_both {f} {g} h k) l = said_both f g (said h l.0) (said k l.1)
    said (of_or_sided {f} {g} h k) l = said_either f g (inr (sided_constant k)) (said h l.0) (said_sided k l.1)
    said (of_sided_or {f} {g} h k) l = said_either f g (inl (sided_constant h)) (said_sided h l.0) (said k l.1)

pub reduces : (f : Tree) (p : List Predicate) (v : ℕ) (q : List Predicate) (w : ℕ) → InFragment f → AreListed f p q → Reduces f p v q w (reduce_of f p v q w)
unfolding Said
reduces f p v q w inside listed a b has has_too = said p q v w a b has has_too inside listed

pub reduces_ok : {E : Type 0} (r : Result Reduced E) (f : Tree) (p : List Predicate) (v : ℕ) (q : List Predicate) (w : ℕ) → InFragment f → AreListed f p q
    → IfOk r (λ x. x ≡ reduce_of f p v q w) → IfOk r (Reduces f p v q w)
reduces_ok (Ok x) f p v q w inside listed e = subst (λ y. Reduces f p v q w y) (sym e) (reduces f p v q w inside listed)
reduces_ok (Err e) f p v q w inside listed h = tt
