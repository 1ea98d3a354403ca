-- The relations of a pair's formula on one side are among the predicates of its methods.
use Rattle.std.proofs.Common.{◌≡◌, ◌+◌, ◌-◌, ◌<◌, ◌≤◌, ◌⊎◌, ℕ, zero, suc, Bool, true, false, not, ◌||◌, cond, List, [], ◌∷◌, ◌++◌, length, map, Some, None, refl, sym, ap, ◌∙◌, arith, inl, inr, subst, true≢false}
use Rattle.std.specs.Prelude.{slice_get, IsSome, option_map, unwrap_or, flat_map}
use Rattle.std.specs.List.{list_any, prefix_len, range_with_len}
use Rattle.std.proofs.lemmas.Bool.{or_cases, or_left, or_right, eq-eqb, lt-ltb}
use Rattle.std.proofs.lemmas.Option.{none-some, same_Some}
use Rattle.std.proofs.lemmas.Grind.{flat_map-append}
use Rattle.std.proofs.lemmas.List.Concat.{flat_map-cons}
use Rattle.std.proofs.lemmas.List.Folds.{flat_map-map}
use Rattle.rd_ecl.specs.declared.formulas.Side.TheVariants.{First, Second}
use Rattle.rd_ecl.specs.declared.formulas.Predicate.{Predicate}
use Rattle.rd_ecl.specs.Formulas.{Tree, truth, atom, cross, mixed, negation, both, either, distinct, distinct_from, predicates_of, same_predicate}
use Rattle.rd_ecl.specs.Specified.{IsKind, SpecifiedKind, all_pairs, formula_at, method_predicates, predicates_at}
use Rattle.rd_ecl.proofs.EqualLemmas.{predicate_decides}
use Rattle.rd_ecl.specs.Reduction.{AreListed, place_in, predicate_of}

-- a list has a member
abbrev Has : List Predicate → Predicate → Type 0
Has ps p = list_any (same_predicate p) ps ≡ true

same_itself : (p : Predicate) → same_predicate p p ≡ true
same_itself p = (predicate_decides p p).1 refl

has_append : (p : Predicate) (xs ys : List Predicate) → Has xs p ⊎ Has ys p → Has (xs ++ ys) p
has_append p [] ys (inl h) = absurd (true≢false (sym h))
has_append p [] ys (inr h) = h
has_append p (x ∷ xs) ys (inl h) = elim (or_cases (same_predicate p x) (list_any (same_predicate p) xs) h) [
  | inl here ↦ or_left _ _ here
  | inr later ↦ or_right (same_predicate p x) _ (has_append p xs ys (inl later))
]
has_append p (x ∷ xs) ys (inr h) = or_right (same_predicate p x) _ (has_append p xs ys (inr h))

-- what is in a list is placed in it
first_below : (test : Predicate → Bool) (ps : List Predicate) → list_any test ps ≡ true → prefix_len (λ x. not (test x)) ps < length ps
first_below test [] h = absurd (true≢false (sym h))
first_below test (x ∷ ps) h = by (test x) refl (first_below test ps)
  where
    by : (b : Bool) → test x ≡ b → (list_any test ps ≡ true → prefix_len (λ y. not (test y)) ps < length ps) → prefix_len (λ y. not (test y)) (x ∷ ps) < length (x ∷ ps)
    by true here rest = subst (λ c. cond (not c) (1 + prefix_len (λ y. not (test y)) ps) 0 < suc (length ps)) (sym here) (omega arith)
    by false other rest = subst (λ c. cond (not c) (1 + prefix_len (λ y. not (test y)) ps) 0 < suc (length ps)) (sym other)
        (let l = rest (subst (λ c. (c || list_any test ps) ≡ true) other h) in omega arith)

placed : (ps : List Predicate) (p : Predicate) → Has ps p → IsSome (place_in ps p)
placed ps p h =
    let found = prefix_len (λ x. not (same_predicate p x)) ps in
    subst (λ c. IsSome (cond c (Some found) None)) (sym (lt-ltb found (length ps) (first_below (same_predicate p) ps h))) refl

-- each predicate is among the distinct ones, or among those that were seen
distinct_has : (p : Predicate) (seen ps : List Predicate) → Has ps p → Has (distinct_from seen ps) p ⊎ Has seen p
distinct_has p seen [] h = absurd (true≢false (sym h))
distinct_has p seen (x ∷ ps) h =
    by (list_any (same_predicate x) seen) refl (or_cases (same_predicate p x) (list_any (same_predicate p) ps) h) (λ known. distinct_has p known ps)
  where
    by : (b : Bool) → list_any (same_predicate x) seen ≡ b → (same_predicate p x ≡ true) ⊎ Has ps p
        → ((known : List Predicate) → Has ps p → Has (distinct_from known ps) p ⊎ Has known p) → Has (distinct_from seen (x ∷ ps)) p ⊎ Has seen p
    by true known (inl here) rest = inr (subst (λ y. Has seen y) (sym ((predicate_decides p x).0 here)) known)
    by true known (inr later) rest = subst (λ c. Has (cond c (distinct_from seen ps) (x ∷ distinct_from (x ∷ seen) ps)) p ⊎ Has seen p) (sym known) (rest seen later)
    by false fresh (inl here) rest = inl (subst (λ c. Has (cond c (distinct_from seen ps) (x ∷ distinct_from (x ∷ seen) ps)) p) (sym fresh) (or_left (same_predicate p x) _ here))
    by false fresh (inr later) rest = elim (rest (x ∷ seen) later) [
      | inl found ↦ inl (subst (λ c. Has (cond c (distinct_from seen ps) (x ∷ distinct_from (x ∷ seen) ps)) p) (sym fresh) (or_right (same_predicate p x) _ found))
      | inr before ↦ elim (or_cases (same_predicate p x) (list_any (same_predicate p) seen) before) [
        | inl here ↦ inl (subst (λ c. Has (cond c (distinct_from seen ps) (x ∷ distinct_from (x ∷ seen) ps)) p) (sym fresh) (or_left (same_predicate p x) _ here))
        | inr old ↦ inr old
      ]
    ]

in_distinct : (p : Predicate) (ps : List Predicate) → Has ps p → Has (distinct ps) p
in_distinct p ps h = elim (distinct_has p [] ps h) [ inl found ↦ found | inr none ↦ absurd (true≢false (sym none)) ]

-- ---- lists of lists

in_flat : {X : Type 0} (f : X → List Predicate) (p : Predicate) (xs : List X) (i : ℕ) (x : X) → slice_get xs i ≡ Some x → Has (f x) p → Has (flat_map f xs) p
in_flat f p [] i x at h = absurd (none-some x at)
in_flat f p (u ∷ xs) zero x at h = subst (λ l. Has l p) (sym (flat_map-cons f u xs)) (has_append p (f u) (flat_map f xs) (inl (subst (λ y. Has (f y) p) (sym (same_Some u x at)) h)))
in_flat f p (u ∷ xs) (suc i) x at h = subst (λ l. Has l p) (sym (flat_map-cons f u xs)) (has_append p (f u) (flat_map f xs) (inr (in_flat f p xs i x at h)))

in_both : {X Y : Type 0} (f : Y → List Predicate) (g : X → List Y) (p : Predicate) (xs : List X) (i : ℕ) (x : X) → slice_get xs i ≡ Some x → Has (flat_map f (g x)) p → Has (flat_map f (flat_map g xs)) p
in_both f g p [] i x at h = absurd (none-some x at)
in_both f g p (u ∷ xs) zero x at h =
    subst (λ l. Has (flat_map f l) p) (sym (flat_map-cons g u xs)) (subst (λ l. Has l p) (sym (flat_map-append f (g u) (flat_map g xs)))
    (has_append p (flat_map f (g u)) (flat_map f (flat_map g xs)) (inl (subst (λ y. Has (flat_map f (g y)) p) (sym (same_Some u x at)) h))))
in_both f g p (u ∷ xs) (suc i) x at h =
    subst (λ l. Has (flat_map f l) p) (sym (flat_map-cons g u xs)) (subst (λ l. Has l p) (sym (flat_map-append f (g u) (flat_map g xs)))
    (has_append p (flat_map f (g u)) (flat_map f (flat_map g xs)) (inr (in_both f g p xs i x at h))))

range_at : (a n j : ℕ) → j < n → slice_get (range_with_len a n) j ≡ Some (a + j)
range_at a zero j h = absurd (omega arith)
range_at a (suc n) zero h = ap Some (let e : a ≡ a + 0 = omega arith in e)
range_at a (suc n) (suc j) h = range_at (a + 1) n j (omega arith) ∙ ap Some (let e : a + 1 + j ≡ a + suc j = omega arith in e)

-- what a pair's formula says of a method is among its predicates
in_method : (kind : SpecifiedKind) (method m n : ℕ) (p : Predicate) → m ≤ n → n < 16 → Has (predicates_at kind method (m, n)) p → Has (method_predicates kind method) p
unfolding all_pairs
in_method kind method m n p ordered few h =
    in_distinct p (flat_map (predicates_at kind method) all_pairs)
    (in_both (predicates_at kind method) (λ first. map (λ second. (first, second)) (range_with_len first (16 - first))) p (range_with_len 0 16) m m (range_at 0 16 m (omega arith) ∙ ap Some (let e : 0 + m ≡ m = omega arith in e))
    (subst (λ l. Has l p) (sym (flat_map-map (predicates_at kind method) (λ second. (m, second)) (range_with_len m (16 - m))))
    (in_flat (λ second. predicates_at kind method (m, second)) p (range_with_len m (16 - m)) (n - m) n
    (range_at m (16 - m) (n - m) (omega arith) ∙ ap Some (let e : m + (n - m) ≡ n = omega arith in e)) h)))

-- ---- formulas

-- the relations of the formula are among these, by sides
Under : ℕ → ℕ → Tree → List Predicate → List Predicate → Type 0
Under m n f ps qs = ((p : Predicate) → Has (predicates_of m m n f) p → Has ps p) × ((p : Predicate) → Has (predicates_of n m n f) p → Has qs p)

under_parts : (m n : ℕ) (f g whole : Tree) (ps qs : List Predicate) → ((method : ℕ) → predicates_of method m n whole ≡ predicates_of method m n f ++ predicates_of method m n g)
    → Under m n whole ps qs → Under m n f ps qs × Under m n g ps qs
unfolding Under
under_parts m n f g whole ps qs parts u = (
  (
    λ p h. u.0 p (subst (λ l. Has l p) (sym (parts m)) (has_append p (predicates_of m m n f) (predicates_of m m n g) (inl h))),
    λ p h. u.1 p (subst (λ l. Has l p) (sym (parts n)) (has_append p (predicates_of n m n f) (predicates_of n m n g) (inl h))),
  ),
  (
    λ p h. u.0 p (subst (λ l. Has l p) (sym (parts m)) (has_append p (predicates_of m m n f) (predicates_of m m n g) (inr h))),
    λ p h. u.1 p (subst (λ l. Has l p) (sym (parts n)) (has_append p (predicates_of n m n f) (predicates_of n m n g) (inr h))),
  ),
)

listed : (m n : ℕ) (f : Tree) (ps qs : List Predicate) → Under m n f ps qs → AreListed f ps qs
unfolding Under
listed m n (truth value) ps qs u = tt
listed m n (atom First rel left right) ps qs u =
    let p = predicate_of rel left right in
    placed ps p (u.0 p (subst (λ b. Has (cond b (p ∷ []) []) p) (sym (eq-eqb m m refl)) (or_left _ _ (same_itself p))))
listed m n (atom Second rel left right) ps qs u =
    let p = predicate_of rel left right in
    placed qs p (u.1 p (subst (λ b. Has (cond b (p ∷ []) []) p) (sym (eq-eqb n n refl)) (or_left _ _ (same_itself p))))
listed m n (cross first second) ps qs u = tt
listed m n (mixed rel turned first second) ps qs u = tt
listed m n (negation f) ps qs u = listed m n f ps qs u
listed m n (both f g) ps qs u = let parts = under_parts m n f g (both f g) ps qs (λ method. refl) u in (listed m n f ps qs parts.0, listed m n g ps qs parts.1)
listed m n (either f g) ps qs u = let parts = under_parts m n f g (either f g) ps qs (λ method. refl) u in (listed m n f ps qs parts.0, listed m n g ps qs parts.1)

pub pair_listed : (kind : SpecifiedKind) (m n : ℕ) (f : Tree) → IsKind kind → m ≤ n → n < length kind.methods → formula_at kind m n ≡ Some f
    → AreListed f (method_predicates kind m) (method_predicates kind n)
unfolding Under
pair_listed kind m n f is ordered known found =
    let few : length kind.methods ≤ 16 = is.draft.methods.few in
    let at : (method : ℕ) → predicates_at kind method (m, n) ≡ predicates_of method m n f = λ method. ap (λ o. unwrap_or (option_map (predicates_of method m n) o) []) found in
    listed m n f (method_predicates kind m) (method_predicates kind n) (
      λ p h. in_method kind m m n p ordered (omega arith) (subst (λ l. Has l p) (sym (at m)) h),
      λ p h. in_method kind n m n p ordered (omega arith) (subst (λ l. Has l p) (sym (at n)) h),
    )
