-- A kind with some of the pairs of another says no more of a method.
use Rattle.std.proofs.Common.{◌≡◌, ℕ, suc, ◌+◌, ◌≤◌, Bool, true, false, ◌||◌, List, [], ◌∷◌, ◌++◌, length, None, refl, ap, subst, arith, inl, inr, ◌∙◌, length-append}
use Rattle.std.specs.Prelude.{flat_map, ◌⊎◌, if◌then◌else◌}
use Rattle.std.specs.List.{list_any}
use Rattle.std.proofs.lemmas.List.{append-nil}
use Rattle.rd_ecl.specs.declared.formulas.Predicate.{Predicate}
use Rattle.rd_ecl.specs.Formulas.{distinct_from, same_predicate}
use Rattle.rd_ecl.specs.Specified.{SpecifiedKind, all_pairs, formula_at, method_predicates, predicates_at}
use Rattle.rd_ecl.proofs.EqualLemmas.{predicate_decides}
use Rattle.rd_ecl.proofs.RoomLemmas.{distinct_both}

abbrev among : Predicate → List Predicate → Bool
among p ps = list_any (same_predicate p) ps

-- what is seen counts, and not in which order
same_step : (b c : Bool) (p : Predicate) (xs ys us vs : List Predicate) → b ≡ c → xs ≡ ys → us ≡ vs → (if b then xs else p ∷ us) ≡ (if c then ys else p ∷ vs)
same_step b c p xs ys us vs e f g = rw (e, f, g) refl

same_seen : (s t ps : List Predicate) → ((p : Predicate) → among p s ≡ among p t) → distinct_from s ps ≡ distinct_from t ps
same_seen s t [] same = refl
same_seen s t (p ∷ ps) same =
    same_step (among p s) (among p t) p (distinct_from s ps) (distinct_from t ps) (distinct_from (p ∷ s) ps) (distinct_from (p ∷ t) ps) (same p)
    (same_seen s t ps same) (same_seen (p ∷ s) (p ∷ t) ps (λ q. ap (λ (b : Bool). same_predicate q p || b) (same q)))

turned : (a b c : Bool) → (a || (b || c)) ≡ (b || (a || c))
turned true true c = refl
turned true false c = refl
turned false b c = refl

-- one more that is seen is at most one less that is new
one_step : (y z : Predicate) (s zs : List Predicate) (seen same : Bool) → among z s ≡ seen → same_predicate z y ≡ same
    → length (distinct_from s zs) ≤ suc (length (distinct_from (y ∷ s) zs)) → length (distinct_from (z ∷ s) zs) ≤ suc (length (distinct_from (y ∷ z ∷ s) zs))
    → length (distinct_from s (z ∷ zs)) ≤ suc (length (distinct_from (y ∷ s) (z ∷ zs)))
one_step y z s zs true true e f old new = rw (e, f) old
one_step y z s zs true false e f old new = rw (e, f) old
one_step y z s zs false true e f old new =
    let here : z ≡ y = (predicate_decides z y).0 f in
    rw (e, f) (subst (λ (x : Predicate). suc (length (distinct_from (z ∷ s) zs)) ≤ suc (length (distinct_from (x ∷ s) zs))) here (omega arith))
one_step y z s zs false false e f old new =
    let swapped : distinct_from (z ∷ y ∷ s) zs ≡ distinct_from (y ∷ z ∷ s) zs =
    same_seen (z ∷ y ∷ s) (y ∷ z ∷ s) zs (λ q. turned (same_predicate q z) (same_predicate q y) (among q s)) in
    let counts = ap length swapped in
    rw (e, f) (omega (arith, new, counts))

one_less : (y : Predicate) (s zs : List Predicate) → length (distinct_from s zs) ≤ suc (length (distinct_from (y ∷ s) zs))
one_less y s [] = omega arith
one_less y s (z ∷ zs) = one_step y z s zs (among z s) (same_predicate z y) refl refl (one_less y s zs) (one_less y (z ∷ s) zs)

moved : (q y : Predicate) (s e : List Predicate) → among q (y ∷ s ++ e) ≡ among q (s ++ y ∷ e)
moved q y [] e = refl
moved q y (x ∷ s) e = turned (same_predicate q y) (same_predicate q x) (among q (s ++ e)) ∙ ap (λ (b : Bool). same_predicate q x || b) (moved q y s e)

some_less : (e s zs : List Predicate) → length (distinct_from s zs) ≤ length e + length (distinct_from (s ++ e) zs)
some_less [] s zs = rw (append-nil s) (omega arith)
some_less (y ∷ e) s zs =
    let one = one_less y s zs in
    let rest = some_less e (y ∷ s) zs in
    let same : distinct_from (y ∷ s ++ e) zs ≡ distinct_from (s ++ y ∷ e) zs = same_seen (y ∷ s ++ e) (s ++ y ∷ e) zs (λ q. moved q y s e) in
    let counts = ap length same in
    omega (arith, one, rest, counts)

-- of lists, some of which are left out
fewer_step : (a b xs ys s : List Predicate) → (a ≡ []) ⊎ (a ≡ b) → ((t : List Predicate) → length (distinct_from t xs) ≤ length (distinct_from t ys))
    → length (distinct_from s (a ++ xs)) ≤ length (distinct_from s (b ++ ys))
fewer_step a b xs ys s (inl none) each =
    let rest = each s in
    let less = some_less (distinct_from s b) s ys in
    let count = ap length (distinct_both s b ys) ∙ length-append (distinct_from s b) (distinct_from (s ++ distinct_from s b) ys) in
    rw none (omega (arith, rest, less, count))
fewer_step a b xs ys s (inr same) each =
    let rest = each (s ++ distinct_from s b) in
    let count = ap length (distinct_both s b ys) ∙ length-append (distinct_from s b) (distinct_from (s ++ distinct_from s b) ys) in
    let both = ap length (distinct_both s b xs) ∙ length-append (distinct_from s b) (distinct_from (s ++ distinct_from s b) xs) in
    rw same (omega (arith, rest, both, count))

fewer : (f g : ℕ × ℕ → List Predicate) (ps : List (ℕ × ℕ)) → ((p : ℕ × ℕ) → (f p ≡ []) ⊎ (f p ≡ g p)) → (s : List Predicate)
    → length (distinct_from s (flat_map f ps)) ≤ length (distinct_from s (flat_map g ps))
fewer f g [] part s = omega arith
fewer f g (p ∷ ps) part s = fewer_step (f p) (g p) (flat_map f ps) (flat_map g ps) s (part p) (fewer f g ps part)

pub few_parts : (part whole : SpecifiedKind) (method : ℕ)
    → ((m n : ℕ) → (formula_at part m n ≡ None) ⊎ (formula_at part m n ≡ formula_at whole m n))
    → length (method_predicates part method) ≤ length (method_predicates whole method)
few_parts part whole method are = fewer (predicates_at part method) (predicates_at whole method) all_pairs (λ p. by p (are p.0 p.1)) [] where
  by : (p : ℕ × ℕ) → (formula_at part p.0 p.1 ≡ None) ⊎ (formula_at part p.0 p.1 ≡ formula_at whole p.0 p.1)
      → (predicates_at part method p ≡ []) ⊎ (predicates_at part method p ≡ predicates_at whole method p)
  by p (inl none) = inl (rw none refl)
  by p (inr same) = inr (rw same refl)
