-- Relations that are gathered, each once.
use Rattle.std.proofs.Common.{◌≡◌, ◌+◌, ◌<◌, Bool, true, false, ◌||◌, List, [], ◌∷◌, ◌++◌, length, if◌then◌else◌, refl, ap, sym, ◌∙◌, arith, length-append, Option, Some, None}
use Rattle.std.specs.List.{list_any}
use Rattle.std.proofs.lemmas.List.{append_assoc, append-nil}
use Rattle.std.proofs.lemmas.List.Folds.{list_any-append}
use Rattle.rd_ecl.specs.declared.formulas.Predicate.{Predicate}
use Rattle.rd_ecl.specs.declared.relations.Relations.{Relations}
use Rattle.rd_ecl.specs.Formulas.{same_predicate, distinct_from}
use Rattle.rd_ecl.specs.Relations.{Gathers, kept_relations}
use Rattle.rd_base.specs.declared.limits.TheConstants.{MOST_PREDICATES}

abbrev among : Predicate → List Predicate → Bool
among p ps = list_any (same_predicate p) ps

-- only what is among the ones seen counts, and not their order
same_if : (b c : Bool) (p : Predicate) (xs ys us vs : List Predicate) → b ≡ c → xs ≡ ys → us ≡ vs
    → (if b then xs else p ∷ us) ≡ (if c then ys else p ∷ vs)
same_if b c p xs ys us vs e f g = rw (e, f, g) refl

same_seen : (s t ps : List Predicate) → ((p : Predicate) → among p s ≡ among p t) → distinct_from s ps ≡ distinct_from t ps
same_seen s t [] same = refl
same_seen s t (p ∷ ps) same =
    same_if (among p s) (among p t) p (distinct_from s ps) (distinct_from t ps) (distinct_from (p ∷ s) ps) (distinct_from (p ∷ t) ps) (same p)
    (same_seen s t ps same) (same_seen (p ∷ s) (p ∷ t) ps (λ q. ap (λ (b : Bool). same_predicate q p || b) (same q)))

turned : (a b c : Bool) → (a || (b || c)) ≡ (b || (a || c))
turned true true c = refl
turned true false c = refl
turned false b c = refl

later_one : (q p : Predicate) (s xs : List Predicate) → among q (p ∷ s ++ xs) ≡ among q (s ++ p ∷ xs)
later_one q p s xs =
    ap (λ (b : Bool). same_predicate q p || b) (list_any-append (same_predicate q) s xs)
    ∙ (turned (same_predicate q p) (among q s) (among q xs) ∙ sym (list_any-append (same_predicate q) s (p ∷ xs)))

-- the new ones of two lists
distinct_step : (b : Bool) (p : Predicate) (s xs ys : List Predicate) → among p s ≡ b
    → distinct_from s (xs ++ ys) ≡ distinct_from s xs ++ distinct_from (s ++ distinct_from s xs) ys
    → distinct_from (p ∷ s) (xs ++ ys) ≡ distinct_from (p ∷ s) xs ++ distinct_from (p ∷ s ++ distinct_from (p ∷ s) xs) ys
    → distinct_from s (p ∷ xs ++ ys) ≡ distinct_from s (p ∷ xs) ++ distinct_from (s ++ distinct_from s (p ∷ xs)) ys
distinct_step true p s xs ys e old new = rw (e) old
distinct_step false p s xs ys e old new =
    rw (e) (ap (λ (l : List Predicate). p ∷ l) (new
    ∙ ap (λ (l : List Predicate). distinct_from (p ∷ s) xs ++ l)
    (same_seen (p ∷ s ++ distinct_from (p ∷ s) xs) (s ++ p ∷ distinct_from (p ∷ s) xs) ys (λ q. later_one q p s (distinct_from (p ∷ s) xs)))))

pub distinct_both : (s xs ys : List Predicate) → distinct_from s (xs ++ ys) ≡ distinct_from s xs ++ distinct_from (s ++ distinct_from s xs) ys
distinct_both s [] ys = rw (append-nil s) refl
distinct_both s (p ∷ xs) ys = distinct_step (among p s) p s xs ys refl (distinct_both s xs ys) (distinct_both (p ∷ s) xs ys)

-- relations that are gathered one list after another
pub gathers_then : (old xs ys : List Predicate) (middle : Relations) (last : Option Relations) → Gathers old xs (Some middle)
    → Gathers (kept_relations middle) ys last → Gathers old (xs ++ ys) last
gathers_then old xs ys middle (Some seen) h k =
    (k.0, k.1 ∙ (rw (h.1) (append_assoc old (distinct_from old xs) (distinct_from (old ++ distinct_from old xs) ys)) ∙ ap (λ (l : List Predicate). old ++ l) (sym (distinct_both old xs ys))))
gathers_then old xs ys middle None h k =
    let more = distinct_both old xs ys in
    let e = h.1 in
    let count = length-append old (distinct_from old xs) in
    let both = length-append (distinct_from old xs) (distinct_from (old ++ distinct_from old xs) ys) in
    let full : MOST_PREDICATES < length (old ++ distinct_from old xs) + length (distinct_from (old ++ distinct_from old xs) ys) = rw (← e) k in
    rw (more) (omega (arith, full, count, both))

pub gathers_full : (old xs ys : List Predicate) → Gathers old xs None → Gathers old (xs ++ ys) None
gathers_full old xs ys h =
    let both = length-append (distinct_from old xs) (distinct_from (old ++ distinct_from old xs) ys) in
    rw (distinct_both old xs ys) (omega (arith, h, both))
