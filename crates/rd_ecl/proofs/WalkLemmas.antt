-- The pairs of a method, one for each method of the kind, say all that the pairs say of it.
use Rattle.std.proofs.Common.{◌≡◌, ◌≢◌, ℕ, ◌+◌, ◌-◌, ◌*◌, ◌<◌, ◌≤◌, zero, suc, Bool, true, false, if◌then◌else◌, List, [], ◌∷◌, ◌++◌, length, Option, Some, None, refl, ap, sym, ◌∙◌, arith, length-append, get_or}
use Rattle.std.specs.Prelude.{flat_map, map, min, max, nat_le}
use Rattle.std.specs.List.{range_with_len}
use Rattle.std.proofs.Math.ListN.{get_or-eq_default}
use Rattle.std.proofs.lemmas.List.{append-nil}
use Rattle.std.proofs.lemmas.List.Concat.{flat_map-append}
use Rattle.std.proofs.lemmas.List.Folds.{flat_map-map}
use Rattle.rd_ecl.specs.declared.formulas.Predicate.{Predicate}
use Rattle.rd_ecl.specs.Formulas.{Tree, distinct, distinct_from}
use Rattle.rd_ecl.specs.declared.relations.Relations.{Relations}
use Rattle.rd_ecl.specs.Relations.{Gathers, RelationsAreCounted, kept_relations, part_of, with_room}
use Rattle.rd_ecl.specs.Specified.{SpecifiedKind, all_pairs, formula_at, method_predicates, predicates_at}
use Rattle.rd_ecl.proofs.PairLemmas.{none_of, not_asked, some_of}
use Rattle.rd_ecl.proofs.RoomLemmas.{distinct_both}
use Rattle.rd_base.specs.declared.limits.TheConstants.{MOST_METHODS, MOST_PREDICATES}

-- numbers in a row
both_ranges : (a m n : ℕ) → range_with_len a (m + n) ≡ range_with_len a m ++ range_with_len (a + m) n
both_ranges a zero n = let e : zero + n ≡ n = omega arith in let s : a + 0 ≡ a = omega arith in rw (e, s) refl
both_ranges a (suc m) n =
    let e : suc m + n ≡ suc (m + n) = omega arith in
    let s : a + suc m ≡ a + 1 + m = omega arith in
    rw (e, s) (ap (λ (l : List ℕ). a ∷ l) (both_ranges (a + 1) m n))

up_to : (m n : ℕ) → m ≤ n → range_with_len 0 n ≡ range_with_len 0 m ++ range_with_len m (n - m)
up_to m n h =
    let e : n ≡ m + (n - m) = omega (arith, h) in
    let at : 0 + m ≡ m = omega arith in
    ap (range_with_len 0) e ∙ (both_ranges 0 m (n - m) ∙ ap (λ (b : ℕ). range_with_len 0 m ++ range_with_len b (n - m)) at)

-- what is said at each number of a row
same_row : (t u : ℕ → List Predicate) (a n : ℕ) → ((k : ℕ) → a ≤ k → k < a + n → t k ≡ u k) → flat_map t (range_with_len a n) ≡ flat_map u (range_with_len a n)
same_row t u a zero same = refl
same_row t u a (suc n) same =
    rw (same a (omega arith) (omega arith), same_row t u (a + 1) n (λ k h l. same k (omega (arith, h)) (omega (arith, l)))) refl

empty_row : (t : ℕ → List Predicate) (a n : ℕ) → ((k : ℕ) → a ≤ k → k < a + n → t k ≡ []) → flat_map t (range_with_len a n) ≡ []
empty_row t a zero none = refl
empty_row t a (suc n) none =
    rw (none a (omega arith) (omega arith)) (empty_row t (a + 1) n (λ k h l. none k (omega (arith, h)) (omega (arith, l))))

one_in_row : (t : ℕ → List Predicate) (a n m : ℕ) → a + n ≡ m + 1 + (a + n - (m + 1)) → a ≤ m → ((k : ℕ) → k ≢ m → t k ≡ []) → flat_map t (range_with_len a n) ≡ t m
one_in_row t a n m within h none =
    let split : n ≡ (m - a) + suc (a + n - (m + 1)) = omega (arith, within, h) in
    let at : a + (m - a) ≡ m = omega (arith, h) in
    let rest = a + n - (m + 1) in
    let apart : range_with_len a n ≡ range_with_len a (m - a) ++ (m ∷ range_with_len (m + 1) rest) =
    ap (range_with_len a) split ∙ (both_ranges a (m - a) (suc rest) ∙ ap (λ (b : ℕ). range_with_len a (m - a) ++ range_with_len b (suc rest)) at) in
    let front = empty_row t a (m - a) (λ k l r. none k (λ e. absurd (omega (arith, e, r, at)))) in
    let back = empty_row t (m + 1) rest (λ k l r. none k (λ e. absurd (omega (arith, e, l)))) in
    rw (apart, flat_map-append t (range_with_len a (m - a)) (m ∷ range_with_len (m + 1) rest), front, back) (append-nil (t m))

nested : (t : ℕ × ℕ → List Predicate) (rows : ℕ → List (ℕ × ℕ)) (firsts : List ℕ)
    → flat_map t (flat_map rows firsts) ≡ flat_map (λ first. flat_map t (rows first)) firsts
nested t rows [] = refl
nested t rows (first ∷ firsts) =
    flat_map-append t (rows first) (flat_map rows firsts) ∙ ap (λ (l : List Predicate). flat_map t (rows first) ++ l) (nested t rows firsts)

-- a pair without the method says nothing of it
apart_by : (kind : SpecifiedKind) (m i j : ℕ) (o : Option Tree) → formula_at kind i j ≡ o → i ≢ m → j ≢ m → predicates_at kind m (i, j) ≡ []
apart_by kind m i j None e h k = none_of kind m i j e
apart_by kind m i j (Some f) e h k = some_of kind m i j f e ∙ not_asked f m i j h k

apart_from : (kind : SpecifiedKind) (m i j : ℕ) → i ≢ m → j ≢ m → predicates_at kind m (i, j) ≡ []
apart_from kind m i j h k = apart_by kind m i j (formula_at kind i j) refl h k

-- the pairs that begin with a method
abbrev row_of : SpecifiedKind → ℕ → ℕ → List Predicate
row_of kind m first = flat_map (λ (second : ℕ). predicates_at kind m (first, second)) (range_with_len first (MOST_METHODS - first))

row_before : (kind : SpecifiedKind) (m first : ℕ) → m < MOST_METHODS → first < m → row_of kind m first ≡ part_of kind m first
row_before kind m first few h =
    let low : min m first ≡ first = omega (arith, h) in
    let high : max m first ≡ m = omega (arith, h) in
    rw (low, high) (one_in_row (λ (second : ℕ). predicates_at kind m (first, second)) first (MOST_METHODS - first) m (omega (arith, h, few)) (omega (arith, h))
    (λ k apart. apart_from kind m first k (λ e. absurd (omega (arith, e, h))) apart))

row_behind : (kind : SpecifiedKind) (m first : ℕ) → m < first → row_of kind m first ≡ []
row_behind kind m first h =
    empty_row (λ (second : ℕ). predicates_at kind m (first, second)) first (MOST_METHODS - first)
    (λ k l r. apart_from kind m first k (λ e. absurd (omega (arith, e, h))) (λ e. absurd (omega (arith, e, h, l))))

part_behind : (kind : SpecifiedKind) (m second : ℕ) → m ≤ second → predicates_at kind m (m, second) ≡ part_of kind m second
part_behind kind m second h =
    let low : min m second ≡ m = omega (arith, h) in
    let high : max m second ≡ second = omega (arith, h) in
    rw (low, high) refl

row_at : (kind : SpecifiedKind) (m : ℕ) → row_of kind m m ≡ flat_map (part_of kind m) (range_with_len m (MOST_METHODS - m))
row_at kind m = same_row (λ (second : ℕ). predicates_at kind m (m, second)) (part_of kind m) m (MOST_METHODS - m) (λ k l r. part_behind kind m k l)

all_rows : (kind : SpecifiedKind) (m : ℕ) → flat_map (predicates_at kind m) all_pairs ≡ flat_map (row_of kind m) (range_with_len 0 MOST_METHODS)
unfolding all_pairs
all_rows kind m =
    nested (predicates_at kind m) (λ (first : ℕ). map (λ (second : ℕ). (first, second)) (range_with_len first (MOST_METHODS - first))) (range_with_len 0 MOST_METHODS)
    ∙ same_row (λ (first : ℕ). flat_map (predicates_at kind m) (map (λ (second : ℕ). (first, second)) (range_with_len first (MOST_METHODS - first)))) (row_of kind m) 0 MOST_METHODS
    (λ first l r. flat_map-map (predicates_at kind m) (λ (second : ℕ). (first, second)) (range_with_len first (MOST_METHODS - first)))

rows_are : (kind : SpecifiedKind) (m : ℕ) → m < MOST_METHODS → flat_map (row_of kind m) (range_with_len 0 MOST_METHODS) ≡ flat_map (part_of kind m) (range_with_len 0 MOST_METHODS)
rows_are kind m few =
    let whole = up_to m MOST_METHODS (omega (arith, few)) in
    let rest : range_with_len m (MOST_METHODS - m) ≡ m ∷ range_with_len (m + 1) (MOST_METHODS - 1 - m) = (let e : MOST_METHODS - m ≡ suc (MOST_METHODS - 1 - m) = omega (arith, few) in ap (range_with_len m) e) in
    let front = same_row (row_of kind m) (part_of kind m) 0 m (λ k l r. row_before kind m k few (omega (arith, r))) in
    let back = empty_row (row_of kind m) (m + 1) (MOST_METHODS - 1 - m) (λ k l r. row_behind kind m k (omega (arith, l))) in
    ap (flat_map (row_of kind m)) whole ∙ (flat_map-append (row_of kind m) (range_with_len 0 m) (range_with_len m (MOST_METHODS - m))
    ∙ (ap (λ (l : List Predicate). l ++ flat_map (row_of kind m) (range_with_len m (MOST_METHODS - m))) front
    ∙ (ap (λ (l : List Predicate). flat_map (part_of kind m) (range_with_len 0 m) ++ l)
    (ap (flat_map (row_of kind m)) rest ∙ (ap (λ (l : List Predicate). row_of kind m m ++ l) back ∙ (append-nil (row_of kind m m) ∙ row_at kind m)))
    ∙ (sym (flat_map-append (part_of kind m) (range_with_len 0 m) (range_with_len m (MOST_METHODS - m))) ∙ ap (flat_map (part_of kind m)) (sym whole)))))

-- past the methods no formula is set
past_by : (b : Bool) (xs : List (Option Tree)) (p : ℕ) → length xs ≤ p → (if b then get_or xs p None else None) ≡ None
past_by true xs p h = get_or-eq_default xs None h
past_by false xs p h = refl

past : (kind : SpecifiedKind) (m k : ℕ) → length kind.pairs ≡ MOST_METHODS * length kind.methods → length kind.methods ≤ k → part_of kind m k ≡ []
past kind m k rows h =
    none_of kind m (min m k) (max m k) (past_by (nat_le (min m k) (max m k)) kind.pairs (MOST_METHODS * max m k + min m k) (omega (arith, rows, h)))

-- the walk over the methods finds what all pairs say
pub walk_is : (kind : SpecifiedKind) (m : ℕ) → length kind.pairs ≡ MOST_METHODS * length kind.methods → length kind.methods ≤ MOST_METHODS → m < length kind.methods
    → method_predicates kind m ≡ distinct (flat_map (part_of kind m) (range_with_len 0 (length kind.methods)))
walk_is kind m rows few known =
    let n = length kind.methods in
    let whole = up_to n MOST_METHODS few in
    let back = empty_row (part_of kind m) n (MOST_METHODS - n) (λ k l r. past kind m k rows l) in
    ap distinct (all_rows kind m ∙ (rows_are kind m (omega (arith, few, known)) ∙ (ap (flat_map (part_of kind m)) whole
    ∙ (flat_map-append (part_of kind m) (range_with_len 0 n) (range_with_len n (MOST_METHODS - n))
    ∙ (ap (λ (l : List Predicate). flat_map (part_of kind m) (range_with_len 0 n) ++ l) back ∙ append-nil (flat_map (part_of kind m) (range_with_len 0 n)))))))

-- what is kept after a walk over the first methods
abbrev pub IsKept : SpecifiedKind → ℕ → ℕ → Relations → Type 0
IsKept kind m other seen = RelationsAreCounted seen × (kept_relations seen ≡ distinct (flat_map (part_of kind m) (range_with_len 0 other)))

one_more : (kind : SpecifiedKind) (m other : ℕ) → flat_map (part_of kind m) (range_with_len 0 (other + 1)) ≡ flat_map (part_of kind m) (range_with_len 0 other) ++ part_of kind m other
one_more kind m other =
    let one : other + 1 - other ≡ 1 = omega arith in
    let split : range_with_len 0 (other + 1) ≡ range_with_len 0 other ++ (other ∷ []) =
    up_to other (other + 1) (omega arith) ∙ ap (λ (n : ℕ). range_with_len 0 other ++ range_with_len other n) one in
    ap (flat_map (part_of kind m)) split ∙ (flat_map-append (part_of kind m) (range_with_len 0 other) (other ∷ [])
    ∙ ap (λ (l : List Predicate). flat_map (part_of kind m) (range_with_len 0 other) ++ l) (append-nil (part_of kind m other)))

pub kept_more : (kind : SpecifiedKind) (m other : ℕ) (seen more : Relations) → IsKept kind m other seen → Gathers (kept_relations seen) (part_of kind m other) (Some more)
    → IsKept kind m (other + 1) more
kept_more kind m other seen more h k =
    let old = flat_map (part_of kind m) (range_with_len 0 other) in
    let is = h.1 in
    let gathered : kept_relations more ≡ distinct old ++ distinct_from (distinct old) (part_of kind m other) = rw (← is) k.1 in
    (k.0, gathered ∙ (sym (distinct_both [] old (part_of kind m other)) ∙ ap distinct (sym (one_more kind m other))))

-- a walk that finds a sixth shows that there are more than 5
pub kept_full : (kind : SpecifiedKind) (m other : ℕ) (seen : Relations) → length kind.pairs ≡ MOST_METHODS * length kind.methods → length kind.methods ≤ MOST_METHODS
    → m < length kind.methods → other < length kind.methods → IsKept kind m other seen → Gathers (kept_relations seen) (part_of kind m other) None
    → MOST_PREDICATES < length (method_predicates kind m)
kept_full kind m other seen rows few known below h k =
    let n = length kind.methods in
    let old = flat_map (part_of kind m) (range_with_len 0 other) in
    let new = part_of kind m other in
    let rest = flat_map (part_of kind m) (range_with_len (other + 1) (n - (other + 1))) in
    let is = h.1 in
    let full : MOST_PREDICATES < length (distinct old) + length (distinct_from (distinct old) new) = rw (← is) k in
    let whole : flat_map (part_of kind m) (range_with_len 0 n) ≡ (old ++ new) ++ rest =
    ap (flat_map (part_of kind m)) (up_to (other + 1) n (omega (arith, below)))
    ∙ (flat_map-append (part_of kind m) (range_with_len 0 (other + 1)) (range_with_len (other + 1) (n - (other + 1)))
    ∙ ap (λ (l : List Predicate). l ++ rest) (one_more kind m other)) in
    let front = distinct_both [] (old ++ new) rest in
    let inner = distinct_both [] old new in
    let count = length-append (distinct (old ++ new)) (distinct_from (distinct (old ++ new)) rest) in
    let counted = length-append (distinct old) (distinct_from (distinct old) new) in
    let there : length (distinct ((old ++ new) ++ rest)) ≡ length (distinct (old ++ new)) + length (distinct_from (distinct (old ++ new)) rest) = ap length front ∙ count in
    let here : length (distinct (old ++ new)) ≡ length (distinct old) + length (distinct_from (distinct old) new) = ap length inner ∙ counted in
    rw (walk_is kind m rows few known, whole) (omega (arith, there, here, full))

pub kept_all : (kind : SpecifiedKind) (m : ℕ) (seen : Relations) → length kind.pairs ≡ MOST_METHODS * length kind.methods → length kind.methods ≤ MOST_METHODS
    → m < length kind.methods → IsKept kind m (length kind.methods) seen → length (method_predicates kind m) ≤ MOST_PREDICATES
kept_all kind m seen rows few known h =
    let is = h.1 in
    let room = h.0.few in
    let count = h.0.count in
    rw (walk_is kind m rows few known, ← is) (omega (arith, room, count))

-- a walk over a kind of few predicates finds no sixth
pub goes_on : (kind : SpecifiedKind) (m other : ℕ) (seen more : Relations) (room : Bool) → length kind.pairs ≡ MOST_METHODS * length kind.methods
    → length kind.methods ≤ MOST_METHODS → m < length kind.methods → other < length kind.methods → length (method_predicates kind m) ≤ MOST_PREDICATES
    → IsKept kind m other seen → Gathers (kept_relations seen) (part_of kind m other) (with_room room more) → IsKept kind m (other + 1) more
goes_on kind m other seen more true rows few known below least h k = kept_more kind m other seen more h k
goes_on kind m other seen more false rows few known below least h k =
    let full = kept_full kind m other seen rows few known below h k in
    absurd (omega (arith, full, least))

-- what is kept after the whole walk
pub kept_whole : (kind : SpecifiedKind) (m : ℕ) (seen : Relations) → length kind.pairs ≡ MOST_METHODS * length kind.methods → length kind.methods ≤ MOST_METHODS
    → m < length kind.methods → IsKept kind m (length kind.methods) seen → kept_relations seen ≡ method_predicates kind m
kept_whole kind m seen rows few known h = h.1 ∙ sym (walk_is kind m rows few known)
