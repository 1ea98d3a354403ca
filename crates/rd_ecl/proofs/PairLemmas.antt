-- The pairs of a kind's methods, and what one more method or one more pair leaves of them.
use Rattle.std.proofs.Common.{◌≡◌, ◌≢◌, ℕ, ◌+◌, ◌*◌, ◌/◌, ◌%◌, ◌<◌, ◌≤◌, zero, suc, Bool, true, false, ◌==◌, if◌then◌else◌, List, [], ◌∷◌, ◌++◌, length, Option, Some, None, refl, ap, sym, subst, ◌⊎◌, inl, inr, ⊎_elim, ◌∙◌, arith, length-append, replicate, set, get_or, is_some}
use Rattle.std.specs.Prelude.{flat_map, nat_le, map, option_map}
use Rattle.std.proofs.lemmas.Bool.{leb-true, ne_eqb, le-leb, cases_eq, cases_lt}
use Rattle.std.proofs.lemmas.List.{length-set, length-replicate, length-map, get_or-set_same, get_or-set_other, ext_get_or}
use Rattle.rd_base.specs.Names.{IsName}
use Rattle.rd_ecl.specs.declared.formulas.Predicate.{Predicate}
use Rattle.rd_ecl.specs.declared.formulas.Formula.{Formula}
use Rattle.rd_ecl.specs.declared.formulas.Side.{Side}
use Rattle.rd_ecl.specs.declared.formulas.Side.TheVariants.{First, Second}
use Rattle.rd_ecl.specs.declared.kinds.Method.{Method}
use Rattle.rd_ecl.specs.Formulas.{Tree, tree_of, truth, atom, cross, mixed, negation, both, either, of_side, predicates_of, distinct}
use Rattle.rd_ecl.specs.Specified.{SpecifiedKind, ArePairs, IsDraft, IsPair, MayAdd, MayPair, all_pairs, formula_at, method_predicates, predicates_at, slots_at, with_method, with_pair}
use Rattle.rd_ecl.proofs.MethodLemmas.{no_methods, one_method_more}
use Rattle.rd_base.specs.declared.limits.TheConstants.{MOST_METHODS, MOST_PREDICATES}

-- the same parts give the same whole
same_parts : (t u : ℕ × ℕ → List Predicate) (ps : List (ℕ × ℕ)) → ((p : ℕ × ℕ) → t p ≡ u p) → flat_map t ps ≡ flat_map u ps
same_parts t u [] same = refl
same_parts t u (p ∷ ps) same = rw (same p) (rw (same_parts t u ps same) refl)

no_parts : (t : ℕ × ℕ → List Predicate) (ps : List (ℕ × ℕ)) → ((p : ℕ × ℕ) → t p ≡ []) → flat_map t ps ≡ []
no_parts t [] none = refl
no_parts t (p ∷ ps) none = rw (none p) (no_parts t ps none)

-- pairs that aren't set
none_in : (n p : ℕ) → get_or (replicate {A = Option Tree} n None) p None ≡ None
none_in zero p = refl
none_in (suc n) zero = refl
none_in (suc n) (suc p) = none_in n p

none_behind : (xs : List (Option Tree)) (n p : ℕ) → get_or (xs ++ replicate n None) p None ≡ get_or xs p None
none_behind [] n p = none_in n p
none_behind (x ∷ xs) n zero = refl
none_behind (x ∷ xs) n (suc p) = none_behind xs n p

-- a pair that is set stands in the list
some_within : (xs : List (Option Tree)) (p : ℕ) (f : Tree) → get_or xs p None ≡ Some f → p < length xs
some_within [] p f e = absurd (cc)
some_within (x ∷ xs) zero f e = omega arith
some_within (x ∷ xs) (suc p) f e = omega (arith, some_within xs p f e)

-- one more method leaves the formulas as they are
at_more : (kind : SpecifiedKind) (method : Method) (i j : ℕ) → formula_at (with_method kind method) i j ≡ formula_at kind i j
at_more kind method i j = rw (none_behind kind.pairs MOST_METHODS (MOST_METHODS * j + i)) refl

parts_more : (kind : SpecifiedKind) (method : Method) (m : ℕ) (p : ℕ × ℕ) → predicates_at (with_method kind method) m p ≡ predicates_at kind m p
parts_more kind method m p = rw (at_more kind method p.0 p.1) refl

-- a pair whose formula is set is one of two methods
known_by : (b : Bool) (xs : List (Option Tree)) (p : ℕ) (f : Tree) → (if b then get_or xs p None else None) ≡ Some f → (b ≡ true) × (get_or xs p None ≡ Some f)
known_by true xs p f e = (refl, e)
known_by false xs p f e = absurd (cc)

pub known : (kind : SpecifiedKind) → ArePairs kind → (i j : ℕ) (f : Tree) → formula_at kind i j ≡ Some f → (i ≤ j) × (j < length kind.methods)
known kind pairs i j f e =
    let h = known_by (nat_le i j) kind.pairs (MOST_METHODS * j + i) f e in
    let within = some_within kind.pairs (MOST_METHODS * j + i) f h.1 in
    let rows = pairs.rows in
    (leb-true i j h.0, omega (arith, within, rows))

slots_more : (methods : List Method) (method : Method) (i : ℕ) → i < length methods → slots_at (methods ++ method ∷ []) i ≡ slots_at methods i
slots_more [] method i h = absurd (omega arith)
slots_more (m ∷ methods) method zero h = refl
slots_more (m ∷ methods) method (suc i) h = slots_more methods method i (omega arith)

-- what a pair's formula says of a method that isn't in the pair: nothing
side_apart : (side : Side) (m i j : ℕ) → i ≢ m → j ≢ m → (of_side side i j == m) ≡ false
side_apart First m i j h k = ne_eqb i m h
side_apart Second m i j h k = ne_eqb j m k

pub not_asked : (f : Tree) (m i j : ℕ) → i ≢ m → j ≢ m → predicates_of m i j f ≡ []
not_asked (truth value) m i j h k = refl
not_asked (atom side rel left right) m i j h k = rw (side_apart side m i j h k) refl
not_asked (cross first second) m i j h k = refl
not_asked (mixed rel flipped first second) m i j h k = refl
not_asked (negation f) m i j h k = not_asked f m i j h k
not_asked (both f g) m i j h k = rw (not_asked f m i j h k) (not_asked g m i j h k)
not_asked (either f g) m i j h k = rw (not_asked f m i j h k) (not_asked g m i j h k)

-- one more pair: its formula is set, and the others are as they were
unguarded : (b : Bool) (xs : List (Option Tree)) (p : ℕ) → b ≡ true → (if b then get_or xs p None else None) ≡ get_or xs p None
unguarded true xs p e = refl
unguarded false xs p e = absurd (cc)

same_place : (i j first second : ℕ) → i ≤ j → first ≤ second → second < MOST_METHODS → MOST_METHODS * j + i ≡ MOST_METHODS * second + first → (i ≡ first) × (j ≡ second)
same_place i j first second h k few e = (omega arith, omega arith)

pub at_set : (kind : SpecifiedKind) (first second : ℕ) (f : Tree) → first ≤ second → MOST_METHODS * second + first < length kind.pairs
    → formula_at (with_pair kind first second f) first second ≡ Some f
at_set kind first second f h within =
    unguarded (nat_le first second) (set kind.pairs (MOST_METHODS * second + first) (Some f)) (MOST_METHODS * second + first) (le-leb first second h)
    ∙ get_or-set_same kind.pairs (MOST_METHODS * second + first) (Some f) None within

pub at_other : (kind : SpecifiedKind) (first second i j : ℕ) (f : Tree) → MOST_METHODS * j + i ≢ MOST_METHODS * second + first
    → formula_at (with_pair kind first second f) i j ≡ formula_at kind i j
at_other kind first second i j f h = rw (get_or-set_other kind.pairs (MOST_METHODS * second + first) (MOST_METHODS * j + i) (Some f) None h) refl

-- what the other methods' predicates are stays as it was
pub none_of : (kind : SpecifiedKind) (m i j : ℕ) → formula_at kind i j ≡ None → predicates_at kind m (i, j) ≡ []
none_of kind m i j e = rw e refl

pub some_of : (kind : SpecifiedKind) (m i j : ℕ) (f : Tree) → formula_at kind i j ≡ Some f → predicates_at kind m (i, j) ≡ predicates_of m i j f
some_of kind m i j f e = rw e refl

guarded : (b : Bool) (xs : List (Option Tree)) (p : ℕ) → b ≡ false → (if b then get_or xs p None else None) ≡ None
guarded true xs p e = absurd (cc)
guarded false xs p e = refl

parts_set : (kind : SpecifiedKind) (m first second : ℕ) (f : Tree) → first ≤ second → MOST_METHODS * second + first < length kind.pairs
    → formula_at kind first second ≡ None → first ≢ m → second ≢ m
    → predicates_at (with_pair kind first second f) m (first, second) ≡ predicates_at kind m (first, second)
parts_set kind m first second f ordered within unset h k =
    some_of (with_pair kind first second f) m first second f (at_set kind first second f ordered within)
    ∙ (not_asked f m first second h k ∙ sym (none_of kind m first second unset))

parts_at : (kind : SpecifiedKind) (m first second i j : ℕ) (f : Tree) → (b : Bool) → nat_le i j ≡ b → MOST_METHODS * j + i ≡ MOST_METHODS * second + first → second < MOST_METHODS
    → first ≤ second → MOST_METHODS * second + first < length kind.pairs → formula_at kind first second ≡ None → first ≢ m → second ≢ m
    → predicates_at (with_pair kind first second f) m (i, j) ≡ predicates_at kind m (i, j)
parts_at kind m first second i j f true e same few ordered within unset h k =
    let at = same_place i j first second (leb-true i j e) ordered few same in
    rw (at.0, at.1) (parts_set kind m first second f ordered within unset h k)
parts_at kind m first second i j f false e same few ordered within unset h k =
    none_of (with_pair kind first second f) m i j (guarded (nat_le i j) (set kind.pairs (MOST_METHODS * second + first) (Some f)) (MOST_METHODS * j + i) e)
    ∙ sym (none_of kind m i j (guarded (nat_le i j) kind.pairs (MOST_METHODS * j + i) e))

parts_apart : (kind : SpecifiedKind) (m first second : ℕ) (f : Tree) (p : ℕ × ℕ) → second < MOST_METHODS → first ≤ second → MOST_METHODS * second + first < length kind.pairs
    → formula_at kind first second ≡ None → first ≢ m → second ≢ m → predicates_at (with_pair kind first second f) m p ≡ predicates_at kind m p
parts_apart kind m first second f (i, j) few ordered within unset h k =
    ⊎_elim (λ same. parts_at kind m first second i j f (nat_le i j) refl same few ordered within unset h k)
    (λ other. rw (at_other kind first second i j f other) refl) (cases_eq (MOST_METHODS * j + i) (MOST_METHODS * second + first))

few_apart : (kind : SpecifiedKind) (m first second : ℕ) (f : Tree) → second < MOST_METHODS → first ≤ second → MOST_METHODS * second + first < length kind.pairs
    → formula_at kind first second ≡ None → first ≢ m → second ≢ m → method_predicates (with_pair kind first second f) m ≡ method_predicates kind m
few_apart kind m first second f few ordered within unset h k =
    ap distinct (same_parts (predicates_at (with_pair kind first second f) m) (predicates_at kind m) all_pairs
    (λ p. parts_apart kind m first second f p few ordered within unset h k))

bare : (b : Bool) (p : ℕ) → (if b then get_or {A = Option Tree} [] p None else None) ≡ None
bare true p = refl
bare false p = refl

-- a draft without a method
pub no_draft : (name : List ℕ) → IsName name → IsDraft (record { name = name; methods = []; pairs = [] })
no_draft name is =
    let kind : SpecifiedKind = record { name = name; methods = []; pairs = [] } in
    record {
      name = is;
      methods = no_methods;
      pairs = record {
        rows = refl;
        rest = λ i j above few. refl;
        each = λ i j f e. absurd (omega (arith, some_within [] (MOST_METHODS * j + i) f (known_by (nat_le i j) [] (MOST_METHODS * j + i) f e).1));
        few = λ m. let e = no_parts (predicates_at kind m) all_pairs (λ p. none_of kind m p.0 p.1 (bare (nat_le p.0 p.1) (MOST_METHODS * p.1 + p.0))) in
            rw e (omega arith);
      };
    }

-- a draft with one method more
pub draft_more : (kind : SpecifiedKind) (method : Method) → IsDraft kind → IsName method.name → MayAdd kind method.name method.variables → IsDraft (with_method kind method)
draft_more kind method is name may =
    let pairs = is.pairs in
    let rows = pairs.rows in
    record {
      name = is.name;
      methods = one_method_more kind method is.methods name may;
      pairs = record {
        rest = λ i j above low. none_behind kind.pairs MOST_METHODS (MOST_METHODS * j + i) ∙ pairs.rest i j above low;
        rows = omega (arith, rows, length-append kind.pairs (replicate MOST_METHODS None), length-append kind.methods (method ∷ []), length-replicate {A = Option Tree} MOST_METHODS None);
        each = λ i j f e.
            let was : formula_at kind i j ≡ Some f = sym (at_more kind method i j) ∙ e in
            let at = known kind pairs i j f was in
            rw (slots_more kind.methods method i (omega (arith, at.0, at.1)), slots_more kind.methods method j at.1) (pairs.each i j f was);
        few = λ m. rw (same_parts (predicates_at (with_method kind method) m) (predicates_at kind m) all_pairs (parts_more kind method m)) (pairs.few m);
      };
    }

few_more : (kind : SpecifiedKind) (first second : ℕ) (f : Tree) → IsDraft kind → MayPair kind first second f → MOST_METHODS * second + first < length kind.pairs → second < MOST_METHODS
    → (m : ℕ) → (first ≡ m) ⊎ (first ≢ m) → (second ≡ m) ⊎ (second ≢ m) → length (method_predicates (with_pair kind first second f) m) ≤ MOST_PREDICATES
few_more kind first second f is may within few m (inl e) k = subst (λ (n : ℕ). length (method_predicates (with_pair kind first second f) n) ≤ MOST_PREDICATES) e may.few_first
few_more kind first second f is may within few m (inr h) (inl e) = subst (λ (n : ℕ). length (method_predicates (with_pair kind first second f) n) ≤ MOST_PREDICATES) e may.few_second
few_more kind first second f is may within few m (inr h) (inr k) =
    rw (few_apart kind m first second f few may.ordered within may.unset h k) (is.pairs.few m)

each_more : (kind : SpecifiedKind) (first second : ℕ) (f : Tree) → IsDraft kind → MayPair kind first second f → MOST_METHODS * second + first < length kind.pairs → second < MOST_METHODS
    → (i j : ℕ) (g : Tree) → formula_at (with_pair kind first second f) i j ≡ Some g → (MOST_METHODS * j + i ≡ MOST_METHODS * second + first) ⊎ (MOST_METHODS * j + i ≢ MOST_METHODS * second + first)
    → IsPair g (slots_at kind.methods i) (slots_at kind.methods j)
each_more kind first second f is may within few i j g e (inl same) =
    let h = known_by (nat_le i j) (set kind.pairs (MOST_METHODS * second + first) (Some f)) (MOST_METHODS * j + i) g e in
    let at = same_place i j first second (leb-true i j h.0) may.ordered few same in
    let set_is = at_set kind first second f may.ordered within in
    let here : formula_at (with_pair kind first second f) first second ≡ Some g =
    subst (λ (a : ℕ). formula_at (with_pair kind first second f) a second ≡ Some g) at.0
    (subst (λ (b : ℕ). formula_at (with_pair kind first second f) i b ≡ Some g) at.1 e) in
    let is_f : f ≡ g = cc in
    rw (at.0, at.1, ← is_f) may.pair
each_more kind first second f is may within few i j g e (inr other) =
    is.pairs.each i j g (sym (at_other kind first second i j f other) ∙ e)

-- no pair has the place of two methods the other way round
turned_place : (first second i j : ℕ) → first ≤ second → j < i → i < MOST_METHODS → MOST_METHODS * j + i ≢ MOST_METHODS * second + first
turned_place first second i j ordered above low e = omega (arith, e, ordered, above, low)

-- a draft with the formula of one pair more
pub draft_set : (kind : SpecifiedKind) (first second : ℕ) (f : Tree) → IsDraft kind → MayPair kind first second f → IsDraft (with_pair kind first second f)
draft_set kind first second f is may =
    let pairs = is.pairs in
    let rows = pairs.rows in
    let methods = is.methods in
    let count = methods.few in
    let ordered = may.ordered in
    let at = may.known in
    let few : second < MOST_METHODS = omega (arith, count, at) in
    let within : MOST_METHODS * second + first < length kind.pairs = omega (arith, rows, ordered, at, few) in
    record {
      name = is.name;
      methods = is.methods;
      pairs = record {
        rest = λ i j above low.
            get_or-set_other kind.pairs (MOST_METHODS * second + first) (MOST_METHODS * j + i) (Some f) None (turned_place first second i j ordered above low)
            ∙ pairs.rest i j above low;
        rows = length-set kind.pairs (MOST_METHODS * second + first) (Some f) ∙ rows;
        each = λ i j g e. each_more kind first second f is may within few i j g e (cases_eq (MOST_METHODS * j + i) (MOST_METHODS * second + first));
        few = λ m. few_more kind first second f is may within few m (cases_eq first m) (cases_eq second m);
      };
    }

-- two kinds of one name, with the same methods and formulas, are equal
equal_parts : (name name' : List ℕ) (methods methods' : List Method) (pairs pairs' : List (Option Tree)) → name ≡ name' → methods ≡ methods' → pairs ≡ pairs'
    → ◌≡◌ {A = SpecifiedKind} (record { name = name; methods = methods; pairs = pairs }) (record { name = name'; methods = methods'; pairs = pairs' })
equal_parts name name' methods methods' pairs pairs' e f g = rw (e, f, g) refl

-- no formula stands where the first method is behind the second
abbrev pub NoneTurned : List (Option Tree) → Type 0
NoneTurned pairs = (first second : ℕ) → second < first → first < MOST_METHODS → get_or pairs (MOST_METHODS * second + first) None ≡ None

place_equal : (kind other : SpecifiedKind) → length kind.pairs ≡ MOST_METHODS * length kind.methods → NoneTurned kind.pairs → NoneTurned other.pairs
    → ((first second : ℕ) → first ≤ second → second < length kind.methods → formula_at kind first second ≡ formula_at other first second)
    → (p : ℕ) → p < length kind.pairs → get_or kind.pairs p None ≡ get_or other.pairs p None
place_equal kind other rows rest others formulas p within =
    let j = p / MOST_METHODS in
    let i = p % MOST_METHODS in
    let low : i < MOST_METHODS = omega arith in
    let place : MOST_METHODS * j + i ≡ p = omega arith in
    subst (λ (q : ℕ). get_or kind.pairs q None ≡ get_or other.pairs q None) place
    (⊎_elim (λ above. rest i j above low ∙ sym (others i j above low))
    (λ ordered. sym (unguarded (nat_le i j) kind.pairs (MOST_METHODS * j + i) (le-leb i j ordered))
    ∙ (formulas i j ordered (omega (arith, rows, within, place)) ∙ unguarded (nat_le i j) other.pairs (MOST_METHODS * j + i) (le-leb i j ordered)))
    (cases_lt j i))

pub equal_kinds : (kind other : SpecifiedKind) → length kind.pairs ≡ MOST_METHODS * length kind.methods → length other.pairs ≡ MOST_METHODS * length kind.methods
    → NoneTurned kind.pairs → NoneTurned other.pairs → kind.name ≡ other.name → kind.methods ≡ other.methods
    → ((first second : ℕ) → first ≤ second → second < length kind.methods → formula_at kind first second ≡ formula_at other first second)
    → kind ≡ other
equal_kinds kind other rows other_rows rest others name methods formulas =
    equal_parts kind.name other.name kind.methods other.methods kind.pairs other.pairs name methods
    (ext_get_or None kind.pairs other.pairs (rows ∙ sym other_rows) (place_equal kind other rows rest others formulas))

pub equal_drafts : (kind other : SpecifiedKind) → IsDraft kind → IsDraft other → kind.name ≡ other.name → kind.methods ≡ other.methods
    → ((first second : ℕ) → first ≤ second → second < length kind.methods → formula_at kind first second ≡ formula_at other first second)
    → kind ≡ other
equal_drafts kind other is also name methods formulas =
    equal_kinds kind other is.pairs.rows (also.pairs.rows ∙ ap (λ (ms : List Method). MOST_METHODS * length ms) (sym methods)) is.pairs.rest also.pairs.rest name methods formulas

-- what is kept of a pair
abbrev shown : Option Formula → Option Tree
shown o = option_map tree_of o

shown_some : (x : Option Formula) → is_some (shown x) ≡ true → is_some x ≡ true
shown_some (Some f) e = refl
shown_some None e = absurd (cc)

kept_list : (items : List (Option Formula)) (p : ℕ) (x : Option Formula) → x ≡ get_or items p x → is_some (get_or (map shown items) p None) ≡ true → is_some x ≡ true
kept_list [] p x e h = absurd (cc)
kept_list (y ∷ items) zero x e h = rw e (shown_some y h)
kept_list (y ∷ items) (suc p) x e h = kept_list items p x e h

pub kept_some : (b : Bool) (items : List (Option Formula)) (p : ℕ) (x : Option Formula) → x ≡ get_or items p x
    → is_some (if b then get_or (map shown items) p None else None) ≡ true → is_some x ≡ true
kept_some true items p x e h = kept_list items p x e h
kept_some false items p x e h = absurd (cc)

kept_in : (items : List (Option Formula)) (p : ℕ) (x : Option Formula) (f : Formula) → p < length items → x ≡ get_or items p x → x ≡ Some f
    → get_or (map shown items) p None ≡ Some (tree_of f)
kept_in [] p x f h e s = absurd (omega arith)
kept_in (y ∷ items) zero x f h e s = ap shown (sym e ∙ s)
kept_in (y ∷ items) (suc p) x f h e s = kept_in items p x f (omega arith) e s

pub kept_at : (name : List ℕ) (methods : List Method) (items : List (Option Formula)) (first second : ℕ) (x : Option Formula) (f : Formula)
    → length (map shown items) ≡ MOST_METHODS * length methods → first ≤ second → second < length methods → length methods ≤ MOST_METHODS → x ≡ get_or items (MOST_METHODS * second + first) x → x ≡ Some f
    → formula_at (record { name = name; methods = methods; pairs = map shown items }) first second ≡ Some (tree_of f)
kept_at name methods items first second x f rows ordered known few e s =
    unguarded (nat_le first second) (map shown items) (MOST_METHODS * second + first) (le-leb first second ordered)
    ∙ kept_in items (MOST_METHODS * second + first) x f (omega (arith, length-map items shown, rows, ordered, known, few)) e s
