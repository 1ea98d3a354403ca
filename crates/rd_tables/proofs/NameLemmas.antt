-- Names and their places.
use Rattle.std.proofs.Common.{◌≡◌, ℕ, ◌+◌, ◌<◌, ◌≤◌, Bool, true, false, not, cond, ◌==◌, ◌||◌, List, [], ◌∷◌, ◌++◌, take, drop, length, get_or, refl, sym, ap, subst, ◌∙◌, arith, true≢false}
use Rattle.std.specs.List.{IsDistinct}
use Rattle.std.specs.Cmp.Lexicographic.{bytes_decides, nat_list_eq_equiv}
use Rattle.std.proofs.lemmas.Bool.{not-false, false_from_ne_true}
use Rattle.std.proofs.lemmas.Bool.Decides.{Decides-eqb, nat_tests}
use Rattle.std.proofs.lemmas.List.{take-append-drop, length-take}
use Rattle.std.proofs.lemmas.List.Folds.{prefix_len-append}
use Rattle.std.proofs.lemmas.List.Sums.{prefix_len-le-length, prefix_len_stops, position_or_len_is}
use Rattle.std.proofs.lemmas.Map.Keys.{apart_from_distinct}
use Rattle.rd_rules.specs.MayFollow.{same_name, is_among, place}

-- two tests of the same
pub same_test : (a b : Bool) → (a ≡ true → b ≡ true) → (b ≡ true → a ≡ true) → a ≡ b
same_test true b there back = sym (there refl)
same_test false true there back = back refl
same_test false false there back = refl

-- ---- places of names

module _ (names : List (List ℕ)) (name : List ℕ) where
  pub place_most : place names name ≤ length names
  place_most = prefix_len-le-length (λ n. not (same_name name n)) names

  module _ (more : List (List ℕ)) where
    -- behind more names a name keeps its place, or stands behind these
    pub place_stays : place names name < length names → place (names ++ more) name ≡ place names name
    place_stays below =
        prefix_len-append (λ n. not (same_name name n)) names more
        ∙ ap (λ b. cond b (length names + place more name) (place names name)) (let differ : (place names name == length names) ≡ false = grind (arith, nat_tests) in differ)

    pub place_past : length names ≤ place names name → length names ≤ place (names ++ more) name
    place_past past =
        let end : (place names name == length names) ≡ true = (Decides-eqb _ _).1 (omega (arith, place_most)) in
        let is : place (names ++ more) name ≡ length names + place more name =
        prefix_len-append (λ n. not (same_name name n)) names more ∙ ap (λ b. cond b (length names + place more name) (place names name)) end in
        omega arith

  -- at a name's place it stands
  pub at_place : (other : List ℕ) → place names name < length names → get_or names (place names name) other ≡ name
  at_place other below = sym ((bytes_decides name _).0 (not-false _ (prefix_len_stops (λ n. not (same_name name n)) names other below)))

pub place_known : (names : List (List ℕ)) (name : List ℕ) → is_among names name ≡ true → place names name < length names
place_known [] name there = absurd (true≢false (sym there))
place_known (x ∷ xs) name there = by (same_name name x) refl (place_known xs name)
  where
    Below : Bool → Type 0
    Below b = cond (not b) (1 + place xs name) 0 < length (x ∷ xs)

    by : (b : Bool) → same_name name x ≡ b → (is_among xs name ≡ true → place xs name < length xs) → Below (same_name name x)
    by true same rest = subst Below (sym same) (let some : 0 < length (x ∷ xs) = omega arith in some)
    by false other rest =
        let below = rest (sym (ap (λ b. b || is_among xs name) other) ∙ there) in
        subst Below (sym other) (let next : 1 + place xs name < length (x ∷ xs) = omega arith in next)

pub place_unknown : (names : List (List ℕ)) (name : List ℕ) → is_among names name ≡ false → place names name ≡ length names
place_unknown [] name lacks = refl
place_unknown (x ∷ xs) name lacks = by (same_name name x) refl (place_unknown xs name)
  where
    by : (b : Bool) → same_name name x ≡ b → (is_among xs name ≡ false → place xs name ≡ length xs) → place (x ∷ xs) name ≡ length (x ∷ xs)
    by true same rest = absurd (true≢false (sym (ap (λ b. b || is_among xs name) same) ∙ lacks))
    by false other rest =
        let next : 1 + place xs name ≡ length (x ∷ xs) = let at = rest (sym (ap (λ b. b || is_among xs name) other) ∙ lacks) in omega arith in
        ap (λ b. cond (not b) (1 + place xs name) 0) other ∙ next

pub place_below : (names : List (List ℕ)) (name : List ℕ) → place names name < length names → is_among names name ≡ true
place_below names name below = by (is_among names name) refl
  where
    by : (b : Bool) → is_among names name ≡ b → is_among names name ≡ true
    by true e = e
    by false e = absurd (omega (arith, place_unknown names name e))

-- names are the same exactly if their places are, where one of them is known
pub same_place : (names : List (List ℕ)) (name known : List ℕ) → place names known < length names → same_name name known ≡ (place names name == place names known)
same_place names name known below =
    same_test _ _
    (λ same. (Decides-eqb _ _).1 (ap (place names) ((bytes_decides name known).0 same)))
    (λ same.
    let e : place names name ≡ place names known = (Decides-eqb _ _).0 same in
    let below_too : place names name < length names = omega arith in
    (bytes_decides name known).1 (sym (at_place names name [] below_too) ∙ ap (λ n. get_or names n []) e ∙ at_place names known [] below))

-- of distinct names, each stands at its own place
pub place_at : (names : List (List ℕ)) → IsDistinct same_name names → (i : ℕ) → i < length names → place names (get_or names i []) ≡ i
place_at names distinct i below =
    let name : List ℕ = get_or names i [] in
    position_or_len_is (same_name name) names i []
    (omega arith)
    (λ k before. nat_list_eq_equiv.symm name (get_or names k []) ∙ apart_from_distinct same_name names k i [] distinct before below)
    (λ below. nat_list_eq_equiv.refl name)

-- of distinct names, none in front of a place has the name at it
pub not_before : (names : List (List ℕ)) → IsDistinct same_name names → (i : ℕ) → i < length names → is_among (take i names) (get_or names i []) ≡ false
not_before names distinct i below = false_from_ne_true _ (λ there.
    let name : List ℕ = get_or names i [] in
    let known : place (take i names) name < length (take i names) = place_known (take i names) name there in
    let whole : place names name ≡ place (take i names) name =
    ap (λ names. place names name) (sym (take-append-drop i names)) ∙ place_stays (take i names) name (drop i names) known in
    absurd (omega (arith, place_at names distinct i below, length-take i names)))
