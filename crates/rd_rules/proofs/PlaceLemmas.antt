-- The places of names in lists.
use Rattle.std.proofs.Common.{◌≡◌, ◌≢◌, ◌⊎◌, inl, inr, ℕ, zero, suc, ◌+◌, ◌<◌, ◌==◌, Bool, true, false, not, cond, ◌||◌, List, [], ◌∷◌, ◌++◌, length, Some, Contains, slice_get, refl, sym, ap, subst, ◌∙◌, arith, true≢false}
use Rattle.std.specs.Cmp.Lexicographic.{bytes_decides}
use Rattle.std.proofs.lemmas.Bool.{cases_Bool, cases_eq, eq-eqb, ne_eqb, false_from_ne_true}
use Rattle.std.proofs.lemmas.List.Elements.{Contains-push}
use Rattle.std.proofs.lemmas.List.Folds.{position_or_len_push}
use Rattle.std.proofs.lemmas.Option.{none-some, same_Some, slice_get_within}
use Rattle.rd_rules.proofs.FollowLemmas.{among_decides}
use Rattle.rd_rules.specs.MayFollow.{is_among, place, same_name, with_lock}

-- ---- a name at its place

-- a name among others is at its place
at_place : (names : List (List ℕ)) (name : List ℕ) → is_among names name ≡ true → slice_get names (place names name) ≡ Some name
at_place [] name h = absurd (true≢false (sym h))
at_place (x ∷ xs) name h = by (same_name name x) refl (at_place xs name)
  where
    Named : ℕ → Type 0
    Named n = slice_get (x ∷ xs) n ≡ Some name

    by : (b : Bool) → same_name name x ≡ b → (is_among xs name ≡ true → slice_get xs (place xs name) ≡ Some name) → Named (cond (not (same_name name x)) (1 + place xs name) 0)
    by true same rest = subst (λ b. Named (cond (not b) (1 + place xs name) 0)) (sym same) (ap Some (sym ((bytes_decides name x).0 same)))
    by false other rest =
        let later : is_among xs name ≡ true = sym (ap (λ b. b || is_among xs name) other) ∙ h in
        let next : 1 + place xs name ≡ suc (place xs name) = omega arith in
        subst (λ b. Named (cond (not b) (1 + place xs name) 0)) (sym other) (subst Named (sym next) (rest later))

-- one that isn't among them has the place behind them
past_place : (names : List (List ℕ)) (name : List ℕ) → is_among names name ≡ false → place names name ≡ length names
past_place [] name h = refl
past_place (x ∷ xs) name h = by (same_name name x) refl (past_place xs name)
  where
    by : (b : Bool) → same_name name x ≡ b → (is_among xs name ≡ false → place xs name ≡ length xs) → cond (not (same_name name x)) (1 + place xs name) 0 ≡ length (x ∷ xs)
    by true same rest = absurd (true≢false (sym (ap (λ b. b || is_among xs name) same) ∙ h))
    by false other rest =
        let later : place xs name ≡ length xs = rest (sym (ap (λ b. b || is_among xs name) other) ∙ h) in
        subst (λ b. cond (not b) (1 + place xs name) 0 ≡ length (x ∷ xs)) (sym other) (omega arith)

pub not_known : (names : List (List ℕ)) (name : List ℕ) → is_among names name ≡ false → ¬ (Contains names name)
not_known names name fresh there = true≢false (sym ((among_decides names name).1 there) ∙ fresh)

module _ (names : List (List ℕ)) (name : List ℕ) where
  pub place_named : Contains names name → slice_get names (place names name) ≡ Some name
  place_named there = at_place names name ((among_decides names name).1 there)

  pub place_below : Contains names name → place names name < length names
  place_below there = slice_get_within names (place names name) name (place_named there)

  pub place_new : ¬ (Contains names name) → place names name ≡ length names
  place_new fresh = past_place names name (false_from_ne_true _ (λ there. fresh ((among_decides names name).0 there)))

  -- a name more leaves the places
  pub place_kept : (more : List ℕ) → Contains names name → place (names ++ more ∷ []) name ≡ place names name
  place_kept more there =
      let other : place names name ≢ length names = (let below : place names name < length names = place_below there in omega arith) in
      position_or_len_push (same_name name) names more
      ∙ ap (λ b. cond b (length names + cond (same_name name more) 0 1) (place names name)) (ne_eqb (place names name) (length names) other)

  -- and a new one goes last
  pub place_last : ¬ (Contains names name) → place (names ++ name ∷ []) name ≡ length names
  place_last fresh =
      let same : same_name name name ≡ true = (bytes_decides name name).1 refl in
      position_or_len_push (same_name name) names name
      ∙ ap (λ b. cond b (length names + cond (same_name name name) 0 1) (place names name)) (eq-eqb (place names name) (length names) (place_new fresh))
      ∙ ap (λ b. length names + cond b 0 1) same ∙ omega arith

pub got_left : {X : Type 0} (xs ys : List X) (t : ℕ) (x : X) → slice_get xs t ≡ Some x → slice_get (xs ++ ys) t ≡ Some x
got_left [] ys t x at = absurd (none-some x at)
got_left (z ∷ zs) ys zero x at = at
got_left (z ∷ zs) ys (suc t) x at = got_left zs ys t x at

pub got_push : (xs : List (List ℕ)) (y : List ℕ) (t : ℕ) (x : List ℕ) → slice_get (xs ++ y ∷ []) t ≡ Some x → (slice_get xs t ≡ Some x) ⊎ ((t ≡ length xs) × (x ≡ y))
got_push [] y zero x at = inr (refl, sym (same_Some y x at))
got_push [] y (suc t) x at = absurd (none-some x at)
got_push (z ∷ zs) y zero x at = inl at
got_push (z ∷ zs) y (suc t) x at =
    elim (got_push zs y t x at) [
      | inl before ↦ inl before
      | inr last ↦ (let same : t ≡ length zs = last.0 in inr (omega arith, last.1))
    ]

-- a name at a place is among the names
pub got_contained : (names : List (List ℕ)) (t : ℕ) (name : List ℕ) → slice_get names t ≡ Some name → is_among names name ≡ true
got_contained [] t name at = absurd (none-some name at)
got_contained (x ∷ xs) zero name at = ap (λ b. b || is_among xs name) ((bytes_decides name x).1 (sym (same_Some x name at)))
got_contained (x ∷ xs) (suc t) name at = or_right (same_name name x) (is_among xs name) (got_contained xs t name at)
  where
    or_right : (a b : Bool) → b ≡ true → (a || b) ≡ true
    or_right true b h = refl
    or_right false b h = h

-- ---- each name has one place

abbrev pub OnePlace : List (List ℕ) → Type 0
OnePlace names = (t : ℕ) (name : List ℕ) → slice_get names t ≡ Some name → place names name ≡ t

pub one_place_more : (names : List (List ℕ)) (name : List ℕ) → OnePlace names → ¬ (Contains names name) → OnePlace (names ++ name ∷ [])
one_place_more names name places fresh t other at =
    elim (got_push names name t other at) [
      | inl before ↦ place_kept names other name ((among_decides names other).0 (got_contained names t other before)) ∙ places t other before
      | inr last ↦ subst (λ n. place (names ++ name ∷ []) n ≡ t) (sym last.1) (place_last names name fresh ∙ sym last.0)
    ]

-- a name's number is the place of another name exactly where they are the same
pub place_test : (names : List (List ℕ)) (name other : List ℕ) (t : ℕ) → OnePlace names → Contains names name → slice_get names t ≡ Some other
    → (place names name == t) ≡ same_name other name
place_test names name other t places there at = elim (cases_eq (place names name) t) [
  | inl same ↦
      let is : other ≡ name = same_Some other name (sym at ∙ ap (slice_get names) (sym same) ∙ place_named names name there) in
      eq-eqb (place names name) t same ∙ sym ((bytes_decides other name).1 is)
  | inr apart ↦
      ne_eqb (place names name) t apart
      ∙ sym (false_from_ne_true _ (λ same. apart (ap (place names) (sym ((bytes_decides other name).0 same)) ∙ places t other at)))
]

-- ---- a lock more, where it isn't among them

module _ (locks : List (List ℕ)) (lock : List ℕ) where
  pub with_lock_known : is_among locks lock ≡ true → with_lock locks (Some lock) ≡ locks
  with_lock_known known = ap (λ b. cond b locks (locks ++ lock ∷ [])) known

  pub with_lock_new : is_among locks lock ≡ false → with_lock locks (Some lock) ≡ locks ++ lock ∷ []
  with_lock_new fresh = ap (λ b. cond b locks (locks ++ lock ∷ [])) fresh

  -- it is among them then, at the place that it has before
  pub with_lock_has : Contains (with_lock locks (Some lock)) lock
  with_lock_has = elim (cases_Bool (is_among locks lock)) [
    | inl known ↦ subst (λ names. Contains names lock) (sym (with_lock_known known)) ((among_decides locks lock).0 known)
    | inr fresh ↦ subst (λ names. Contains names lock) (sym (with_lock_new fresh)) (Contains-push locks lock)
  ]

  pub with_lock_place : place (with_lock locks (Some lock)) lock ≡ place locks lock
  with_lock_place = elim (cases_Bool (is_among locks lock)) [
    | inl known ↦ ap (λ names. place names lock) (with_lock_known known)
    | inr fresh ↦
        ap (λ names. place names lock) (with_lock_new fresh) ∙ place_last locks lock (not_known locks lock fresh) ∙ sym (place_new locks lock (not_known locks lock fresh))
  ]
