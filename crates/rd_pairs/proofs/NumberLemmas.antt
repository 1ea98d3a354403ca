-- The numbers of methods by their names.
use Rattle.std.proofs.Common.{◌≡◌, ◌≢◌, ℕ, zero, suc, ◌<◌, ◌≤◌, List, [], ◌∷◌, ◌++◌, length, take, drop, sym, ◌∙◌, ap, arith, Some, inl, inr}
use Rattle.std.specs.Prelude.{AllPairs, Contains, slice_get}
use Rattle.std.proofs.lemmas.Bool.{cases_lt}
use Rattle.std.proofs.lemmas.Option.{get_or_from_slice_get, slice_get_within, same_Some}
use Rattle.std.proofs.lemmas.List.{length-map}
use Rattle.rd_ecl.specs.declared.kinds.Method.{Method}
use Rattle.rd_ecl.specs.Specified.{SpecifiedKind, names_of}
use Rattle.rd_pairs.specs.PairCauses.{AreNumbers}
use Rattle.rd_lines.specs.Lines.{IsOutOfOrder}

abbrev pub AreDifferent : List (List ℕ) → Type 0
AreDifferent names = AllPairs (λ x y. x ≢ y) names

-- a name stands at one place
apart : (names : List (List ℕ)) (name : List ℕ) (i j : ℕ) → AreDifferent names → slice_get names i ≡ Some name → slice_get names j ≡ Some name → i < j → ⊥
apart names name i j different first second below =
    different i j name below (slice_get_within names j name second)
    (get_or_from_slice_get names i name name first ∙ sym (get_or_from_slice_get names j name name second))

pub one_place : (names : List (List ℕ)) (name : List ℕ) (i j : ℕ) → AreDifferent names → slice_get names i ≡ Some name → slice_get names j ≡ Some name → i ≡ j
one_place names name i j different first second = elim (cases_lt i j) [
  | inl below ↦ absurd (apart names name i j different first second below)
  | inr rest ↦ elim (cases_lt j i) [
    | inl above ↦ absurd (apart names name j i different second first above)
    | inr others ↦ omega arith
  ]
]

-- a name with a number is there
pub contained : (names : List (List ℕ)) (name : List ℕ) (i : ℕ) → slice_get names i ≡ Some name → Contains names name
contained names name i here = (i, slice_get_within names i name here, get_or_from_slice_get names i name name here)

-- the names behind a place
split_at : (names : List (List ℕ)) (name : List ℕ) (i : ℕ) → slice_get names i ≡ Some name → names ≡ take i names ++ name ∷ drop (suc i) names
split_at [] name i here = absurd (cc)
split_at (x ∷ names) name zero here = let same : x ≡ name = same_Some x name here in ap (λ (n : List ℕ). n ∷ names) same
split_at (x ∷ names) name (suc i) here = ap (λ (l : List (List ℕ)). x ∷ l) (split_at names name i here)

behind_has : (names : List (List ℕ)) (name : List ℕ) (i j : ℕ) → i < j → slice_get names j ≡ Some name → Contains (drop (suc i) names) name
behind_has [] name i j below here = absurd (cc)
behind_has (x ∷ names) name i zero below here = absurd (omega arith)
behind_has (x ∷ names) name zero (suc j) below here = contained names name j here
behind_has (x ∷ names) name (suc i) (suc j) below here = behind_has names name i j (omega arith) here

-- of two methods in their order, the first has the lower number
pub in_order : (names : List (List ℕ)) (first second : List ℕ) (m n : ℕ) → AreDifferent names → ¬ (IsOutOfOrder names first second)
    → slice_get names m ≡ Some first → slice_get names n ≡ Some second → m ≤ n
in_order names first second m n different order one other = elim (cases_lt n m) [
  | inl below ↦ absurd (order (
    take n names,
    drop (suc n) names,
    split_at names second n other,
    behind_has names first n m below one,
    (λ same. apart names first n m different (other ∙ ap (λ (x : List ℕ). Some x) (sym same)) one below),
  ))
  | inr rest ↦ omega arith
]

-- two names have one pair of numbers
pub one_pair : (kind : SpecifiedKind) (first second : List ℕ) (m n i j : ℕ) → AreDifferent (names_of kind.methods) → AreNumbers kind first second m n
    → AreNumbers kind first second i j → (i ≡ m) × (j ≡ n)
one_pair kind first second m n i j different are others = (
  one_place (names_of kind.methods) first i m different others.first_name are.first_name,
  one_place (names_of kind.methods) second j n different others.second_name are.second_name,
)

-- a method with a number is there
pub number_within : (methods : List Method) (name : List ℕ) (i : ℕ) → slice_get (names_of methods) i ≡ Some name → i < length methods
number_within methods name i here = omega (arith, slice_get_within (names_of methods) i name here, length-map methods (λ (m : Method). m.name))
