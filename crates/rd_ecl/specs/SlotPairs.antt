-- Pairs of slots in rising order: this project's profile.
use Rattle.std.specs.Prelude.{◌==◌, ◌&&◌, ◌||◌, ℕ, Bool, nat_lt, if◌then◌else◌, List, [], ◌∷◌, IsTrue, AllPairs}
use Rattle.std.specs.List.{list_any}

-- the one stands before the other: by the first slot, then by the second
abbrev pub is_before : ℕ × ℕ → ℕ × ℕ → Bool
is_before x y = nat_lt x.0 y.0 || ((x.0 == y.0) && nat_lt x.1 y.1)

abbrev pub same_pair : ℕ × ℕ → ℕ × ℕ → Bool
same_pair x y = (x.0 == y.0) && (x.1 == y.1)

-- each pair stands before all behind it, so none stands twice
abbrev pub IsRising : List (ℕ × ℕ) → Type 0
IsRising pairs = AllPairs (λ x y. IsTrue (is_before x y)) pairs

-- the list with this pair in its place, unless it is there
abbrev pub insert_pair : ℕ × ℕ → List (ℕ × ℕ) → List (ℕ × ℕ)
insert_pair x [] = x ∷ []
insert_pair x (y ∷ ys) = if is_before y x then y ∷ insert_pair x ys else (if same_pair y x then y ∷ ys else x ∷ y ∷ ys)

-- the pairs of both lists
abbrev pub union_pairs : List (ℕ × ℕ) → List (ℕ × ℕ) → List (ℕ × ℕ)
union_pairs xs [] = xs
union_pairs xs (y ∷ ys) = union_pairs (insert_pair y xs) ys

-- whether the pair is listed
abbrev pub has_pair : ℕ × ℕ → List (ℕ × ℕ) → Bool
has_pair x xs = list_any (λ y. same_pair y x) xs
