-- How many cells a thread gets by touching points.
use Rattle.std.proofs.Common.{◌≡◌, ◌↔◌, inl, inr, ℕ, ◌+◌, ◌≤◌, Bool, true, false, if◌then◌else◌, IsTrue, List, [], ◌∷◌, ◌++◌, length, refl, sym, ap, ◌∙◌, arith, true≢false}
use Rattle.std.specs.Prelude.{◌||◌, Contains, is_some}
use Rattle.std.specs.List.{list_any}
use Rattle.std.proofs.lemmas.Bool.{false_from_ne_true}
use Rattle.rd_points.specs.PointLists.{same_point}
use Rattle.rd_points.specs.declared.points.Point.{Point}
use Rattle.rd_store.specs.Stores.{PointCells, cell_at, new_cells}
use Rattle.rd_detect.specs.Detect.{new_cells_at}
use Rattle.rd_detect.proofs.LookLemmas.{SameCells}
use Rattle.rd_detect.proofs.TouchLemmas.{first_or_later, none_in}

-- the code tells equal points
abbrev pub PointsTold : Type 0
PointsTold = (a b : Point) → (IsTrue (same_point a b)) ↔ (a ≡ b)

-- the point stands in the list
abbrev pub stands_in : List Point → Point → Bool
stands_in points point = list_any (same_point point) points

-- one cell more, or none
at_most_one : (b : Bool) → (if b then 0 else 1) ≤ 1
at_most_one true = omega arith
at_most_one false = omega arith

-- what a point counts, where it stands there again or not
abbrev pub counted : List PointCells → ℕ → Point → Bool → ℕ
counted store thread point again = if again then 0 else new_cells store point thread

counts_once : (store : List PointCells) (thread : ℕ) (point : Point) (again : Bool) → counted store thread point again ≤ 1
counts_once store thread point true = omega arith
counts_once store thread point false = at_most_one (is_some (cell_at store point thread))

pub new_at_most : (store : List PointCells) (points : List Point) (thread : ℕ) → new_cells_at store points thread ≤ length points
new_at_most store [] thread = omega arith
new_at_most store (point ∷ points) thread =
    omega (arith, new_at_most store points thread, counts_once store thread point (list_any (same_point point) points))

-- where the cells are the same, as many are new
pub new_same : (old new : List PointCells) (points : List Point) (thread : ℕ) → SameCells old new
    → new_cells_at new points thread ≡ new_cells_at old points thread
new_same old new [] thread same = refl
new_same old new (point ∷ points) thread same =
    let first : new_cells new point thread ≡ new_cells old point thread = ap (λ cell. if is_some cell then 0 else 1) (same point thread) in
    ap (λ n. (if stands_in points point then 0 else n) + new_cells_at new points thread) first
    ∙ ap (λ n. counted old thread point (stands_in points point) + n) (new_same old new points thread same)

-- ---- one point more

or_true : (b : Bool) → (b || true) ≡ true
or_true true = refl
or_true false = refl

or_false : (b : Bool) → (b || false) ≡ b
or_false true = refl
or_false false = refl

any_more : (test : Point → Bool) (points : List Point) (point : Point) → list_any test (points ++ point ∷ []) ≡ (list_any test points || test point)
any_more test [] point = or_false (test point)
any_more test (one ∷ points) point = by (test one) (any_more test points point)
  where
    by : (b : Bool) → list_any test (points ++ point ∷ []) ≡ (list_any test points || test point)
        → (b || list_any test (points ++ point ∷ [])) ≡ ((b || list_any test points) || test point)
    by true is = refl
    by false is = is

module _ (told : PointsTold) where
  pub found_in : (points : List Point) (point : Point) → Contains points point → stands_in points point ≡ true
  found_in [] point has = none_in point has
  found_in (one ∷ points) point has = elim (first_or_later one points point has) [
    | inl same ↦ ap (λ b. b || stands_in points point) ((told point one).1 (sym same))
    | inr rest ↦ ap (λ b. same_point point one || b) (found_in points point rest) ∙ or_true (same_point point one)
  ]

  -- two points are told apart from either side
  apart : (a b : Point) → same_point a b ≡ false → same_point b a ≡ false
  apart a b differ = false_from_ne_true (same_point b a) (λ same. true≢false (sym ((told a b).1 (sym ((told b a).0 same))) ∙ differ))

  -- one point more, which counts where it wasn't there before
  pub new_more : (store : List PointCells) (thread : ℕ) (points : List Point) (point : Point)
      → new_cells_at store (points ++ point ∷ []) thread ≡ new_cells_at store points thread + counted store thread point (stands_in points point)
  new_more store thread [] point = omega arith
  new_more store thread (one ∷ points) point =
      ap (λ b. counted store thread one b + new_cells_at store (points ++ point ∷ []) thread) (any_more (same_point one) points point)
      ∙ ap (λ n. counted store thread one (stands_in points one || same_point one point) + n) (new_more store thread points point)
      ∙ by (same_point one point) refl
    where
      by : (here : Bool) → same_point one point ≡ here
          → counted store thread one (stands_in points one || same_point one point)
          + (new_cells_at store points thread + counted store thread point (stands_in points point))
          ≡ (counted store thread one (stands_in points one) + new_cells_at store points thread)
          + counted store thread point (same_point point one || stands_in points point)
      by true is =
          let same : one ≡ point = (told one point).0 is in
          let none : counted store thread one (stands_in points one || same_point one point) ≡ 0
          = ap (counted store thread one) (ap (λ b. stands_in points one || b) is ∙ or_true (stands_in points one)) in
          let there : counted store thread point (same_point point one || stands_in points point) ≡ 0
          = ap (λ b. counted store thread point (b || stands_in points point)) ((told point one).1 (sym same)) in
          let alike : counted store thread one (stands_in points one) ≡ counted store thread point (stands_in points point)
          = ap (λ p. counted store thread p (stands_in points p)) same in
          omega (arith, none, there, alike)
      by false is =
          let first : counted store thread one (stands_in points one || same_point one point) ≡ counted store thread one (stands_in points one)
          = ap (counted store thread one) (ap (λ b. stands_in points one || b) is ∙ or_false (stands_in points one)) in
          let last : counted store thread point (same_point point one || stands_in points point) ≡ counted store thread point (stands_in points point)
          = ap (λ b. counted store thread point (b || stands_in points point)) (apart one point is) in
          omega (arith, first, last)
