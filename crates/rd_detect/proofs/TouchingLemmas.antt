-- What is kept step by step at the points that a call touches.
use Rattle.std.proofs.Common.{◌≡◌, ◌≢◌, ◌⊎◌, inl, inr, ℕ, ◌+◌, ◌-◌, ◌<◌, Bool, true, false, if◌then◌else◌, List, [], ◌∷◌, ◌++◌, refl, sym, ap, subst, ◌∙◌, arith, true≢false}
use Rattle.std.specs.Prelude.{Contains, Option, is_some}
use Rattle.std.proofs.lemmas.Bool.{cases_Bool, cases_eq}
use Rattle.std.proofs.lemmas.List.Elements.{Contains-append_left, Contains-push, Contains-push_cases}
use Rattle.std.proofs.lemmas.Map.Views.{Contains-from_any}
use Rattle.rd_points.specs.PointLists.{same_point}
use Rattle.rd_points.specs.declared.points.Point.{Point}
use Rattle.rd_store.specs.Stores.{IsTouched, PointCells, cell_at, cell_count, cell_of, new_cells}
use Rattle.rd_store.specs.declared.Witness.{Witness}
use Rattle.rd_detect.specs.Detect.{AreBelow, AreTouched, new_cells_at}
use Rattle.rd_detect.proofs.NewCellLemmas.{PointsTold, counted, found_in, new_more, stands_in}

same_or_other : PointsTold → (a b : Point) → (a ≡ b) ⊎ (a ≢ b)
same_or_other told a b = elim (cases_Bool (same_point a b)) [
  | inl same ↦ inl ((told a b).0 same)
  | inr other ↦ inr (λ is. true≢false (sym ((told a b).1 is) ∙ other))
]

-- one where there is no cell
abbrev new_cell : Option Witness → ℕ
new_cell cell = if is_some cell then 0 else 1

module _ (told : PointsTold) (old middle new : List PointCells) (point : Point) (thread : ℕ) (witness : Witness) (touched : IsTouched middle new point thread witness) where
  elsewhere : (other : Point) (one : ℕ) → other ≢ point → cell_at new other one ≡ cell_at middle other one
  elsewhere other one differ = ap (λ cells. cell_of cells one) (touched.points other differ)

  -- it has one cell more where neither the thread had one there nor the point stood in the list
  counted_more : (done : List Point) → AreTouched old middle done thread witness
      → cell_count new ≡ cell_count old + new_cells_at old (done ++ point ∷ []) thread
  counted_more done before = by (stands_in done point) refl
    where
      by : (again : Bool) → stands_in done point ≡ again → cell_count new ≡ cell_count old + new_cells_at old (done ++ point ∷ []) thread
      by true is =
          let own : new_cells middle point thread ≡ 0 = ap new_cell (before.own point (Contains-from_any (λ a b same. (told a b).0 same) point done is)) in
          let none : counted old thread point (stands_in done point) ≡ 0 = ap (counted old thread point) is in
          omega (arith, touched.count, before.count, new_more told old thread done point, own, none)
      by false is =
          let same : cell_at middle point thread ≡ cell_at old point thread = elim (before.rest point) [
            | inl has ↦ absurd (true≢false (sym (found_in told done point has) ∙ is))
            | inr kept ↦ kept
          ] in
          let as_many : new_cells middle point thread ≡ new_cells old point thread = ap new_cell same in
          let one : counted old thread point (stands_in done point) ≡ new_cells old point thread = ap (counted old thread point) is in
          omega (arith, touched.count, before.count, new_more told old thread done point, as_many, one)

  pub touched_more : (done : List Point) → AreTouched old middle done thread witness → AreTouched old new (done ++ point ∷ []) thread witness
  touched_more done before = record {
    own = λ other has. elim (same_or_other told other point) [
      | inl same ↦ ap (λ p. cell_at new p thread) same ∙ touched.own
      | inr differ ↦ elim (Contains-push_cases done point other has) [
        | inl rest ↦ elsewhere other thread differ ∙ before.own other rest
        | inr last ↦ absurd (differ (sym last))
      ]
    ];
    rest = λ other. elim (same_or_other told other point) [
      | inl same ↦ inl (subst (Contains (done ++ point ∷ [])) (sym same) (Contains-push done point))
      | inr differ ↦ elim (before.rest other) [
        | inl rest ↦ inl (Contains-append_left done (point ∷ []) other rest)
        | inr same ↦ inr (elsewhere other thread differ ∙ same)
      ]
    ];
    others = λ other one differ. elim (same_or_other told other point) [
      | inl same ↦ ap (λ p. cell_at new p one) same ∙ touched.others one differ ∙ ap (λ p. cell_at middle p one) (sym same) ∙ before.others other one differ
      | inr elsewhere_is ↦ elsewhere other one elsewhere_is ∙ before.others other one differ
    ];
    count = counted_more done before;
  }

-- the cells of a thread below a number, and of those that were there
pub below_touched : (old new : List PointCells) (points : List Point) (thread threads : ℕ) (witness : Witness) → AreTouched old new points thread witness → thread < threads → AreBelow threads old → AreBelow threads new
below_touched old new points thread threads witness touched own below point one seen cell = elim (cases_eq one thread) [
  | inl mine ↦ omega (arith, own, mine)
  | inr differ ↦ below point one seen (sym (touched.others point one differ) ∙ cell)
]

-- ---- one seat less

-- the number of those before the last
pub before_last : (count : ℕ) → ¬ (count ≡ 0) → (count - 1) + 1 ≡ count
before_last count some = omega (arith, some)
