-- What the formula of each two blocks says, kept in rows.
use Rattle.std.proofs.Common.{◌≡◌, ◌+◌, ◌<◌, ◌≤◌, ℕ, zero, suc, List, [], ◌∷◌, ◌++◌, length, get_or, map, take, drop, Option, sym, ap, ◌∙◌, arith, subst}
use Rattle.std.specs.Prelude.{slice_index_or}
use Rattle.std.specs.List.{range_with_len}
use Rattle.std.proofs.lemmas.List.{append-nil, append_assoc, at_drop_more, drop_all, ext_get_or, get_or-map, get_or_default, length-map, map_more, map_push}
use Rattle.std.proofs.lemmas.List.FromFn.{get_or-map-range_with_len, length-map-range_with_len}
use Rattle.rd_ecl.specs.declared.reduction.Reduced.{Reduced}
use Rattle.rd_ecl.specs.declared.reduction.Reduced.TheVariants.{True}
use Rattle.rd_ecl.specs.Specified.{SpecifiedKind}
use Rattle.rd_points.specs.declared.blocks.Block.{Block}
use Rattle.rd_points.specs.Blocks.{Column, IsSquare, column, columns_at, formula_of_blocks, grid_of, numbers_in, one_way, row_from, slots_in}

-- ---- rows that are seen

module _ {X Y : Type 0} (view : X → List Y) where
  pub in_rows : (rows : List X) (x y : ℕ) → y < length (slice_index_or (map view rows) x []) → x < length rows
  in_rows [] x y h = absurd (omega arith)
  in_rows (row ∷ rows) zero y h = omega arith
  in_rows (row ∷ rows) (suc x) y h = omega (arith, in_rows rows x y h)

  -- the row that was read
  pub read_row : (rows : List X) (x : ℕ) (row : X) → x < length rows → row ≡ get_or rows x row → slice_index_or (map view rows) x [] ≡ view row
  read_row rows x row within read = get_or-map view rows x row [] within ∙ ap view (sym read)

  -- and what was read in it
  pub read_twice : (rows : List X) (x y : ℕ) (row : X) (one other : Y) → x < length rows → row ≡ get_or rows x row → y < length (view row) → one ≡ get_or (view row) y one
      → one ≡ slice_index_or (slice_index_or (map view rows) x []) y other
  read_twice rows x y row one other within read within_row found =
      found ∙ get_or_default (view row) y one other within_row ∙ ap (λ l. get_or l y other) (sym (read_row rows x row within read))

-- one row more of which the f of a member is seen
pub seen_more : {X Y Z : Type 0} (view : X → Y) (f : Z → Y) (members : List Z) (i : ℕ) (d : Z) (old new : List X) (row : X) → i < length members → new ≡ old ++ row ∷ []
    → view row ≡ f (get_or members i d) → map view old ≡ map f (take i members) → map view new ≡ map f (take (i + 1) members)
seen_more view f members i d old new row within more made so_far =
    ap (map view) more ∙ map_push view old row ∙ ap (λ y. map view old ++ y ∷ []) made ∙ ap (λ l. l ++ f (get_or members i d) ∷ []) so_far ∙ sym (map_more f members i d within)

-- ---- columns

-- a list by its places
by_places : {X Y : Type 0} (f : ℕ → Y) (g : X → Y) (xs : List X) (d : X) → ((i : ℕ) → i < length xs → f i ≡ g (get_or xs i d)) → map f (range_with_len 0 (length xs)) ≡ map g xs
by_places f g xs d same =
    ext_get_or (g d) (map f (range_with_len 0 (length xs))) (map g xs) (length-map-range_with_len f 0 (length xs) ∙ sym (length-map xs g)) (λ i h.
    (let within : i < length xs = omega (arith, length-map-range_with_len f 0 (length xs)) in
    get_or-map-range_with_len f 0 (length xs) i i (g d) within (omega arith) ∙ same i within ∙ sym (get_or-map g xs i d (g d) within)))

module _ (kind : SpecifiedKind) (blocks : List Block) where
  none : Block
  none = record { method = 0; bits = 0; slots = 0 }

  formula_is : (x y : ℕ) → x < length blocks → y < length blocks → formula_of_blocks (grid_of kind blocks) x y ≡ one_way kind (get_or blocks x none) (get_or blocks y none)
  formula_is x y first second =
      ap (λ row. slice_index_or row y True) (get_or-map (λ b. map (one_way kind b) blocks) blocks x none [] first)
      ∙ get_or-map (one_way kind (get_or blocks x none)) blocks y none True second

  pub columns_are : (at : ℕ) → at < length blocks → columns_at (grid_of kind blocks) blocks at ≡ map (column kind (get_or blocks at (record { method = 0; bits = 0; slots = 0 }))) blocks
  unfolding none
  columns_are at within =
      let of : Reduced → Reduced → ℕ → Column = λ f b s. record { forward = f; backward = b; slots = s } in
      by_places (λ other. of (formula_of_blocks (grid_of kind blocks) at other) (formula_of_blocks (grid_of kind blocks) other at) (slots_in blocks other)) (column kind (get_or blocks at none)) blocks none (λ i h.
      ap (λ f. of f (formula_of_blocks (grid_of kind blocks) i at) (slots_in blocks i)) (formula_is at i within h)
      ∙ ap (λ b. of (one_way kind (get_or blocks at none) (get_or blocks i none)) b (slots_in blocks i)) (formula_is i at h within))

  pub square : IsSquare (length blocks) (grid_of kind blocks)
  square x y first second =
      subst (λ row. y < length row) (sym (get_or-map (λ b. map (one_way kind b) blocks) blocks x (record { method = 0; bits = 0; slots = 0 }) [] first))
      (omega (arith, length-map blocks (one_way kind (get_or blocks x (record { method = 0; bits = 0; slots = 0 })))))

-- ---- the row of a class

module _ (grid : List (List Reduced)) (blocks : List Block) (at : ℕ) (slot : Option ℕ) where
  pub row_more : (n i : ℕ) (row new all : List ℕ) (forward backward : Reduced) (slots : ℕ) → i < length blocks → forward ≡ formula_of_blocks grid at i → backward ≡ formula_of_blocks grid i at
      → slots ≡ slots_in blocks i → new ≡ row ++ numbers_in n slot (record { forward = forward; backward = backward; slots = slots })
      → row ++ row_from n slot (drop i (columns_at grid blocks at)) ≡ all → new ++ row_from (n + (slots + 1)) slot (drop (i + 1) (columns_at grid blocks at)) ≡ all
  row_more n i row new all forward backward slots within is_forward is_backward few more rest =
      let columns : List Column = columns_at grid blocks at in
      let of : Reduced → Reduced → ℕ → Column = λ f b s. record { forward = f; backward = b; slots = s } in
      let f : ℕ → Column = λ other. of (formula_of_blocks grid at other) (formula_of_blocks grid other at) (slots_in blocks other) in
      let long : i < length columns = omega (arith, length-map-range_with_len f 0 (length blocks)) in
      let here : of forward backward slots ≡ get_or columns i (f 0) =
      ap (λ x. of x backward slots) is_forward ∙ ap (λ x. of (formula_of_blocks grid at i) x slots) is_backward ∙ ap (of (formula_of_blocks grid at i) (formula_of_blocks grid i at)) few
      ∙ sym (get_or-map-range_with_len f 0 (length blocks) i i (f 0) within (omega arith)) in
      let next : Column → List ℕ = λ c. numbers_in n slot c ++ row_from (n + (c.slots + 1)) slot (drop (i + 1) columns) in
      ap (λ l. l ++ row_from (n + (slots + 1)) slot (drop (i + 1) columns)) more
      ∙ append_assoc row (numbers_in n slot (of forward backward slots)) (row_from (n + (slots + 1)) slot (drop (i + 1) columns))
      ∙ ap (λ l. row ++ l) (ap next here ∙ sym (at_drop_more (row_from n slot) columns i (f 0) long)) ∙ rest

  pub row_whole : (n i : ℕ) (row : List ℕ) → length blocks ≤ i → row ++ row_from n slot (drop i (columns_at grid blocks at)) ≡ row_from 0 slot (columns_at grid blocks at)
      → row ≡ row_from 0 slot (columns_at grid blocks at)
  row_whole n i row all rest =
      let f : ℕ → Column = λ other. record { forward = formula_of_blocks grid at other; backward = formula_of_blocks grid other at; slots = slots_in blocks other } in
      let past : length (columns_at grid blocks at) ≤ i = omega (arith, length-map-range_with_len f 0 (length blocks)) in
      sym (append-nil row) ∙ ap (λ l. row ++ row_from n slot l) (sym (drop_all i (columns_at grid blocks at) past)) ∙ rest
