-- The classes of a kind by blocks: those of a method with a valuation. This project's profile.
use Rattle.std.specs.Prelude.{◌+◌, ◌<◌, ◌≡◌, ◌||◌, ℕ, Bool, nat_le, if◌then◌else◌, List, [], ◌∷◌, ◌++◌, length, map, slice_index_or, Option}
use Rattle.std.specs.List.{range_with_len}
use Rattle.rd_ecl.specs.declared.formulas.Predicate.{Predicate}
use Rattle.rd_ecl.specs.declared.reduction.Reduced.{Reduced}
use Rattle.rd_ecl.specs.declared.reduction.Reduced.TheVariants.{True}
use Rattle.rd_ecl.specs.Specified.{SpecifiedKind, method_predicates, slots_at}
use Rattle.rd_points.specs.declared.blocks.Block.{Block}
use Rattle.rd_points.specs.declared.classes.Class.{Class}
use Rattle.rd_points.specs.declared.touches.Touch.{Touch}
use Rattle.rd_points.specs.Classes.{clash, classes_conflict, classes_of, joined, reduced_pair, slot_at, valuations}
use Rattle.rd_points.specs.Compiled.{numbers_from}

-- the predicates of each method
abbrev pub ArePredicates : SpecifiedKind → List (List Predicate) → Type 0
ArePredicates kind predicates = predicates ≡ map (method_predicates kind) (range_with_len 0 (length kind.methods))

-- the blocks of a method, by valuation
abbrev pub method_blocks : SpecifiedKind → ℕ → List Block
method_blocks kind m = map (λ bits. record { method = m; bits = bits; slots = slots_at kind.methods m }) (range_with_len 0 (valuations kind m))

-- those of a kind, by method
abbrev pub blocks_of : SpecifiedKind → List Block
blocks_of kind = joined (method_blocks kind) (length kind.methods)

-- the class of a block without a slot, or with this one
abbrev pub block_class : Block → Option ℕ → Class
block_class block slot = record { method = block.method; bits = block.bits; slot = slot }

-- the classes of a block
abbrev pub block_classes : Block → List Class
block_classes block = map (λ i. block_class block (slot_at i)) (range_with_len 0 (block.slots + 1))

-- the formula with the first block's method on side 1; it says nothing where that is declared behind the other's
abbrev pub one_way : SpecifiedKind → Block → Block → Reduced
one_way kind x y = if nat_le x.method y.method then reduced_pair kind x.method x.bits y.method y.bits else True

-- what the formula of a block and of another says, in the rows of the first: with the method of the first on side 1, and with that of the
-- other; and how many slots the method of the other has
pub record Column : Type 0 where
  pub forward : Reduced
  pub backward : Reduced
  pub slots : ℕ

abbrev pub column : SpecifiedKind → Block → Block → Column
column kind x y = record { forward = one_way kind x y; backward = one_way kind y x; slots = y.slots }

-- what the formula of each two of these blocks says
abbrev pub grid_of : SpecifiedKind → List Block → List (List Reduced)
grid_of kind blocks = map (λ x. map (one_way kind x) blocks) blocks

-- that of the blocks with these numbers
abbrev pub formula_of_blocks : List (List Reduced) → ℕ → ℕ → Reduced
formula_of_blocks grid x y = slice_index_or (slice_index_or grid x []) y True

-- there is one for each two of this many blocks
abbrev pub IsSquare : ℕ → List (List Reduced) → Type 0
IsSquare count grid = (x y : ℕ) → x < count → y < count → y < length (slice_index_or grid x [])

-- how many slots the block with this number has
abbrev pub slots_in : List Block → ℕ → ℕ
slots_in blocks at = (slice_index_or blocks at (record { method = 0; bits = 0; slots = 0 })).slots

-- the columns of the block with this number
abbrev pub columns_at : List (List Reduced) → List Block → ℕ → List Column
columns_at grid blocks at =
    map (λ other. record { forward = formula_of_blocks grid at other; backward = formula_of_blocks grid other at; slots = slots_in blocks other })
    (range_with_len 0 (length blocks))

-- two classes of these blocks conflict, that have these slots
abbrev pub meets : Column → Option ℕ → Option ℕ → Bool
meets column s t = clash column.forward s t || clash column.backward t s

-- the numbers of those classes of a column that conflict with the one that has this slot, where the first of the column has number n
abbrev pub numbers_in : ℕ → Option ℕ → Column → List ℕ
numbers_in n slot column = numbers_from n (λ i. meets column slot (slot_at i)) (range_with_len 0 (column.slots + 1))

-- the same of columns, one behind another
abbrev pub row_from : ℕ → Option ℕ → List Column → List ℕ
row_from n slot [] = []
row_from n slot (column ∷ columns) = numbers_in n slot column ++ row_from (n + (column.slots + 1)) slot columns

-- the row of a class: those that conflict with it
abbrev pub conflict_row : SpecifiedKind → Class → List ℕ
conflict_row kind c = numbers_from 0 (classes_conflict kind c) (classes_of kind)

-- the touches of a block with this many slots, whose plain class has this number
abbrev pub touches_from : ℕ → ℕ → List Touch
touches_from first slots = map (λ i. record { class = first + i; slot = slot_at i }) (range_with_len 0 (slots + 1))
