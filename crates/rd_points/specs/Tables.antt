-- Tables of access points: what a detector asks. This project's profile.
use Rattle.std.specs.Prelude.{◌≡◌, ◌<◌, ◌↔◌, ℕ, Bool, false, List, [], All, Contains, length, map, filter_map, Option, option_map, slice_index_or}
use Rattle.std.specs.List.Sorted.{IsStrictlyIncreasing}
use Rattle.rd_base.specs.declared.values.Value.{Value}
use Rattle.rd_ecl.specs.declared.formulas.Predicate.{Predicate}
use Rattle.rd_ecl.specs.Specified.{SpecifiedKind, commutes, slots_at}
use Rattle.rd_points.specs.declared.touches.Touch.{Touch}
use Rattle.rd_points.specs.Classes.{bits_of}
use Rattle.rd_points.specs.Points.{value_of_slot}

-- what a table says of a kind
pub record PointTable : Type 0 where
  -- the predicates of each method
  pub predicates : List (List Predicate)
  -- the touches of each method with each valuation
  pub touches : List (List (List Touch))
  -- whether a class is plain
  pub plain : List Bool
  -- the classes that conflict with it
  pub conflicts : List (List ℕ)

-- what is asked of a table, by the number of a method, a valuation or a class; nothing where there is none

abbrev pub class_count : PointTable → ℕ
class_count table = length table.conflicts

abbrev pub predicates_of_method : PointTable → ℕ → List Predicate
predicates_of_method table m = slice_index_or table.predicates m []

abbrev pub touches_at : PointTable → ℕ → ℕ → List Touch
touches_at table m bits = slice_index_or (slice_index_or table.touches m []) bits []

abbrev pub is_plain_class : PointTable → ℕ → Bool
is_plain_class table c = slice_index_or table.plain c false

abbrev pub conflicts_at : PointTable → ℕ → List ℕ
conflicts_at table c = slice_index_or table.conflicts c []

-- what a call touches
abbrev pub touched : PointTable → ℕ → List Value → List Touch
touched table m slots = touches_at table m (bits_of (predicates_of_method table m) slots)

-- two calls on one object touch points that conflict by the table
abbrev pub MeetsIn : PointTable → ℕ → List Value → ℕ → List Value → Type 0
MeetsIn table m a n b = (x y : Touch) × Contains (touched table m a) x × Contains (touched table n b) y
    × Contains (conflicts_at table x.class) y.class × (value_of_slot a x.slot ≡ value_of_slot b y.slot)

-- the table tells which calls commute: two calls on one object touch points that conflict exactly where they don't commute
abbrev pub Tells : SpecifiedKind → PointTable → Type 0
Tells kind table = (m n : ℕ) (a b : List Value) → m < length kind.methods → n < length kind.methods
    → length a ≡ slots_at kind.methods m → length b ≡ slots_at kind.methods n → (MeetsIn table m a n b ↔ (commutes kind m a n b ≡ false))

-- ---- tables that are sound

-- a class conflicts with those that conflict with it
abbrev pub IsSymmetric : PointTable → Type 0
IsSymmetric table = (c d : ℕ) → Contains (conflicts_at table c) d → Contains (conflicts_at table d) c

-- of each class it is said whether it is plain, and each number of a class is that of one
pub record IsInRange (table : PointTable) : Type 0 where
  pub plain : length table.plain ≡ class_count table
  pub touches : (m bits : ℕ) → All (λ x. x.class < class_count table) (touches_at table m bits)
  pub conflicts : (c : ℕ) → All (λ d. d < class_count table) (conflicts_at table c)

-- the classes that conflict with one stand in rising order
abbrev pub HasRisingConflicts : PointTable → Type 0
HasRisingConflicts table = (c : ℕ) → IsStrictlyIncreasing (conflicts_at table c)

-- ---- other numbers for classes

-- a touch by the new number of its class; none where that has none
abbrev pub renamed_touch : (ℕ → Option ℕ) → Touch → Option Touch
renamed_touch name x = option_map (λ c. record x { class = c }) (name x.class)

-- the touches by new numbers, in the same order
abbrev pub renamed_touches : (ℕ → Option ℕ) → List (List (List Touch)) → List (List (List Touch))
renamed_touches name touches = map (map (filter_map (renamed_touch name))) touches
