-- The leaders among the classes: the least of those that are alike. What the code keeps of them.
use Rattle.std.specs.Prelude.{◌≡◌, ◌+◌, ◌*◌, ◌%◌, ◌^◌, ◌&&◌, ◌==◌, ◌<◌, ℕ, Bool, false, List, [], ◌∷◌, length, All, Option, filter, map, slice_index_or}
use Rattle.std.specs.List.{list_any, range_with_len}
use Rattle.rd_points.specs.Tables.{PointTable, class_count, conflicts_at, is_plain_class}
use Rattle.rd_classes.specs.declared.merging.Leader.{Leader}
use Rattle.rd_classes.specs.declared.merging.TheConstants.{FACTOR}
use Rattle.rd_classes.specs.Merged.{are_alike, is_least, leaders, merged_class, merged_conflicts}

-- the signature of a row
abbrev pub signature_from : ℕ → List ℕ → ℕ
signature_from signature [] = signature
signature_from signature (class ∷ row) = signature_from (((signature * FACTOR) % 2 ^ 64 + class) % 2 ^ 64) row

abbrev pub signature_of : List ℕ → ℕ
signature_of row = signature_from 0 row

-- the leader has the signature, and the class is like it
abbrev pub is_like : PointTable → ℕ → ℕ → Leader → Bool
is_like table class signature leader = (leader.signature == signature) && are_alike table leader.class class

-- these are the leaders below this class
pub record AreLeaders (table : PointTable) (leaders : List Leader) (class : ℕ) : Type 0 where
  pub classes : map (λ l. l.class) leaders ≡ filter (is_least table) (range_with_len 0 class)
  pub signatures : All (λ l. l.signature ≡ signature_of (conflicts_at table l.class)) leaders

-- the marks of this many classes: those in the row have one
pub record AreClassMarks (row : List ℕ) (count : ℕ) (marks : List Bool) : Type 0 where
  pub long : length marks ≡ count
  pub each : (class : ℕ) → class < count → slice_index_or marks class false ≡ list_any (λ c. c == class) row

-- the merged class of each class, and the merged classes
pub record AreParts (table : PointTable) (names : List (Option ℕ)) (plain : List Bool) (conflicts : List (List ℕ)) : Type 0 where
  pub named : names ≡ map (merged_class table) (range_with_len 0 (class_count table))
  pub plain_is : plain ≡ map (is_plain_class table) (leaders table)
  pub conflicts_are : conflicts ≡ map (merged_conflicts table) (leaders table)
