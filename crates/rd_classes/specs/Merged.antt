-- The table in which classes that are alike are one: this project's profile.
use Rattle.std.specs.Prelude.{◌==◌, ◌&&◌, ℕ, Bool, not, nat_eq, List, [], map, filter, position, Option, None, if◌then◌else◌}
use Rattle.std.specs.Bool.{beq}
use Rattle.std.specs.Cmp.Lexicographic.{pointwise}
use Rattle.std.specs.List.{list_all, list_any, range_with_len}
use Rattle.rd_points.specs.Compiled.{numbers_from}
use Rattle.rd_points.specs.Tables.{PointTable, class_count, conflicts_at, is_plain_class, renamed_touches}

-- no class conflicts with it
abbrev pub is_free : PointTable → ℕ → Bool
is_free table c = pointwise nat_eq (conflicts_at table c) []

-- two classes are alike: both plain or both valued, and in conflict with the same classes
abbrev pub are_alike : PointTable → ℕ → ℕ → Bool
are_alike table c d = beq (is_plain_class table c) (is_plain_class table d) && pointwise nat_eq (conflicts_at table c) (conflicts_at table d)

-- the least of those that are alike, which aren't free
abbrev pub is_least : PointTable → ℕ → Bool
is_least table c = not (is_free table c) && list_all (λ d. not (are_alike table d c)) (range_with_len 0 c)

-- the least of each, in rising order: the merged class i is that of the i-th
abbrev pub leaders : PointTable → List ℕ
leaders table = filter (is_least table) (range_with_len 0 (class_count table))

-- the merged class of a class; none where it is free
abbrev pub merged_class : PointTable → ℕ → Option ℕ
merged_class table c = if is_free table c then None else position (λ l. are_alike table l c) (leaders table)

-- the merged classes that conflict with that of a least one: their least ones conflict
abbrev pub merged_conflicts : PointTable → ℕ → List ℕ
merged_conflicts table l = numbers_from 0 (λ k. list_any (λ c. c == k) (conflicts_at table l)) (leaders table)

-- the table of the merged classes
abbrev pub merged : PointTable → PointTable
merged table = record {
  predicates = table.predicates;
  touches = renamed_touches (merged_class table) table.touches;
  plain = map (is_plain_class table) (leaders table);
  conflicts = map (merged_conflicts table) (leaders table);
}
