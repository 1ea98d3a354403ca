-- The table that is compiled from a kind: this project's profile.
use Rattle.std.specs.Prelude.{◌+◌, ℕ, Bool, List, [], ◌∷◌, length, map, is_none, if◌then◌else◌}
use Rattle.std.specs.List.{range_with_len}
use Rattle.rd_ecl.specs.Specified.{SpecifiedKind, method_predicates, slots_at}
use Rattle.rd_points.specs.declared.touches.Touch.{Touch}
use Rattle.rd_points.specs.Classes.{classes_conflict, classes_of, first_class, slot_at, valuations}
use Rattle.rd_points.specs.Tables.{PointTable}

-- the numbers of those members of a list that pass the test, where the first has number n: rising
abbrev pub numbers_from : {X : Type 0} → ℕ → (X → Bool) → List X → List ℕ
numbers_from n test [] = []
numbers_from n test (x ∷ xs) = if test x then n ∷ numbers_from (n + 1) test xs else numbers_from (n + 1) test xs

-- the touches of a method with a valuation: its plain class, then that of each slot
abbrev pub touches_of : SpecifiedKind → ℕ → ℕ → List Touch
touches_of kind m bits = map (λ i. record { class = first_class kind m bits + i; slot = slot_at i }) (range_with_len 0 (slots_at kind.methods m + 1))

-- the table of all classes
abbrev pub compiled : SpecifiedKind → PointTable
compiled kind = record {
  predicates = map (method_predicates kind) (range_with_len 0 (length kind.methods));
  touches = map (λ m. map (touches_of kind m) (range_with_len 0 (valuations kind m))) (range_with_len 0 (length kind.methods));
  plain = map (λ c. is_none c.slot) (classes_of kind);
  conflicts = map (λ c. numbers_from 0 (classes_conflict kind c) (classes_of kind)) (classes_of kind);
}
