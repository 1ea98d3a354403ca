-- Entries that stand in any order, as the list in which their keys rise: this project's profile. What stands at the keys is of any type.
use Rattle.std.specs.Prelude.{List, [], ◌∷◌}
use Rattle.std.specs.BTreeMap.{insert_entry}
use Rattle.rd_base.specs.Order.{value_cmp}
use Rattle.rd_base.specs.declared.values.Value.{Value}

-- each is inserted at its place, the last one first
abbrev pub sorted_entries : {X : Type 0} → List (Value × X) → List (Value × X)
sorted_entries [] = []
sorted_entries (entry ∷ entries) = insert_entry value_cmp (sorted_entries entries) entry.0 entry.1
