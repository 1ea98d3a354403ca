-- Lists of items that rise by value: this project's profile.
use Rattle.std.specs.Prelude.{Bool, List, [], ◌∷◌}
use Rattle.std.specs.List.{list_any}
use Rattle.std.specs.BTreeMap.{is_at}
use Rattle.std.specs.BTreeSet.{insert_key}
use Rattle.std.specs.Set.{remove_key}
use Rattle.rd_base.specs.Order.{value_cmp}
use Rattle.rd_base.specs.declared.values.Value.{Value}

-- the item is there
abbrev pub has : Value → List Value → Bool
has item items = list_any (is_at (value_cmp item)) items

-- the items with this one, and without it
abbrev pub with_item : Value → List Value → List Value
with_item item items = insert_key value_cmp items item

abbrev pub without_item : Value → List Value → List Value
without_item item items = remove_key (is_at (value_cmp item)) items

-- items in any order, as the list in which they rise: each is inserted at its place, the last one first
abbrev pub sorted_items : List Value → List Value
sorted_items [] = []
sorted_items (item ∷ items) = with_item item (sorted_items items)
