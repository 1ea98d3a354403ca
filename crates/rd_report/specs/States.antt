-- What objects hold, in words: this project's profile.
use Rattle.std.specs.Prelude.{ℕ, List, ◌++◌, codes, decimal, flat_map}
use Rattle.rd_base.specs.Spelling.{value_spelling}
use Rattle.rd_base.specs.declared.values.Value.{Value}
use Rattle.rd_base.specs.declared.values.Value.TheVariants.{Int}
use Rattle.rd_object.specs.declared.shapes.Shape.{Shape}
use Rattle.rd_object.specs.declared.shapes.Shape.TheVariants.{One, Number, Items, Map, Counts, Row}

-- ---- members

-- a value, behind a blank
abbrev pub value_text : Value → List ℕ
value_text value = codes " " ++ value_spelling value

-- a key and its value, each behind a blank
abbrev pub entry_text : Value × Value → List ℕ
entry_text pair = value_text pair.0 ++ value_text pair.1

-- a value and its count, each behind a blank
abbrev pub count_text : Value × ℕ → List ℕ
count_text counted = value_text counted.0 ++ codes " " ++ decimal counted.1

-- all of them, in their order
abbrev pub values_text : List Value → List ℕ
values_text values = flat_map value_text values

abbrev pub entries_text : List (Value × Value) → List ℕ
entries_text pairs = flat_map entry_text pairs

abbrev pub counts_text : List (Value × ℕ) → List ℕ
counts_text counts = flat_map count_text counts

-- ---- shapes

-- the word of a shape, and what is held; a number stands as the integer does
unfoldable pub shape_text : Shape → List ℕ
shape_text (One value) = codes "one" ++ value_text value
shape_text (Number number) = codes "number" ++ value_text (Int number)
shape_text (Items items) = codes "items" ++ values_text items
shape_text (Map pairs) = codes "map" ++ entries_text pairs
shape_text (Counts counts) = codes "counts" ++ counts_text counts
shape_text (Row items) = codes "row" ++ values_text items

-- the line that tells what an object with this name holds
abbrev pub state_line : List ℕ → Shape → List ℕ
state_line name shape = codes "state " ++ name ++ codes " " ++ shape_text shape ++ codes "\n"
