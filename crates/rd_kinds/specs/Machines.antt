-- The machines of the kinds that are built in: this project's profile. Each has a row for each method, in the order of the methods:
-- the arguments and what the object holds, then what it holds next and the result.
use Rattle.std.specs.Prelude.{ℕ, ℤ, zero, suc, pos, ◌+ℤ◌, not, List, [], ◌∷◌, length, Option, unwrap_or, slice_get}
use Rattle.std.specs.Int.{int_wrap, w64}
use Rattle.std.specs.Map.{lookup, remove_entry}
use Rattle.std.specs.BTreeMap.{is_at, insert_entry}
use Rattle.rd_base.specs.Order.{value_cmp}
use Rattle.rd_base.specs.declared.values.Value.{Value}
use Rattle.rd_base.specs.declared.values.Value.TheVariants.{Nil, Bool as Boolean, Int}
use Rattle.rd_object.specs.Machines.{Machine, Step}
use Rattle.rd_object.specs.Machines.Step.{goes, refuses, unknown}
use Rattle.rd_object.specs.declared.shapes.Shape.{Shape}
use Rattle.rd_object.specs.declared.shapes.Shape.TheVariants.{One, Number, Items, Map}
use Rattle.rd_parts.specs.Items.{has, with_item, without_item}
use Rattle.rd_more.specs.Machines.{bag_machine, peak_machine, queue_machine, tally_machine}
use Rattle.rd_kinds.specs.Shipped.{counter_kind, dictionary_kind, register_kind, set_kind}

-- ---- a register holds a value

abbrev pub register_row : ℕ → List Value → Value → Step
-- read
register_row zero [] held = goes (One held) held
-- write
register_row (suc zero) (value ∷ []) held = goes (One value) Nil
-- swap
register_row (suc (suc zero)) (value ∷ []) held = goes (One value) held
register_row method arguments held = unknown

abbrev pub register_step : ℕ → List Value → Shape → Step
register_step method arguments (One held) = register_row method arguments held
register_step method arguments shape = unknown

-- a new one holds nil
abbrev pub register_machine : Machine
register_machine = record { kind = register_kind; first = One Nil; step = register_step }

-- ---- a counter holds a number

abbrev pub counter_row : ℕ → List Value → ℤ → Step
-- add: the sum wraps as a signed number of 64 bits, and what isn't an integer isn't taken
counter_row zero (Int amount ∷ []) number = goes (Number (int_wrap w64 (number +ℤ amount))) Nil
counter_row zero (argument ∷ []) number = refuses 0
-- get
counter_row (suc zero) [] number = goes (Number number) (Int number)
counter_row method arguments number = unknown

abbrev pub counter_step : ℕ → List Value → Shape → Step
counter_step method arguments (Number number) = counter_row method arguments number
counter_step method arguments shape = unknown

abbrev pub counter_machine : Machine
counter_machine = record { kind = counter_kind; first = Number (pos 0); step = counter_step }

-- ---- a set holds items, which rise by value

abbrev pub set_row : ℕ → List Value → List Value → Step
-- add
set_row zero (item ∷ []) items = goes (Items (with_item item items)) (Boolean (not (has item items)))
-- remove
set_row (suc zero) (item ∷ []) items = goes (Items (without_item item items)) (Boolean (has item items))
-- contains
set_row (suc (suc zero)) (item ∷ []) items = goes (Items items) (Boolean (has item items))
-- size
set_row (suc (suc (suc zero))) [] items = goes (Items items) (Int (pos (length items)))
set_row method arguments items = unknown

abbrev pub set_step : ℕ → List Value → Shape → Step
set_step method arguments (Items items) = set_row method arguments items
set_step method arguments shape = unknown

abbrev pub set_machine : Machine
set_machine = record { kind = set_kind; first = Items []; step = set_step }

-- ---- a dictionary holds values by keys, which rise by value

abbrev pub Entries : Type 0
Entries = List (Value × Value)

-- the value of a key; nil where it has none
abbrev pub value_at : Value → Entries → Value
value_at key entries = unwrap_or (lookup (is_at (value_cmp key)) entries) Nil

-- the entries where the key has the value: nil takes the key away, and any other value takes the place of the one that it had
abbrev pub put_at : Value → Value → Entries → Entries
put_at key Nil entries = remove_entry (is_at (value_cmp key)) entries
put_at key value entries = insert_entry value_cmp entries key value

abbrev pub dictionary_row : ℕ → List Value → Entries → Step
-- put
dictionary_row zero (key ∷ value ∷ []) entries = goes (Map (put_at key value entries)) (value_at key entries)
-- get
dictionary_row (suc zero) (key ∷ []) entries = goes (Map entries) (value_at key entries)
-- size
dictionary_row (suc (suc zero)) [] entries = goes (Map entries) (Int (pos (length entries)))
dictionary_row method arguments entries = unknown

abbrev pub dictionary_step : ℕ → List Value → Shape → Step
dictionary_step method arguments (Map entries) = dictionary_row method arguments entries
dictionary_step method arguments shape = unknown

abbrev pub dictionary_machine : Machine
dictionary_machine = record { kind = dictionary_kind; first = Map []; step = dictionary_step }

-- ---- the kinds, by their numbers from 0

abbrev pub shipped_machines : List Machine
shipped_machines =
    register_machine ∷ counter_machine ∷ set_machine ∷ dictionary_machine ∷ bag_machine ∷ peak_machine ∷ queue_machine ∷ tally_machine ∷ []

-- the machine of the kind with this number, where it is built in
abbrev pub machine_of : ℕ → Option Machine
machine_of kind = slice_get shipped_machines kind
