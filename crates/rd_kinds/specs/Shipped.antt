-- The kinds of objects that are built in, and the names of kinds that are taken: this project's profile.
use Rattle.std.specs.Prelude.{ℕ, true, false, pos, List, [], ◌∷◌, codes}
use Rattle.rd_base.specs.declared.values.Value.TheVariants.{Nil, Bool as Boolean, Int}
use Rattle.rd_ecl.specs.declared.formulas.Side.{Side}
use Rattle.rd_ecl.specs.declared.formulas.Side.TheVariants.{First, Second}
use Rattle.rd_ecl.specs.declared.formulas.Term.TheVariants.{Slot, Const}
use Rattle.rd_ecl.specs.declared.kinds.Method.{Method}
use Rattle.rd_ecl.specs.Formulas.{Tree, truth, negation, both, either}
use Rattle.rd_ecl.specs.Specified.{SpecifiedKind}
use Rattle.rd_parts.specs.Parts.{Pair, equals, firsts_differ, method, no_pairs, with_pairs}
use Rattle.rd_more.specs.MoreKinds.{bag_kind, peak_kind, queue_kind, tally_kind}

-- ---- a register holds a value

abbrev pub register_methods : List Method
register_methods =
    method (codes "read") (codes "value" ∷ [])
    ∷ method (codes "write") (codes "value" ∷ codes "done" ∷ [])
    ∷ method (codes "swap") (codes "value" ∷ codes "prev" ∷ [])
    ∷ []

-- the `swap` of that side leaves the value as it is
abbrev pub keeps : Side → Tree
keeps side = equals side 0 (Slot 1)

abbrev pub register_pairs : List Pair
register_pairs =
    let read : ℕ = 0 in
    let write : ℕ = 1 in
    let swap : ℕ = 2 in
    (read, read, truth true)
    ∷ (read, write, truth false)
    ∷ (read, swap, keeps Second)
    ∷ (write, write, truth false)
    ∷ (write, swap, truth false)
    ∷ (swap, swap, both (keeps First) (keeps Second))
    ∷ []

unfoldable pub register_kind : SpecifiedKind
register_kind = with_pairs (no_pairs (codes "register") register_methods) register_pairs

-- ---- a counter holds a number

abbrev pub counter_methods : List Method
counter_methods =
    method (codes "add") (codes "amount" ∷ codes "done" ∷ [])
    ∷ method (codes "get") (codes "total" ∷ [])
    ∷ []

-- the `add` of side 1 adds nothing
abbrev pub adds_nothing : Tree
adds_nothing = equals First 0 (Const (Int (pos 0)))

abbrev pub counter_pairs : List Pair
counter_pairs =
    let add : ℕ = 0 in
    let get : ℕ = 1 in
    (add, add, truth true)
    ∷ (add, get, adds_nothing)
    ∷ (get, get, truth true)
    ∷ []

unfoldable pub counter_kind : SpecifiedKind
counter_kind = with_pairs (no_pairs (codes "counter") counter_methods) counter_pairs

-- ---- a set holds items

abbrev pub set_methods : List Method
set_methods =
    method (codes "add") (codes "item" ∷ codes "done" ∷ [])
    ∷ method (codes "remove") (codes "item" ∷ codes "done" ∷ [])
    ∷ method (codes "contains") (codes "item" ∷ codes "found" ∷ [])
    ∷ method (codes "size") (codes "n" ∷ [])
    ∷ []

-- the `add` or `remove` of that side leaves the set as it is
abbrev pub idle : Side → Tree
idle side = equals side 1 (Const (Boolean false))

-- the items differ, or both calls leave the set as it is
abbrev pub other_or_idle : Tree
other_or_idle = either firsts_differ (both (idle First) (idle Second))

-- the items differ, or the call of side 1 leaves the set as it is
abbrev pub other_or_first_idle : Tree
other_or_first_idle = either firsts_differ (idle First)

abbrev pub set_pairs : List Pair
set_pairs =
    let add : ℕ = 0 in
    let remove : ℕ = 1 in
    let contains : ℕ = 2 in
    let size : ℕ = 3 in
    (add, add, other_or_idle)
    ∷ (add, remove, other_or_idle)
    ∷ (add, contains, other_or_first_idle)
    ∷ (add, size, idle First)
    ∷ (remove, remove, other_or_idle)
    ∷ (remove, contains, other_or_first_idle)
    ∷ (remove, size, idle First)
    ∷ (contains, contains, truth true)
    ∷ (contains, size, truth true)
    ∷ (size, size, truth true)
    ∷ []

unfoldable pub set_kind : SpecifiedKind
set_kind = with_pairs (no_pairs (codes "set") set_methods) set_pairs

-- ---- a dictionary holds values by keys

abbrev pub dictionary_methods : List Method
dictionary_methods =
    method (codes "put") (codes "key" ∷ codes "value" ∷ codes "prev" ∷ [])
    ∷ method (codes "get") (codes "key" ∷ codes "value" ∷ [])
    ∷ method (codes "size") (codes "n" ∷ [])
    ∷ []

-- the `put` of that side leaves the value of its key as it is
abbrev pub puts_the_same : Side → Tree
puts_the_same side = equals side 1 (Slot 2)

-- a slot of side 1 is `nil`, which stands for no value
abbrev pub is_nil : ℕ → Tree
is_nil slot = equals First slot (Const Nil)

-- the `put` of side 1 leaves its key without a value, or leaves it with one
abbrev pub stays_out : Tree
stays_out = both (is_nil 1) (is_nil 2)

abbrev pub stays_in : Tree
stays_in = both (negation (is_nil 1)) (negation (is_nil 2))

abbrev pub dictionary_pairs : List Pair
dictionary_pairs =
    let put : ℕ = 0 in
    let get : ℕ = 1 in
    let size : ℕ = 2 in
    (put, put, either firsts_differ (both (puts_the_same First) (puts_the_same Second)))
    ∷ (put, get, either firsts_differ (puts_the_same First))
    ∷ (put, size, either stays_out stays_in)
    ∷ (get, get, truth true)
    ∷ (get, size, truth true)
    ∷ (size, size, truth true)
    ∷ []

unfoldable pub dictionary_kind : SpecifiedKind
dictionary_kind = with_pairs (no_pairs (codes "dictionary") dictionary_methods) dictionary_pairs

-- ---- the kinds, by their numbers from 0

abbrev pub shipped_kinds : List SpecifiedKind
shipped_kinds = register_kind ∷ counter_kind ∷ set_kind ∷ dictionary_kind ∷ bag_kind ∷ peak_kind ∷ queue_kind ∷ tally_kind ∷ []

-- the names of kinds that are taken, whichever of them are built in
abbrev pub reserved_names : List (List ℕ)
reserved_names =
    codes "register" ∷ codes "counter" ∷ codes "set" ∷ codes "dictionary" ∷ codes "bag" ∷ codes "peak" ∷ codes "queue" ∷ codes "tally" ∷ []
