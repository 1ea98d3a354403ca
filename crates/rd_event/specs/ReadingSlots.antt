-- The arguments and the result that bytes spell, computed: this project's profile.
use Rattle.std.specs.Prelude.{ℕ, zero, suc, ◌+◌, Bool, false, ◌==◌, if◌then◌else◌, List, [], ◌∷◌, take, drop, codes, Option, None}
use Rattle.std.specs.Option.{option_map, option_and_then}
use Rattle.std.specs.Str.{bytes_eq}
use Rattle.rd_base.specs.declared.values.Value.{Value}
use Rattle.rd_base.specs.declared.values.Value.TheVariants.{Nil, Bool as Truth, Int, Text}
use Rattle.rd_base.specs.ReadingValues.{value_of}
use Rattle.rd_event.specs.declared.front.Front.{Front}
use Rattle.rd_event.specs.declared.front.Front.TheVariants.{Nil as NilFront, Bool as TruthFront, Int as IntFront, Text as TextFront}
use Rattle.rd_event.specs.declared.slots.Place.{Place}
use Rattle.rd_event.specs.declared.slots.Place.TheVariants.{Outside, Quoted, Escaped}
use Rattle.rd_base.specs.Bytes.{backslash, quote, space}

-- a value ends before a space that stands outside its quotes
abbrev pub ends_value : Place → ℕ → Bool
ends_value Outside b = b == space
ends_value Quoted b = false
ends_value Escaped b = false

-- the place behind a byte
abbrev pub next_place : Place → ℕ → Place
next_place Outside b = if b == quote then Quoted else Outside
next_place Quoted b = if b == quote then Outside else if b == backslash then Escaped else Quoted
next_place Escaped b = Quoted

-- how many bytes stand before the first space outside quotes
unfoldable pub value_length : Place → List ℕ → ℕ
value_length place [] = 0
value_length place (b ∷ bytes) = if ends_value place b then 0 else suc (value_length (next_place place b) bytes)

-- the bytes before that space, and those behind it
abbrev pub first_value : List ℕ → List ℕ
first_value bytes = take (value_length Outside bytes) bytes

abbrev pub other_values : List ℕ → List ℕ
other_values bytes = drop (value_length Outside bytes + 1) bytes

-- the arguments, then the result behind an arrow: at most so many values
unfoldable pub slots_read : ℕ → List ℕ → Option (List Value)
slots_read zero bytes = None
slots_read (suc room) bytes =
    let others = slots_read room (other_values bytes) in
    if bytes_eq (first_value bytes) (codes "->") then option_map (λ result. result ∷ []) (value_of (other_values bytes))
    else option_and_then (λ argument. option_map (λ slots. argument ∷ slots) others) (value_of (first_value bytes))

-- the value that a front tells
abbrev pub front_value : Front → Value
front_value NilFront = Nil
front_value (TruthFront truth) = Truth truth
front_value (IntFront z) = Int z
front_value (TextFront text) = Text text.now
