-- Access points: what a call touches. A point is an object, a class, and a value or none: this project's profile, after Dimitrov, Raychev,
-- Vechev and Koskinen 2014.
use Rattle.std.specs.Prelude.{◌≡◌, ◌<◌, ◌⊎◌, ℕ, true, List, Option, Some, None, slice_get}
use Rattle.rd_base.specs.declared.values.Value.{Value}
use Rattle.rd_ecl.specs.Specified.{SpecifiedKind, method_predicates, slots_at}
use Rattle.rd_points.specs.declared.classes.Class.{Class}
use Rattle.rd_points.specs.Classes.{bits_of, classes_conflict}

-- none, or one of the first n slots
abbrev pub IsSlot : ℕ → Option ℕ → Type 0
IsSlot n s = (s ≡ None) ⊎ ((i : ℕ) × (i < n) × (s ≡ Some i))

-- the value of a slot, or none
abbrev pub value_of_slot : List Value → Option ℕ → Option Value
value_of_slot slots None = None
value_of_slot slots (Some i) = slice_get slots i

-- the class that a call touches, plain or with one of its slots
abbrev pub class_of : SpecifiedKind → ℕ → List Value → Option ℕ → Class
class_of kind m slots s = record { method = m; bits = bits_of (method_predicates kind m) slots; slot = s }

-- two calls on one object touch points that conflict: their classes do, and their values are equal or there are none
abbrev pub Meets : SpecifiedKind → ℕ → List Value → ℕ → List Value → Type 0
Meets kind m a n b = (s t : Option ℕ) × IsSlot (slots_at kind.methods m) s × IsSlot (slots_at kind.methods n) t
    × (classes_conflict kind (class_of kind m a s) (class_of kind n b t) ≡ true) × (value_of_slot a s ≡ value_of_slot b t)
