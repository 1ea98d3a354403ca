-- The machines of kinds of objects, which run calls one after another, and the law that commuting calls may be exchanged: this
-- project's profile, after Dimitrov, Raychev, Vechev and Koskinen 2014.
use Rattle.std.specs.Prelude.{ℕ, ◌+◌, ◌<◌, ◌≡◌, ◌≢◌, true, List, [], ◌∷◌, ◌++◌, length, All, ⊤, FitsSigned}
use Rattle.std.specs.Int.{w64}
use Rattle.std.specs.List.Sorted.{IsStrictlySortedBy}
use Rattle.std.specs.Map.{keys_of}
use Rattle.rd_base.specs.Order.{value_cmp}
use Rattle.rd_base.specs.declared.values.Value.{Value}
use Rattle.rd_base.specs.declared.values.Value.TheVariants.{Nil}
use Rattle.rd_ecl.specs.Specified.{SpecifiedKind, commutes, slots_at}
use Rattle.rd_object.specs.declared.shapes.Shape.{Shape}
use Rattle.rd_object.specs.declared.shapes.Shape.TheVariants.{One, Number, Items, Map, Counts, Row}

-- what an object may hold
abbrev pub IsShape : Shape → Type 0
IsShape (One value) = ⊤
IsShape (Number number) = FitsSigned w64 number
IsShape (Items items) = IsStrictlySortedBy value_cmp items
IsShape (Map entries) = IsStrictlySortedBy value_cmp (keys_of entries) × All (λ entry. entry.1 ≢ Nil) entries
IsShape (Counts counts) = IsStrictlySortedBy value_cmp (keys_of counts) × All (λ count. 0 < count.1) counts
IsShape (Row items) = All (λ item. item ≢ Nil) items

-- what a machine does at a call
pub data Step : Type 0 where
  -- it goes to this shape, and gives this result
  goes : Shape → Value → Step
  -- it doesn't take the argument with this number, from 0
  refuses : ℕ → Step
  -- there is no such call
  unknown : Step

-- a kind's machine: the kind with its formulas, the shape of a new object, and the step from a shape by a method's number and the
-- arguments
pub record Machine : Type 0 where
  pub kind : SpecifiedKind
  pub first : Shape
  pub step : ℕ → List Value → Shape → Step

-- a call of a method of the kind with as many arguments as it has
abbrev pub IsTaken : Machine → ℕ → List Value → Type 0
IsTaken machine method arguments = (method < length machine.kind.methods) × (slots_at machine.kind.methods method ≡ length arguments + 1)

-- the machine takes the call of a method with these slots, its arguments and then its result, which is the recorded one, and goes
-- from the first shape to the second
abbrev pub Next : Machine → ℕ → List Value → Shape → Shape → Type 0
Next machine method slots old new =
    (arguments : List Value) × (result : Value) × (slots ≡ arguments ++ result ∷ []) × (machine.step method arguments old ≡ goes new result)

-- Soundness: where two calls run one after the other with their results and commute by the formulas of the kind, running them in the
-- other order gives the same results and the same shape.
abbrev pub IsSound : Machine → Type 0
IsSound machine =
    (m n : ℕ) (a b : List Value) (old between new : Shape) → IsShape old → commutes machine.kind m a n b ≡ true
    → Next machine m a old between → Next machine n b between new
    → (other : Shape) × Next machine n b old other × Next machine m a other new

-- its shapes are shapes of objects
abbrev pub KeepsShapes : Machine → Type 0
KeepsShapes machine =
    IsShape machine.first
    × ((m : ℕ) (a : List Value) (old new : Shape) → IsShape old → Next machine m a old new → IsShape new)
