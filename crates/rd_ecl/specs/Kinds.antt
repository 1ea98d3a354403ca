-- Kinds of objects and their methods, as a trace knows them: this project's profile.
use Rattle.std.specs.Prelude.{ℕ, List, [], length, map, slice_get, unwrap_or, option_map}
use Rattle.rd_ecl.specs.declared.kinds.Method.{Method}
use Rattle.rd_ecl.specs.Specified.{SpecifiedKind}

-- a method, by its name: how many slots its calls have, its arguments and then its result
pub record KindMethod : Type 0 where
  pub name : List ℕ
  pub slots : ℕ

-- a kind, by its name, and its methods
pub record Kind : Type 0 where
  pub name : List ℕ
  pub methods : List KindMethod

abbrev pub kind_names : List Kind → List (List ℕ)
kind_names kinds = map (λ kind. kind.name) kinds

abbrev pub method_names : List KindMethod → List (List ℕ)
method_names methods = map (λ method. method.name) methods

-- the methods of the kind with this number; none where no kind has it
abbrev pub methods_at : List Kind → ℕ → List KindMethod
methods_at kinds number = unwrap_or (option_map (λ kind. kind.methods) (slice_get kinds number)) []

-- how many slots the method with this number has; 0 where no method has it
abbrev pub kind_slots_at : List KindMethod → ℕ → ℕ
kind_slots_at methods number = unwrap_or (option_map (λ method. method.slots) (slice_get methods number)) 0

-- a method that is specified has a slot for each variable
abbrev pub method_of : Method → KindMethod
method_of method = record { name = method.name; slots = length method.variables }

abbrev pub kind_of : SpecifiedKind → Kind
kind_of kind = record { name = kind.name; methods = map method_of kind.methods }

-- the kinds that are specified, in their order
abbrev pub kinds_of : List SpecifiedKind → List Kind
kinds_of kinds = map kind_of kinds
