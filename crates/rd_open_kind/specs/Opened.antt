-- A kind of a specification's text whose lines are read: this project's profile.
use Rattle.std.specs.Prelude.{ℕ, ◌≡◌, ◌<◌, All, Bool, List, [], ◌∷◌, ◌++◌, length, set, slice_index_or, Option, Some, None}
use Rattle.rd_definitions.specs.Definitions.{Definition, IsDefined}
use Rattle.rd_ecl.specs.declared.kinds.Method.{Method}
use Rattle.rd_ecl.specs.Formulas.{Tree}
use Rattle.rd_ecl.specs.Specified.{SpecifiedKind, slots_at, with_method, with_pair}
use Rattle.rd_open_kind.specs.Filled.{filled_with}

-- what stands of the kind so far, the definitions of each of its methods, and what a pair without a line gets
pub record Opened : Type 0 where
  pub kind : SpecifiedKind
  pub defined : List (List Definition)
  pub default : Option Bool

-- the kind that its lines say
abbrev pub filled : Opened → SpecifiedKind
filled opened = filled_with opened.default opened.kind

-- the definitions of the method with this number
abbrev pub definitions_at : List (List Definition) → ℕ → List Definition
definitions_at defined number = slice_index_or defined number []

-- as many as methods, each of its method's slots
pub record AreItsDefinitions (kind : SpecifiedKind) (defined : List (List Definition)) : Type 0 where
  pub count : length defined ≡ length kind.methods
  pub each : (number : ℕ) → number < length kind.methods → All (IsDefined (slots_at kind.methods number)) (definitions_at defined number)

-- behind the line of its name
abbrev pub kind_named : List ℕ → Opened
kind_named name = record { kind = record { name = name; methods = []; pairs = [] }; defined = []; default = None }

-- behind one line more: of a method, a pair, a definition, the default
abbrev pub with_method_in : Opened → Method → Opened
with_method_in opened method = record opened { kind = with_method opened.kind method; defined = opened.defined ++ [] ∷ [] }

abbrev pub with_pair_in : Opened → ℕ → ℕ → Tree → Opened
with_pair_in opened first second formula = record opened { kind = with_pair opened.kind first second formula }

abbrev pub with_definition : Opened → ℕ → Definition → Opened
with_definition opened number definition =
    record opened { defined = set opened.defined number (definitions_at opened.defined number ++ definition ∷ []) }

abbrev pub with_default : Opened → Bool → Opened
with_default opened value = record opened { default = Some value }
