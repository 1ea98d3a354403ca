-- What the kinds that are built in are made of: this project's profile.
use Rattle.std.specs.Prelude.{ℕ, ◌*◌, List, [], ◌∷◌, length, replicate, None}
use Rattle.rd_ecl.specs.declared.formulas.Rel.TheVariants.{Eq}
use Rattle.rd_ecl.specs.declared.formulas.Side.{Side}
use Rattle.rd_ecl.specs.declared.formulas.Term.{Term}
use Rattle.rd_ecl.specs.declared.formulas.Term.TheVariants.{Slot}
use Rattle.rd_ecl.specs.declared.kinds.Method.{Method}
use Rattle.rd_ecl.specs.Formulas.{Tree, atom, cross}
use Rattle.rd_ecl.specs.Specified.{SpecifiedKind, with_pair}
use Rattle.rd_base.specs.declared.limits.TheConstants.{MOST_METHODS}

-- a method, by its name, and its variables, of which the last names the result
abbrev pub method : List ℕ → List (List ℕ) → Method
method name variables = record { name = name; variables = variables }

-- a pair of methods, by their numbers, with its formula
abbrev pub Pair : Type 0
Pair = ℕ × ℕ × Tree

-- the kind with the formulas of these pairs more
abbrev pub with_pairs : SpecifiedKind → List Pair → SpecifiedKind
with_pairs kind [] = kind
with_pairs kind (pair ∷ pairs) = with_pairs (with_pair kind pair.0 pair.1 pair.2) pairs

-- a kind of which no pair is set
abbrev pub no_pairs : List ℕ → List Method → SpecifiedKind
no_pairs name methods = record { name = name; methods = methods; pairs = replicate (MOST_METHODS * length methods) None }

-- a slot of a side equals a term
abbrev pub equals : Side → ℕ → Term → Tree
equals side slot term = atom side Eq (Slot slot) term

-- the first slots of the sides differ
abbrev pub firsts_differ : Tree
firsts_differ = cross 0 0
