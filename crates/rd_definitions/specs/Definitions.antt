-- The definitions of one method, which give names to formulas of its calls: this project's profile.
use Rattle.std.specs.Prelude.{ℕ, ◌≡◌, nat_eq, false, if◌then◌else◌, List, [], ◌∷◌, map, Option, Some, None}
use Rattle.std.specs.Cmp.Lexicographic.{pointwise}
use Rattle.rd_ecl.specs.declared.formulas.Formula.{Formula}
use Rattle.rd_ecl.specs.Formulas.{Tree, crosses_sides, tree_of}
use Rattle.rd_ecl.specs.Specified.{IsPair}

-- a defined name and its formula
pub record Definition : Type 0 where
  pub name : List ℕ
  pub formula : Tree

-- the formula that the name stands for; none where nothing is defined by it
abbrev pub formula_of : List Definition → List ℕ → Option Tree
formula_of [] name = None
formula_of (d ∷ ds) name = if pointwise nat_eq d.name name then Some d.formula else formula_of ds name

-- the names that are defined
abbrev pub names_defined : List Definition → List (List ℕ)
names_defined definitions = map (λ d. d.name) definitions

-- a formula of the calls of one method with so many slots: what a pair may have, with each relation on one side
pub record IsDefined (count : ℕ) (definition : Definition) : Type 0 where
  pub pair : IsPair definition.formula count count
  pub alone : crosses_sides definition.formula ≡ false

-- the definition that an entry of the table says
abbrev pub entry_definition : List ℕ × Formula → Definition
entry_definition entry = record { name = entry.0; formula = tree_of entry.1 }
