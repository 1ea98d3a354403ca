-- Access points by themselves: which are the same, and which conflict by a table. This project's profile.
use Rattle.std.specs.Prelude.{◌≡◌, ℕ, ◌+◌, ◌*◌, Bool, Contains, List, [], ◌∷◌, ◌++◌, Option, Some}
use Rattle.std.specs.Hash as fed
use Rattle.rd_base.specs.Hashing.{text_input}
use Rattle.rd_base.specs.declared.values.Value.{Value}
use Rattle.rd_base.specs.declared.values.Value.TheVariants.{Int, Text}
use Rattle.rd_points.specs.contracts.points.PointPartialEq.TheImpl as point_eq
use Rattle.rd_points.specs.declared.points.Point.{Point}
use Rattle.rd_points.specs.Tables.{PointTable, conflicts_at}

-- two points are the same, as the code compares them
unfoldable pub same_point : Point → Point → Bool
same_point = (point_eq.ghosts).eq

-- what a value adds to what a point is hashed by
abbrev pub value_input : Option Value → List (List ℕ)
value_input (Some (Int number)) = fed.i64 number
value_input (Some (Text bytes)) = text_input bytes
value_input value = []

-- what a point is hashed by: its object and class as one number, then its value
abbrev pub point_input : ℕ → ℕ → Option Value → List (List ℕ)
point_input object class value = fed.u64 (object * 4294967296 + class) ++ value_input value

-- two points conflict by the table of their kind: they are of one object, their classes conflict, and their values are equal or there are none
pub record PointsConflict (table : PointTable) (a b : Point) : Type 0 where
  pub object : a.object ≡ b.object
  pub classes : Contains (conflicts_at table a.class) b.class
  pub values : a.value ≡ b.value
