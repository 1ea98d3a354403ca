-- The order of values and of names: this project's profile.
use Rattle.std.specs.Prelude.{ℕ, List}
use Rattle.std.specs.declared.cmp.Ordering.{Ordering}
use Rattle.std.specs.declared.cmp.Ordering.TheVariants.{Less, Equal, Greater}
use Rattle.std.specs.Ordering.{nat_cmp, int_cmp, bool_cmp}
use Rattle.std.specs.Cmp.Lexicographic.{slice_cmp}
use Rattle.rd_base.specs.declared.values.Value.{Value}
use Rattle.rd_base.specs.declared.values.Value.TheVariants.{Nil, Bool as Truth, Int, Text}

-- the order of lists of bytes: the first byte that differs decides, and a list comes before the longer lists that begin with it
abbrev pub bytes_cmp : List ℕ → List ℕ → Ordering
bytes_cmp first second = slice_cmp nat_cmp first second

-- the order of values: `nil`, then `false` and `true`, then the integers by size, then the texts by their bytes
abbrev pub value_cmp : Value → Value → Ordering
value_cmp Nil Nil = Equal
value_cmp Nil (Truth second) = Less
value_cmp Nil (Int second) = Less
value_cmp Nil (Text second) = Less
value_cmp (Truth first) Nil = Greater
value_cmp (Truth first) (Truth second) = bool_cmp first second
value_cmp (Truth first) (Int second) = Less
value_cmp (Truth first) (Text second) = Less
value_cmp (Int first) Nil = Greater
value_cmp (Int first) (Truth second) = Greater
value_cmp (Int first) (Int second) = int_cmp first second
value_cmp (Int first) (Text second) = Less
value_cmp (Text first) Nil = Greater
value_cmp (Text first) (Truth second) = Greater
value_cmp (Text first) (Int second) = Greater
value_cmp (Text first) (Text second) = bytes_cmp first second
