-- A kind in which a default stands for each pair of methods without a formula: this project's profile.
use Rattle.std.specs.Prelude.{ℕ, ◌/◌, ◌%◌, nat_le, Bool, if◌then◌else◌, List, length, map, slice_index_or, Option, Some, None}
use Rattle.std.specs.List.{range_with_len}
use Rattle.std.specs.Option.{option_or}
use Rattle.rd_base.specs.declared.limits.TheConstants.{MOST_METHODS}
use Rattle.rd_ecl.specs.Formulas.{Tree, truth}
use Rattle.rd_ecl.specs.Specified.{SpecifiedKind}

-- what stands at a place of the pairs: that of two methods in their order has the default where it has no formula
abbrev pub pair_or : Bool → List (Option Tree) → ℕ → Option Tree
pair_or value pairs place =
    if nat_le (place % MOST_METHODS) (place / MOST_METHODS) then option_or (slice_index_or pairs place None) (Some (truth value))
    else slice_index_or pairs place None

-- the kind with the default for each pair without a formula; as it is where there is no default
unfoldable pub filled_with : Option Bool → SpecifiedKind → SpecifiedKind
filled_with None kind = kind
filled_with (Some value) kind = record kind { pairs = map (pair_or value kind.pairs) (range_with_len 0 (length kind.pairs)) }
