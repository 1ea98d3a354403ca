-- Slots that stand in the pairs of a reduced formula: this project's profile.
use Rattle.std.specs.Prelude.{◌==◌, ℕ, Bool, false}
use Rattle.std.specs.List.{list_any}
use Rattle.rd_ecl.specs.declared.reduction.Reduced.{Reduced}
use Rattle.rd_ecl.specs.declared.reduction.Reduced.TheVariants.{True, False, Pairs}

-- a pair has the slot on side 1
abbrev pub has_first : Reduced → ℕ → Bool
has_first True slot = false
has_first False slot = false
has_first (Pairs pairs) slot = list_any (λ pair. pair.0 == slot) pairs

-- a pair has the slot on side 2
abbrev pub has_second : Reduced → ℕ → Bool
has_second True slot = false
has_second False slot = false
has_second (Pairs pairs) slot = list_any (λ pair. pair.1 == slot) pairs
