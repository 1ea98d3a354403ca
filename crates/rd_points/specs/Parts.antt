-- Formulas of two methods by what they reduce to, for each valuation: this project's profile.
use Rattle.std.specs.Prelude.{◌≡◌, ℕ, Bool, true, false, ◌||◌, List, [], Option, Some, None, slice_get, slice_index_or, ⊤}
use Rattle.rd_ecl.specs.declared.formulas.Predicate.{Predicate}
use Rattle.rd_ecl.specs.declared.formulas.Side.{Side}
use Rattle.rd_ecl.specs.declared.formulas.Side.TheVariants.{First as Side1, Second as Side2}
use Rattle.rd_ecl.specs.declared.reduction.Reduced.{Reduced}
use Rattle.rd_ecl.specs.declared.reduction.Reduced.TheVariants.{True, False, Pairs}
use Rattle.rd_ecl.specs.Formulas.{Tree, truth, atom, cross, mixed, negation, both, either}
use Rattle.rd_ecl.specs.Reduction.{reduce_of}
use Rattle.rd_ecl.specs.Specified.{SpecifiedKind}
use Rattle.rd_points.specs.declared.parts.Part.{Part}
use Rattle.rd_points.specs.declared.parts.Part.TheVariants.{First, Second, Both', Either', Unknown}
use Rattle.rd_points.specs.Classes.{reduced_pair}

abbrev pub same_side : Side → Side → Bool
same_side Side1 Side1 = true
same_side Side2 Side2 = true
same_side _ _ = false

-- the formula reads a predicate of this side
abbrev pub reads : Side → Tree → Bool
reads side (truth value) = false
reads side (atom other rel left right) = same_side side other
reads side (cross first second) = false
reads side (mixed rel flipped first second) = false
reads side (negation f) = reads side f
reads side (both f g) = reads side f || reads side g
reads side (either f g) = reads side f || reads side g

-- what both reduce to; none where it isn't known, or has the pairs of both
abbrev pub both_known : Option Reduced → Option Reduced → Option Reduced
both_known None y = None
both_known (Some False) y = Some False
both_known (Some True) y = y
both_known (Some (Pairs xs)) None = None
both_known (Some (Pairs xs)) (Some False) = Some False
both_known (Some (Pairs xs)) (Some True) = Some (Pairs xs)
both_known (Some (Pairs xs)) (Some (Pairs ys)) = None

-- what either reduces to; none where it isn't known, or has the pairs of both
abbrev pub either_known : Option Reduced → Option Reduced → Option Reduced
either_known None y = None
either_known (Some True) y = Some True
either_known (Some False) y = y
either_known (Some (Pairs xs)) None = None
either_known (Some (Pairs xs)) (Some True) = Some True
either_known (Some (Pairs xs)) (Some False) = Some (Pairs xs)
either_known (Some (Pairs xs)) (Some (Pairs ys)) = None

-- what a formula reduces to for these valuations, if it is known
abbrev pub known : Part → ℕ → ℕ → Option Reduced
known (First table) v w = slice_get table.items v
known (Second table) v w = slice_get table.items w
known (Both' p f q g) v w = both_known (known f v w) (known g v w)
known (Either' p f q g) v w = either_known (known f v w) (known g v w)
known Unknown v w = None

-- it is that, if it is known
abbrev pub Agrees : Option Reduced → Reduced → Type 0
Agrees None r = ⊤
Agrees (Some x) r = x ≡ r

-- what is known of the part is what the formula reduces to, whose sides have these predicates
abbrev pub IsPartOf : Part → Tree → List Predicate → List Predicate → Type 0
IsPartOf part f p q = (v w : ℕ) → Agrees (known part v w) (reduce_of f p v q w)

-- the formulas with this method on side 2, by the method on side 1
abbrev pub IsRow : SpecifiedKind → ℕ → List Part → Type 0
IsRow kind n parts = (m v w : ℕ) → Agrees (known (slice_index_or parts m Unknown) v w) (reduced_pair kind m v n w)

-- those of a kind, by the method on side 2
abbrev pub AreRows : SpecifiedKind → List (List Part) → Type 0
AreRows kind rows = (n : ℕ) → IsRow kind n (slice_index_or rows n [])

abbrev pub part_in : List (List Part) → ℕ → ℕ → Part
part_in rows m n = slice_index_or (slice_index_or rows n []) m Unknown
