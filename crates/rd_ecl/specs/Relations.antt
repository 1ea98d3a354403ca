-- The distinct relations that a count of them has found.
use Rattle.std.specs.Prelude.{ℕ, ◌≡◌, ◌+◌, ◌<◌, ◌≤◌, List, [], ◌∷◌, ◌++◌, length, take, flat_map, min, max, Bool, true, false, Option, Some, None}
use Rattle.rd_ecl.specs.declared.formulas.Predicate.{Predicate}
use Rattle.rd_ecl.specs.declared.relations.Relation.{Relation}
use Rattle.rd_ecl.specs.declared.relations.Relations.{Relations}
use Rattle.rd_ecl.specs.Formulas.{distinct_from}
use Rattle.rd_ecl.specs.Specified.{SpecifiedKind, predicates_at}
use Rattle.rd_base.specs.declared.limits.TheConstants.{MOST_PREDICATES}

abbrev pub kept_predicate : Relation → Predicate
kept_predicate relation = record { rel = relation.rel; left = relation.left.now; right = relation.right.now }

-- what stands in a place
abbrev pub in_place : Option Relation → List Predicate
in_place (Some relation) = kept_predicate relation ∷ []
in_place None = []

-- the relations that are kept
abbrev pub kept_relations : Relations → List Predicate
kept_relations seen = flat_map in_place (take seen.taken seen.places)

-- each place that is taken has a relation
pub record RelationsAreCounted (seen : Relations) : Type 0 where
  pub few : seen.taken ≤ MOST_PREDICATES
  pub count : length (kept_relations seen) ≡ seen.taken

-- those of the list that aren't among the old ones come behind these; there is nothing where that makes more than 5
abbrev pub Gathers : List Predicate → List Predicate → Option Relations → Type 0
Gathers old more (Some seen) = RelationsAreCounted seen × (kept_relations seen ≡ old ++ distinct_from old more)
Gathers old more None = MOST_PREDICATES < length old + length (distinct_from old more)

-- the relations, if there was room for all
abbrev pub with_room : Bool → Relations → Option Relations
with_room true seen = Some seen
with_room false seen = None

-- what the formula of a method and another says of it alone
abbrev pub part_of : SpecifiedKind → ℕ → ℕ → List Predicate
part_of kind method other = predicates_at kind method (min method other, max method other)
