use Rattle.std.proofs.Common.{◌≡◌, drop}
use Rattle.std.specs.Prelude.{flat_map}
use Rattle.std.specs.List.{list_any}
use Rattle.rd_ecl.specs.Formulas.{same_predicate}
use Rattle.rd_ecl.specs.Relations.{in_place, kept_relations, kept_predicate}
use Rattle.rd_ecl.proofs.relations.Relations.has.Given as goal

abbrev pub invariant-loop-place : goal.invariant-loop-place
invariant-loop-place l =
    list_any (same_predicate (kept_predicate l.relation)) (flat_map in_place (drop l.place-index l.place-items))
    ≡ list_any (same_predicate (kept_predicate l.relation)) (kept_relations l.self)
