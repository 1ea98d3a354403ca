use Rattle.std.proofs.Common.{◌≡◌, ◌++◌, drop}
use Rattle.std.specs.Prelude.{flat_map}
use Rattle.rd_ecl.specs.Relations.{in_place, kept_relations}
use Rattle.rd_ecl.proofs.relations.Relations.to_predicates.Given as goal

abbrev pub invariant-loop-place : goal.invariant-loop-place
invariant-loop-place l = l.copies ++ flat_map in_place (drop l.place-index l.place-items) ≡ kept_relations l.self
