use Rattle.std.proofs.Common.{◌≡◌, ◌++◌}
use Rattle.std.specs.Prelude.{drop, flat_map}
use Rattle.rd_adjacent_command.specs.Outcomes.{place_text}
use Rattle.rd_adjacent_command.proofs.reporting.append_places.Given as goal

abbrev pub invariant-loop-place : goal.invariant-loop-place
invariant-loop-place l = l.initial.text ++ flat_map (place_text l.lines) l.places ≡ l.text ++ flat_map (place_text l.lines) (drop l.place-index l.places)
