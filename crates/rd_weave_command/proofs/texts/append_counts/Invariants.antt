use Rattle.std.proofs.Common.{◌≡◌, ◌++◌}
use Rattle.std.specs.Prelude.{drop, flat_map}
use Rattle.rd_weave_command.specs.Outcomes.{placed_text}
use Rattle.rd_weave_command.proofs.texts.append_counts.Given as goal

abbrev pub invariant-loop-count : goal.invariant-loop-count
invariant-loop-count l = l.initial.text ++ flat_map placed_text l.counts ≡ l.text ++ flat_map placed_text (drop l.count-index l.counts)
