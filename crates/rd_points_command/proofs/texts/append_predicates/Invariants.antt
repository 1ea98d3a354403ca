use Rattle.std.proofs.Common.{◌≡◌, ◌++◌}
use Rattle.rd_points.specs.Classes.{joined}
use Rattle.rd_points_command.specs.PointTexts.{predicate_line_at}
use Rattle.rd_points_command.proofs.texts.append_predicates.Given as goal

abbrev pub invariant-loop-number : goal.invariant-loop-number
invariant-loop-number l = l.text ≡ l.initial.text ++ joined (predicate_line_at l.kind l.table l.method) l.number
