use Rattle.std.proofs.Common.{◌≡◌, ◌++◌}
use Rattle.rd_points.specs.Classes.{joined}
use Rattle.rd_points_command.specs.PointTexts.{touch_line}
use Rattle.rd_points_command.proofs.texts.append_method_touches.Given as goal

abbrev pub invariant-loop-bits : goal.invariant-loop-bits
invariant-loop-bits l = l.text ≡ l.initial.text ++ joined (touch_line l.kind l.table l.method) l.bits
