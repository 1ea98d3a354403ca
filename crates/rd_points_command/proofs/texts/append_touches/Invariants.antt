use Rattle.std.proofs.Common.{◌≡◌, ◌++◌, drop}
use Rattle.rd_points_command.specs.PointTexts.{touches_text}
use Rattle.rd_points_command.proofs.texts.append_touches.Given as goal

abbrev pub invariant-loop-touch : goal.invariant-loop-touch
invariant-loop-touch l = l.initial.text ++ touches_text l.variables l.touches ≡ l.text ++ touches_text l.variables (drop l.touch-index l.touches)
