use Rattle.std.proofs.Common.{◌≡◌, ◌++◌}
use Rattle.rd_points.specs.Classes.{joined}
use Rattle.rd_points_command.specs.PointTexts.{bit_text}
use Rattle.rd_points_command.proofs.texts.append_bits.Given as goal

abbrev pub invariant-loop-number : goal.invariant-loop-number
invariant-loop-number l = l.text ≡ l.initial.text ++ joined (bit_text l.bits) l.number
