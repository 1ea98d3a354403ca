use Rattle.std.proofs.Common.{◌≡◌, ◌++◌, drop}
use Rattle.rd_points_command.specs.PointTexts.{numbers_text}
use Rattle.rd_points_command.proofs.texts.append_numbers.Given as goal

abbrev pub invariant-loop-number : goal.invariant-loop-number
invariant-loop-number l = l.initial.text ++ numbers_text l.numbers ≡ l.text ++ numbers_text (drop l.number-index l.numbers)
