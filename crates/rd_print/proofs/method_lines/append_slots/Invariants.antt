use Rattle.std.proofs.Common.{◌≡◌, ◌++◌, drop}
use Rattle.rd_print.proofs.LineLemmas.{arguments_text}
use Rattle.rd_print.proofs.method_lines.append_slots.Given as goal

abbrev pub invariant-loop-argument : goal.invariant-loop-argument
invariant-loop-argument l = l.initial.text ++ arguments_text l.arguments ≡ l.text ++ arguments_text (drop l.argument-index l.arguments)
