use Rattle.std.proofs.Common.{◌≡◌, ◌++◌, drop}
use Rattle.rd_report.specs.States.{values_text}
use Rattle.rd_report.proofs.states.append_values.Given as goal

abbrev pub invariant-loop-value : goal.invariant-loop-value
invariant-loop-value l = l.initial.text ++ values_text l.values ≡ l.text ++ values_text (drop l.value-index l.values)
