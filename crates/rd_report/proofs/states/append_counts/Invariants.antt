use Rattle.std.proofs.Common.{◌≡◌, ◌++◌, drop}
use Rattle.rd_report.specs.States.{counts_text}
use Rattle.rd_report.proofs.states.append_counts.Given as goal

abbrev pub invariant-loop-counted : goal.invariant-loop-counted
invariant-loop-counted l = l.initial.text ++ counts_text l.counts ≡ l.text ++ counts_text (drop l.counted-index l.counts)
