use Rattle.std.proofs.Common.{◌≡◌, ◌++◌, drop}
use Rattle.rd_report.specs.States.{entries_text}
use Rattle.rd_report.proofs.states.append_pairs.Given as goal

abbrev pub invariant-loop-pair : goal.invariant-loop-pair
invariant-loop-pair l = l.initial.text ++ entries_text l.pairs ≡ l.text ++ entries_text (drop l.pair-index l.pairs)
