use Rattle.rd_report_trials.specs.Replays.{HasOne}
use Rattle.rd_report_trials.proofs.replays.replayed.Given as goal

abbrev pub invariant-loop-row : goal.invariant-loop-row
invariant-loop-row g l = HasOne l.replayer l.kind
