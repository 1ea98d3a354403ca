use Rattle.std.proofs.Common.{ℕ, Bool, take, drop}
use Rattle.rd_line_trials.specs.Traces.{MayTakeAll}
use Rattle.rd_line_trials.proofs.TrackerLemmas.{Took}
use Rattle.rd_line_trials.proofs.clocks.calls_have_rows.Given as goal

abbrev pub invariant-loop-i : goal.invariant-loop-i
invariant-loop-i g l = (roots : ℕ → Bool) → MayTakeAll l.initial.tracker roots l.events → Took l.tracker roots (take l.i l.events) (drop l.i l.events)
