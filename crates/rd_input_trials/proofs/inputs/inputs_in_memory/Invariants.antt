use Rattle.std.proofs.Common.{◌≡◌}
use Rattle.rd_input_trials.proofs.inputs.inputs_in_memory.Given as goal

abbrev pub invariant-loop-step : goal.invariant-loop-step
invariant-loop-step g l = (l.desk.second ≡ l.initial.desk.second) × (l.inputs.files ≡ l.initial.inputs.files)
