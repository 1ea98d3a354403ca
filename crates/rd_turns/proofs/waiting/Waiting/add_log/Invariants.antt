use Rattle.std.proofs.Common.{◌≡◌, ℕ, ◌<◌, Some}
use Rattle.std.specs.Prelude.{slice_get}
use Rattle.rd_turns.specs.declared.logs.Step.{Step}
use Rattle.rd_turns.specs.Waiting.{HasMore, KnowsStep}
use Rattle.rd_turns.proofs.waiting.Waiting.add_log.Given as goal

abbrev pub invariant-loop-step : goal.invariant-loop-step
invariant-loop-step l = record {
  more : HasMore l.fn.self l.self;
  own : HasMore l.initial.self l.self;
  steps : (p : ℕ) (step : Step) → p < l.step-index → slice_get l.step-items p ≡ Some step → KnowsStep l.self l.log step;
}
