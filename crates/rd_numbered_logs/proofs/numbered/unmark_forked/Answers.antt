use Rattle.std.proofs.Common.{◌<◌, ◌∙◌, length, get_or, arith}
use Rattle.std.proofs.lemmas.List.{get_or_default}
use Rattle.rd_turns.specs.declared.logs.Step.{Step}
use Rattle.rd_turns.specs.declared.logs.Step.TheVariants.{Fork}
use Rattle.rd_numbered_logs.specs.Numbering.{step_forks}
use Rattle.rd_numbered_logs.proofs.MarkLemmas.{and_then, any_more}
use Rattle.rd_numbered_logs.proofs.numbered.unmark_forked.Goals as goal

pub loop-step-preserved : goal.loop-step-preserved
loop-step-preserved c =
    let here : c.loop-step.step-index < length c.args.steps.now = grind arith in
    let step : Step = get_or c.args.steps.now c.loop-step.step-index (Fork 0) in
    record {
      marks = λ thread. and_then _ _ (step_forks thread step) _ _ _ (c.loop-step.invariant.marks thread) (c.unmark.ensures.marks thread)
          (any_more (step_forks thread) c.args.steps.now c.loop-step.step-index step here (get_or_default c.args.steps.now c.loop-step.step-index (Fork 0) step here));
      count = c.unmark.ensures.count ∙ c.loop-step.invariant.count;
    }
