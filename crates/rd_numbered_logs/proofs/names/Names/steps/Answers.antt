use Rattle.std.proofs.Common.{◌<◌, ◌+◌, ◌++◌, ◌∷◌, [], take, length, sym, ap, subst, ◌∙◌, arith}
use Rattle.rd_numbered_logs.specs.LogNames.{mentioning}
use Rattle.rd_numbered_logs.specs.Numbering.{AreSteps, IsFrontOf}
use Rattle.rd_numbered_logs.proofs.NameLemmas.{item_taken, mentions_more}
use Rattle.rd_numbered_logs.proofs.StepLemmas.{front_mention, steps_more, threads_longer}
use Rattle.rd_numbered_logs.proofs.names.Names.steps.Goals as goal

pub loop-noted-preserved : goal.loop-noted-preserved
loop-noted-preserved c =
    let i = c.loop-noted.noted-index in
    let here : i < length c.args.events.now = grind arith in
    let taken = item_taken c.args.events.now i c.noted-item.result here c.noted-item.is in
    record {
      names = c.in_ok-step.ensures.names ∙ ap (λ names. mentioning names c.noted-item.result.event) c.loop-noted.invariant.names ∙ sym (mentions_more c.args.self.now c.args.events.now i c.noted-item.result here c.noted-item.is);
      steps = subst (AreSteps c.step.new.self c.args.thread (take (i + 1) c.args.events.now)) (sym c.in_ok-push.ensures.items)
          (subst (λ events. AreSteps c.step.new.self c.args.thread events (c.loop-noted.steps.items ++ c.in_ok-step.field-0 ∷ [])) (sym taken)
          (steps_more _ c.step.new.self c.args.thread _ c.noted-item.result c.loop-noted.steps.items c.in_ok-step.field-0 c.in_ok-step.ensures.names c.loop-noted.invariant.steps c.in_ok-step.ensures.step c.in_ok-step.ensures.among));
      known = let longer = threads_longer _ c.step.new.self (subst (IsFrontOf _) (sym c.in_ok-step.ensures.names) (front_mention _ c.noted-item.result.event)) in omega (arith, longer, c.loop-noted.invariant.known);
    }
