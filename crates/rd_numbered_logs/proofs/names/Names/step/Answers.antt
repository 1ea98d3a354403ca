use Rattle.std.proofs.Common.{ap, sym, ◌∙◌}
use Rattle.rd_numbered_logs.specs.Numbering.{step_with}
use Rattle.rd_numbered_logs.proofs.NameLemmas.{number_kept}
use Rattle.rd_turns.specs.declared.logs.Step.TheVariants.{Fork, Join, Acquire, Release, Call}
use Rattle.rd_numbered_logs.proofs.names.Names.step.Goals as goal

pub returns-in_ok-number_of-in-Fork-clause-step : goal.returns-in_ok-number_of-in-Fork-clause-step
returns-in_ok-number_of-in-Fork-clause-step c = λ all front.
    ap Fork (number_kept _ _ _ _ front.threads c.in_ok-number_of-in-Fork.ensures.number c.in_ok-number_of-in-Fork.ensures.within)
    ∙ ap (step_with all c.args.thread c.args.noted.now.number) (sym c.in-Fork.is)

pub returns-in_ok-number_of-in-Join-clause-step : goal.returns-in_ok-number_of-in-Join-clause-step
returns-in_ok-number_of-in-Join-clause-step c = λ all front.
    ap Join (number_kept _ _ _ _ front.threads c.in_ok-number_of-in-Join.ensures.number c.in_ok-number_of-in-Join.ensures.within)
    ∙ ap (step_with all c.args.thread c.args.noted.now.number) (sym c.in-Join.is)

pub returns-in_ok-number_of-in-Release-clause-step : goal.returns-in_ok-number_of-in-Release-clause-step
returns-in_ok-number_of-in-Release-clause-step c = λ all front.
    ap Release (number_kept _ _ _ _ front.locks c.in_ok-number_of-in-Release.ensures.number c.in_ok-number_of-in-Release.ensures.within)
    ∙ ap (step_with all c.args.thread c.args.noted.now.number) (sym c.in-Release.is)

pub returns-in_ok-number_of-in-Call-clause-step : goal.returns-in_ok-number_of-in-Call-clause-step
returns-in_ok-number_of-in-Call-clause-step c = λ all front.
    ap Call (number_kept _ _ _ _ front.objects c.in_ok-number_of-in-Call.ensures.number c.in_ok-number_of-in-Call.ensures.within)
    ∙ ap (step_with all c.args.thread c.args.noted.now.number) (sym c.in-Call.is)

pub returns-in_ok-lock-in-Acquire-clause-step : goal.returns-in_ok-lock-in-Acquire-clause-step
returns-in_ok-lock-in-Acquire-clause-step c = λ all front.
    ap (λ lock. Acquire lock c.args.noted.now.number) (number_kept _ _ _ _ front.locks c.in_ok-lock-in-Acquire.ensures.number c.in_ok-lock-in-Acquire.ensures.within)
    ∙ ap (step_with all c.args.thread c.args.noted.now.number) (sym c.in-Acquire.is)
