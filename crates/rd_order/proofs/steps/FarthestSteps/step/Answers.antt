use Rattle.std.proofs.Common.{◌-◌, None, ap, subst, sym, ◌∙◌}
use Rattle.std.specs.Prelude.{slice_index_or}
use Rattle.rd_order.specs.Paths.{IsFarthest}
use Rattle.rd_order.proofs.FarthestLemmas.{step_told}
use Rattle.rd_order.proofs.StepLemmas.{step_at}
use Rattle.rd_order.proofs.steps.FarthestSteps.step.Goals as goal

pub returns-clause-farthest : goal.returns-clause-farthest
returns-clause-farthest c = λ es are.
    subst (IsFarthest es c.args.j c.args.place) (ap (λ l. slice_index_or l (c.args.j - c.args.place - 1) None) (sym (c.as_slice-steps.ensures.value ∙ c.self.view_is)))
    (step_at es c.args.j c.args.place c.args.self.now are c.requires.below c.requires.inside)

pub returns-clause-reaches : goal.returns-clause-reaches
returns-clause-reaches c = λ es are.
    step_told es c.args.j c.args.place (slice_index_or c.as_slice-steps.result.now (c.args.j - c.args.place - 1) None)
    (subst (IsFarthest es c.args.j c.args.place) (ap (λ l. slice_index_or l (c.args.j - c.args.place - 1) None) (sym (c.as_slice-steps.ensures.value ∙ c.self.view_is)))
    (step_at es c.args.j c.args.place c.args.self.now are c.requires.below c.requires.inside))
