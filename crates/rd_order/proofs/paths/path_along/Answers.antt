use Rattle.std.proofs.Common.{◌≡◌, ◌∷◌, ◌++◌, [], Some, ap, arith, inr, subst, ◌∙◌}
use Rattle.rd_order.specs.Paths.{GoesFarthest, IsFarthest}
use Rattle.rd_order.proofs.FarthestLemmas.{comes_within, goes_comes, goes_on, reaches_of}
use Rattle.rd_order.proofs.NextLemmas.{no_step}
use Rattle.rd_order.proofs.paths.path_along.Goals as goal

pub returns-in_default-clause-none : goal.returns-in_default-clause-none
returns-in_default-clause-none c =
    let es = c.args.events.now in let j = c.args.j in let last = c.loop-last.last in let trail = c.loop-last.invariant.trail in
    λ reaches. no_step es j last (subst (IsFarthest es j last) c.in_default.is (c.step.ensures.farthest es c.requires.known))
    (reaches_of es j last c.loop-last-test.true (goes_comes es j c.args.i last trail.0 (inr reaches) trail.2))

pub loop-last-preserved : goal.loop-last-preserved
loop-last-preserved c =
    let es = c.args.events.now in let j = c.args.j in let last = c.loop-last.last in let next = c.in-Some.next in
    let is : IsFarthest es j last (Some next) =
    subst (IsFarthest es j last) c.in-Some.is (c.step.ensures.farthest es c.requires.known) in
    let trail = c.loop-last.invariant.trail in
    let rises = is.0.0.rises in
    record {
      from = omega (arith, rises, c.loop-last.invariant.from);
      to = comes_within es j next is.0.1;
      trail = (trail.0 ++ next ∷ [], c.in_ok-push-2.ensures.ok ∙ ap (λ l. l ++ next ∷ []) trail.1, goes_on es j c.args.i last next trail.0 trail.2 is);
    }

pub returns-clause-farthest : goal.returns-clause-farthest
returns-clause-farthest c =
    let trail = c.loop-last.invariant.trail in
    let there : c.loop-last.last ≡ c.args.j = omega (arith, c.loop-last.invariant.to, c.loop-last-test.false) in
    (trail.0, trail.1, subst (GoesFarthest c.args.events.now c.args.j c.args.i trail.0) there trail.2)
