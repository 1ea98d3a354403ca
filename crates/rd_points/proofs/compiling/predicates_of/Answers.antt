use Rattle.std.proofs.Common.{[], ◌∷◌, ◌++◌, length, ◌≤◌, ap, ◌∙◌, sym, subst, All}
use Rattle.std.proofs.lemmas.List.Elements.{All-push}
use Rattle.rd_ecl.specs.Specified.{method_predicates}
use Rattle.rd_points.proofs.BlockLemmas.{pushed}
use Rattle.rd_points.proofs.compiling.predicates_of.Goals as goal

pub loop-method-preserved : goal.loop-method-preserved
loop-method-preserved c =
    let old = c.loop-method.predicates.items in (
      pushed (method_predicates c.args.kind.now) [] old c.push.new.self.items c.loop-method.method
          (c.in_ok-push.ensures.items ∙ ap (λ x. old ++ x ∷ []) c.in_ok-predicates.ensures.value) c.loop-method.invariant.0,
      subst (All (λ ps. length ps ≤ 5)) (sym c.in_ok-push.ensures.items) (All-push (λ ps. length ps ≤ 5) old c.in_ok-predicates.field-0 c.loop-method.invariant.1 c.in_ok-predicates.ensures.few),
    )
