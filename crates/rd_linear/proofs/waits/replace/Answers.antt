use Rattle.std.proofs.Common.{◌≡◌, ◌<◌, ◌++◌, ◌∷◌, [], Some, length, slice_set, ap, arith, subst, sym, ◌∙◌}
use Rattle.std.specs.Prelude.{slice_get}
use Rattle.std.proofs.lemmas.Option.{slice_get-get_or}
use Rattle.rd_linear.specs.Noting.{IsReplaced}
use Rattle.rd_linear.proofs.NotingLemmas.{replaced_at, replaced_last}
use Rattle.rd_linear.proofs.waits.replace.Goals as goal

pub returns-then-is_of : goal.returns-then-is_of
returns-then-is_of c =
    let es = c.args.events.now in let old = c.args.places.now.items in let now = c.loop-at.places in let at = c.loop-at.at in
    let inside : at < length now.items = omega (arith, c.loop-at-test.true, c.len-at-end.ensures, c.loop-at.auto.at-end, ap length c.loop-at.invariant, now.ok.0, c.args.places.now.ok.0) in
    let is : slice_get old at ≡ Some c.index.result.now = ap (λ l. slice_get l at) (sym c.loop-at.invariant) ∙ (slice_get-get_or now.items at c.index.result.now inside ∙ ap Some (sym c.index.ensures)) in
    subst (λ l. IsReplaced es c.args.thread c.args.place old (slice_set l at c.args.place)) (sym c.loop-at.invariant)
    (replaced_at es c.args.thread c.args.place old at c.index.result.now is (c.is_of.ensures c.if-is_of.true))

pub returns : goal.returns
returns c =
    let es = c.args.events.now in let old = c.args.places.now.items in
    subst (IsReplaced es c.args.thread c.args.place old) (sym c.in_ok-push.ensures.items)
    (subst (λ l. IsReplaced es c.args.thread c.args.place old (l ++ c.args.place ∷ [])) (sym c.loop-at.invariant) (replaced_last es c.args.thread c.args.place old))
