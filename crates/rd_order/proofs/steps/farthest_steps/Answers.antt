use Rattle.std.proofs.Common.{◌≡◌, ◌+◌, ◌-◌, Some, length, slice_get, arith, ap, inl, refl, subst, sym, ◌∙◌}
use Rattle.std.proofs.lemmas.Option.{slice_get-get_or}
use Rattle.rd_order.specs.Noting.{AreNoted}
use Rattle.rd_order.specs.Paths.{AreFarthestSteps, IsFarthest}
use Rattle.rd_order.proofs.NotingLemmas.{noted_more, nothing_noted}
use Rattle.rd_order.proofs.StepLemmas.{steps_more}
use Rattle.rd_order.proofs.steps.farthest_steps.Goals as goal

pub loop-back-init : goal.loop-back-init
loop-back-init c =
    let es = c.args.events.now in let j = c.args.j in let event = c.index-events-j.result in
    let at : slice_get es j ≡ Some event = slice_get-get_or es j event c.requires.to ∙ ap Some (sym c.index-events-j.is) in
    let all : j ≡ j - 0 = omega arith in
    let count : length c.new-steps.result.items ≡ 0 = ap length c.new-steps.ensures.items in
    record {
      count = count;
      noted = subst (λ lo. AreNoted es j lo c.note.new.notes) all
          (noted_more es j j event at (inl refl) c.no_notes-notes.result c.note.new.notes
          (nothing_noted es j c.no_notes-notes.result c.no_notes-notes.ensures.threads c.no_notes-notes.ensures.acquires c.no_notes-notes.ensures.shares)
          c.in_ok-note.ensures.threads c.in_ok-note.ensures.acquires c.in_ok-note.ensures.shares);
      each = λ back inside. absurd (omega (arith, count, inside));
    }

pub loop-back-preserved : goal.loop-back-preserved
loop-back-preserved c =
    let es = c.args.events.now in let j = c.args.j in let back = c.loop-back.back in
    let here : j - back - 1 ≡ j - (back + 1) = omega arith in
    let count = c.loop-back.invariant.count in
    let last : j - back - 1 ≡ j - length c.loop-back.steps.items - 1 = omega (arith, count) in
    record {
      count = omega (arith, c.in_ok-push.ensures.len, count);
      noted = subst (λ lo. AreNoted es j lo c.pass.new.notes) here c.in_ok-next.ensures.noted;
      each = subst (AreFarthestSteps es j) (sym c.in_ok-push.ensures.items)
          (steps_more es j c.loop-back.steps.items c.in_ok-next.next c.loop-back.invariant.each
          (subst (λ p. IsFarthest es j p c.in_ok-next.next) last c.in_ok-next.ensures.step));
    }
