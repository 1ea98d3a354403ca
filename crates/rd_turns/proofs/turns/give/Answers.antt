use Rattle.std.proofs.Common.{Some, sym, ap, subst, ◌∙◌, arith}
use Rattle.std.proofs.lemmas.Option.{same_Some, slice_get-get_or}
use Rattle.rd_turns.specs.Waiting.{CanWake, IsListed}
use Rattle.rd_turns.proofs.NumberLemmas.{some_at}
use Rattle.rd_turns.proofs.StandingLemmas.{can_wake}
use Rattle.rd_turns.proofs.turns.give.Goals as goal

pub wake_step-requires : goal.wake_step-requires
wake_step-requires c =
    let x = some_at c.args.logs.now.logs.items c.args.log c.requires.next.inside in
    subst (λ t. CanWake c.args.waiting.now t c.args.step.now) (sym (c.place-used_up.ensures.tables x.0 x.1))
    (can_wake c.args.logs.now c.args.waiting.now c.args.tables.now c.args.log x.0 c.args.step.now c.requires.next.fits c.requires.slots c.requires.wake)

pub wake_thread-requires : goal.wake_thread-requires
wake_thread-requires c =
    let at = slice_get-get_or c.args.logs.now.logs.items c.args.log c.index.result.now c.requires.next.inside ∙ ap Some (sym c.index.ensures) in
    let in_range = c.requires.range.each c.args.log c.index.result.now at in
    omega (arith, in_range.thread, c.requires.slots.threads)

pub returns-in_ok-wake_thread-clause-left : goal.returns-in_ok-wake_thread-clause-left
returns-in_ok-wake_thread-clause-left c = λ l steps at even listed.
    let here = slice_get-get_or c.args.logs.now.logs.items c.args.log c.index.result.now c.requires.next.inside ∙ ap Some (sym c.index.ensures) in
    c.in_ok-wake_thread.ensures.woken l (subst (λ s. IsListed c.args.waiting.now.threads s.thread l) (sym (same_Some c.index.result.now steps (sym here ∙ at))) listed)
