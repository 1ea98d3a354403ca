use Rattle.std.proofs.Common.{arith, sym, ◌∙◌}
use Rattle.rd_adjacent.proofs.ReachLemmas.{late_not, told}
use Rattle.rd_adjacent.proofs.order.reaches.Goals as goal

pub returns-then-place-j : goal.returns-then-place-j
returns-then-place-j c = sym (late_not c.args.events.now c.args.place c.args.j (omega (arith, c.if-place-j.true)))

pub returns : goal.returns
returns c =
    c.is_some.ensures ∙ told c.args.events.now c.args.place c.args.j c.step.result (c.step.ensures.reaches c.args.events.now c.requires.known)
