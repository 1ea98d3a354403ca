use Rattle.std.proofs.Common.{arith, ap, length, ◌∙◌}
use Rattle.std.proofs.lemmas.List.{length-replicate}
use Rattle.rd_linear.proofs.AskingLemmas.{all_asked, asked_more, has_one, none_asked}
use Rattle.rd_linear.proofs.lanes.ask_all.Goals as goal

pub loop-at-init : goal.loop-at-init
loop-at-init c = none_asked c.args.waits.now c.args.seen.now c.args.lanes.now c.in_ok-ranks.ranks (ap length c.in_ok-ranks.ensures ∙ length-replicate (length c.args.lanes.now) _)

pub loop-at-preserved : goal.loop-at-preserved
loop-at-preserved c =
    let lanes = c.args.lanes.now in let one = has_one lanes c.loop-at.at c.loop-at-test.true in
    asked_more c.args.waits.now c.args.seen.now lanes c.loop-at.ranks c.ask.new.ranks c.loop-at.at c.loop-at-test.true c.loop-at.invariant c.ask.ensures one.0 one.1

pub returns : goal.returns
returns c = all_asked c.args.waits.now c.args.seen.now c.args.lanes.now c.loop-at.ranks c.loop-at.at (omega (arith, c.loop-at-test.false)) c.loop-at.invariant
