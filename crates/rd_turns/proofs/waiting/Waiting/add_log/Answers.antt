use Rattle.rd_turns.proofs.WaitingLemmas.{knows_next, knows_read, more_trans}
use Rattle.rd_turns.proofs.waiting.Waiting.add_log.Goals as goal

pub loop-step-preserved : goal.loop-step-preserved
loop-step-preserved c = record {
  more = more_trans c.args.self.now c.loop-step.self c.add_step.new.self c.loop-step.invariant.more c.in_ok-add_step.ensures.more;
  own = more_trans _ c.loop-step.self c.add_step.new.self c.loop-step.invariant.own c.in_ok-add_step.ensures.more;
  steps = knows_next c.loop-step.self c.add_step.new.self c.args.log c.deref-step-items.result.now c.loop-step.step-index _ c.in_ok-add_step.ensures.more c.loop-step-test.true c.loop-step.invariant.steps c.in_ok-add_step.ensures.knows;
}

pub returns-clause-knows : goal.returns-clause-knows
returns-clause-knows c =
    knows_read c.args.logs.now (record { threads = c.add.new.self; acquires = c.args.self.now.acquires; first = c.args.self.now.first }) c.loop-step.self c.args.log c.index-steps.result.now c.deref-step-items.result.now
    c.loop-step.step-index c.loop-step.invariant.own c.requires.inside c.index-steps.ensures c.deref-step-items.ensures.value c.loop-step-test.false c.in_ok-add.ensures.added c.loop-step.invariant.steps
