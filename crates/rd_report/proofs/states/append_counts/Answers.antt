use Rattle.rd_print.proofs.JoinLemmas.{element_more}
use Rattle.rd_report.specs.States.{count_text}
use Rattle.rd_report.proofs.states.append_counts.Goals as goal

pub loop-counted-preserved : goal.loop-counted-preserved
loop-counted-preserved c =
    element_more count_text _ c.loop-counted.text c.append_count.new.text c.args.counts.now c.loop-counted.counted-index c.counted-item.result c.loop-counted-test.true
    c.counted-item.is c.loop-counted.invariant c.in_ok-append_count.ensures
