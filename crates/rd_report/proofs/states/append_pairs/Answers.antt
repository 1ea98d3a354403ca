use Rattle.rd_print.proofs.JoinLemmas.{element_more}
use Rattle.rd_report.specs.States.{entry_text}
use Rattle.rd_report.proofs.states.append_pairs.Goals as goal

pub loop-pair-preserved : goal.loop-pair-preserved
loop-pair-preserved c =
    element_more entry_text _ c.loop-pair.text c.append_pair.new.text c.args.pairs.now c.loop-pair.pair-index c.pair-item.result c.loop-pair-test.true
    c.pair-item.is c.loop-pair.invariant c.in_ok-append_pair.ensures
