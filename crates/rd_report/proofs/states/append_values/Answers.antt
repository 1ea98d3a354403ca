use Rattle.rd_print.proofs.JoinLemmas.{element_more}
use Rattle.rd_report.specs.States.{value_text}
use Rattle.rd_report.proofs.states.append_values.Goals as goal

pub loop-value-preserved : goal.loop-value-preserved
loop-value-preserved c =
    element_more value_text _ c.loop-value.text c.append_held.new.text c.args.values.now c.loop-value.value-index c.value-item.result c.loop-value-test.true
    c.value-item.is c.loop-value.invariant c.in_ok-append_held.ensures
