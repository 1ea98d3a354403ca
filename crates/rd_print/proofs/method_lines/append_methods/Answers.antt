use Rattle.rd_print.specs.Printed.{printed_line, method_words}
use Rattle.rd_print.proofs.JoinLemmas.{element_more}
use Rattle.rd_print.proofs.method_lines.append_methods.Goals as goal

pub loop-method-preserved : goal.loop-method-preserved
loop-method-preserved c =
    element_more (λ method. printed_line (method_words method)) _ c.loop-method.text c.append_method.new.text c.args.methods.now c.loop-method.method-index
    c.method-item.result c.loop-method-test.true c.method-item.is c.loop-method.invariant c.in_ok-append_method.ensures
