use Rattle.std.proofs.Common.{arith, rules, tests}
use Rattle.rd_print.specs.Printed.{commute_words, printed_line}
use Rattle.rd_print.proofs.JoinLemmas.{number_more}
use Rattle.rd_print.proofs.pairs.append_row.Goals as goal

pub loop-second-preserved : goal.loop-second-preserved
loop-second-preserved c =
    number_more (λ second. printed_line (commute_words c.args.kind.now (c.args.first, second))) _ c.loop-second.text c.append_commute.new.text c.loop-second.second _
    (omega arith) c.loop-second.invariant c.in_ok-append_commute.ensures

pub loop-second-init : goal.loop-second-init
loop-second-init c = search (tests, rules)
