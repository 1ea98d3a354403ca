use Rattle.std.proofs.Common.{arith}
use Rattle.rd_print.specs.Writing.{row_text}
use Rattle.rd_print.proofs.JoinLemmas.{number_more}
use Rattle.rd_print.proofs.pairs.append_pairs.Goals as goal

pub loop-first-preserved : goal.loop-first-preserved
loop-first-preserved c =
    number_more (row_text c.args.kind.now) _ c.loop-first.text c.append_row.new.text c.loop-first.first _
    (omega arith) c.loop-first.invariant c.in_ok-append_row.ensures
