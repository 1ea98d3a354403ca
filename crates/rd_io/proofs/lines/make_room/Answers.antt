use Rattle.std.proofs.Common.{arith}
use Rattle.rd_io.proofs.WindowLemmas.{moved}
use Rattle.rd_io.proofs.lines.make_room.Goals as goal

pub returns-clause-kept : goal.returns-clause-kept
returns-clause-kept c = λ from n low high.
    rw c.copy_within.ensures.after
    (moved c.args.buffer.now c.args.line_start _ from n low high (omega arith))
