use Rattle.std.proofs.Math.Seq.{drop-length}
use Rattle.std.proofs.lemmas.List.{take_rest}
use Rattle.rd_reading.proofs.CuttingLemmas.{line_cut, line_left}
use Rattle.rd_reading.proofs.cutting.cut_line.Goals as goal

pub returns-in-Some-clause-lines : goal.returns-in-Some-clause-lines
returns-in-Some-clause-lines c = λ lines more.
    line_cut c.args.text.now c.in-Some.at lines (rw c.in-Some.is at c.memchr.ensures) (rw take_rest at more)

pub returns-in-None-clause-lines : goal.returns-in-None-clause-lines
returns-in-None-clause-lines c = λ lines more.
    line_left c.args.text.now lines c.requires (rw c.in-None.is at c.memchr.ensures) (rw (take_rest, drop-length) at more)
