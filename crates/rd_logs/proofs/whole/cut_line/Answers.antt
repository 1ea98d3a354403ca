use Rattle.std.proofs.lemmas.List.{take_rest}
use Rattle.rd_logs.proofs.WholeLemmas.{parts_cut, parts_left}
use Rattle.rd_logs.proofs.whole.cut_line.Goals as goal

pub returns-in_err-at-clause-none : goal.returns-in_err-at-clause-none
returns-in_err-at-clause-none c = rw c.from_residual.ensures (parts_left c.args.text.now c.in_err-at.ensures)

pub returns-clause-some : goal.returns-clause-some
returns-clause-some c = rw take_rest (parts_cut c.args.text.now c.in_ok-at.at c.in_ok-at.ensures)
