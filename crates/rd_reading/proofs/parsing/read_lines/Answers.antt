use Rattle.std.proofs.Common.{◌≡◌, length, arith}
use Rattle.rd_reading.proofs.ParsingLemmas.{unread, read_on, all_read, stopped}
use Rattle.rd_reading.proofs.parsing.read_lines.Goals as goal

pub loop-rest-init : goal.loop-rest-init
loop-rest-init c = rw c.requires.fresh (unread c.args.taken.now c.args.text.now)

pub returns-in-Err-clause-refused : goal.returns-in-Err-clause-refused
returns-in-Err-clause-refused c =
    rw c.refused_at.ensures (
    stopped c.args.taken.now c.args.text.now c.loop-rest.rest.now c.cut_line.result.0.now c.cut_line.result.1.now c.loop-rest.number c.loop-rest.known c.in-Err.refused
    c.requires.short c.loop-rest.invariant c.cut_line.ensures.lines c.in-Err.ensures.refused)

pub loop-rest-preserved : goal.loop-rest-preserved
loop-rest-preserved c =
    read_on c.args.taken.now c.args.text.now c.loop-rest.rest.now c.cut_line.result.0.now c.cut_line.result.1.now c.loop-rest.number c.loop-rest.known c.take_line.new.known
    c.loop-rest.invariant c.cut_line.ensures.lines c.cut_line.ensures.less c.in_default.ensures.ok

pub returns-clause-ok : goal.returns-clause-ok
returns-clause-ok c =
    let none : length c.loop-rest.rest.now ≡ 0 = grind arith in
    all_read c.args.taken.now c.args.text.now c.loop-rest.rest.now c.loop-rest.number c.loop-rest.known none c.loop-rest.invariant
