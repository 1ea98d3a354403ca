use Rattle.std.proofs.Common.{take, drop, sym}
use Rattle.std.proofs.lemmas.List.{take-append-drop}
use Rattle.rd_walk.proofs.writing.write_line.Goals as goal

pub returns-in-Err-clause-front : goal.returns-in-Err-clause-front
returns-in-Err-clause-front g c =
    let written = c.in-Err.field-0.written in
    let front = c.in-Err.ensures.front in
    (take written c.args.line.now, drop written c.args.line.now, sym (take-append-drop written c.args.line.now), front.1)
