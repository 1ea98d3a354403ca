use Rattle.rd_points_command.proofs.JoinedLemmas.{written_front}
use Rattle.rd_walk.proofs.OutputLemmas.{always_err}
use Rattle.rd_points_command.proofs.numbered.write_numbered.Goals as goal

pub returns-in_err-write_one-clause-front : goal.returns-in_err-write_one-clause-front
returns-in_err-write_one-clause-front g c =
    always_err _ c.from_residual.result
    (written_front (g.N.Numbered.text_of c.args.numbered.now) (g.S.Sink.written c.args.out.now) (g.S.Sink.written c.loop-number.out) (g.S.Sink.written c.write_one.new.out)
    c.loop-number.number c.args.count c.loop-number-test.true c.loop-number.invariant.written c.in_err-write_one.ensures.front)
