use Rattle.std.proofs.Common.{[], subst}
use Rattle.std.proofs.lemmas.Result.{on_err_weaker}
use Rattle.rd_io.specs.Sinks.{Appends}
use Rattle.rd_points_command.specs.PointTexts.{kind_text}
use Rattle.rd_print.proofs.JoinLemmas.{ok_then}
use Rattle.rd_walk.specs.Analysis.{WritesFront}
use Rattle.rd_points_command.proofs.point_tables.write_points.Goals as goal

pub returns-clause-ok : goal.returns-clause-ok
returns-clause-ok g c =
    ok_then c.write_kind.result _ _
    (subst (λ table. Appends (g.S.Sink.written c.args.out.now) (g.S.Sink.written c.write_kind.new.out) (kind_text c.args.kind.now table)) c.in_ok-table.ensures)
    c.write_kind.ensures.ok

pub returns-clause-front : goal.returns-clause-front
returns-clause-front g c =
    on_err_weaker c.write_kind.result
    (subst (λ table. WritesFront (g.S.Sink.written c.args.out.now) (g.S.Sink.written c.write_kind.new.out) [] (kind_text c.args.kind.now table)) c.in_ok-table.ensures)
    c.write_kind.ensures.front
