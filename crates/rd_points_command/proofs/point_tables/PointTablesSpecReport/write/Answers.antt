use Rattle.std.proofs.Common.{[], ◌∙◌, subst}
use Rattle.rd_classes.specs.Merged.{merged}
use Rattle.rd_points.specs.Compiled.{compiled}
use Rattle.rd_points_command.specs.PointTexts.{kind_text, points_text}
use Rattle.rd_points_command.proofs.JoinedLemmas.{member_front, member_more}
use Rattle.rd_walk.proofs.OutputLemmas.{always_err}
use Rattle.rd_walk.specs.Analysis.{WritesFront}
use Rattle.rd_points_command.proofs.point_tables.PointTablesSpecReport.write.Goals as goal

pub returns-in_err-write_points-clause-front : goal.returns-in_err-write_points-clause-front
returns-in_err-write_points-clause-front g c =
    always_err _ c.from_residual.result
    (subst (λ kinds. WritesFront (g.S.Sink.written c.args.out.now) (g.S.Sink.written c.write_points.new.out) [] (points_text kinds)) c.kinds-kind-items.ensures.value
    (member_front (λ kind. kind_text kind (merged (compiled kind))) c.kinds-kind-items.result.now c.loop-kind.kind-index c.kind-item.result c.loop-kind-test.true c.kind-item.is
    _ _ _ c.loop-kind.invariant.written c.in_err-write_points.ensures.front))

pub loop-kind-preserved : goal.loop-kind-preserved
loop-kind-preserved g c = record {
  written = member_more (λ kind. kind_text kind (merged (compiled kind))) c.kinds-kind-items.result.now c.loop-kind.kind-index c.kind-item.result c.loop-kind-test.true
      c.kind-item.is _ _ _ c.loop-kind.invariant.written c.in_ok-write_points.ensures.ok;
  calm = c.in_ok-write_points.ensures.fault ∙ c.loop-kind.invariant.calm;
}
