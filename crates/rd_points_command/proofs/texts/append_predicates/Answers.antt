use Rattle.rd_points_command.specs.PointTexts.{predicate_line_at}
use Rattle.rd_points_command.proofs.JoinedLemmas.{text_more}
use Rattle.rd_points_command.proofs.texts.append_predicates.Goals as goal

pub loop-number-preserved : goal.loop-number-preserved
loop-number-preserved c =
    text_more (predicate_line_at c.args.kind.now c.args.table.now c.args.method) c.args.text.now c.loop-number.text c.append_predicate_line.new.text c.loop-number.number c.loop-number.invariant c.in_ok-append_predicate_line.ensures
