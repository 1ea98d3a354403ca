use Rattle.rd_points_command.specs.PointTexts.{touch_line}
use Rattle.rd_points_command.proofs.JoinedLemmas.{text_more}
use Rattle.rd_points_command.proofs.texts.append_method_touches.Goals as goal

pub loop-bits-preserved : goal.loop-bits-preserved
loop-bits-preserved c =
    text_more (touch_line c.args.kind.now c.args.table.now c.args.method) c.args.text.now c.loop-bits.text c.append_touch_line.new.text c.loop-bits.bits c.loop-bits.invariant c.in_ok-append_touch_line.ensures
