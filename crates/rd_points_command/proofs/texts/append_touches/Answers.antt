use Rattle.std.proofs.lemmas.List.{get_or_default}
use Rattle.rd_print.proofs.JoinLemmas.{element_more}
use Rattle.rd_points_command.specs.PointTexts.{touch_text}
use Rattle.rd_points_command.proofs.texts.append_touches.Goals as goal

pub loop-touch-preserved : goal.loop-touch-preserved
loop-touch-preserved c =
    let touches = c.args.touches.now in
    let i = c.loop-touch.touch-index in
    element_more (touch_text c.args.variables.now) _ c.loop-touch.text c.append_touch.new.text touches i _ c.loop-touch-test.true
    (get_or_default touches i _ _ c.loop-touch-test.true) c.loop-touch.invariant c.in_ok-append_touch.ensures
