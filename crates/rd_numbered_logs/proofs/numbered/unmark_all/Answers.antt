use Rattle.std.proofs.Common.{◌<◌, ◌&&◌, ◌∙◌, ap, false, get_or, not, length, arith}
use Rattle.std.specs.List.{list_any}
use Rattle.rd_numbered_logs.specs.Numbering.{step_forks}
use Rattle.rd_numbered_logs.proofs.MarkLemmas.{and_then, any_more}
use Rattle.rd_numbered_logs.proofs.numbered.unmark_all.Goals as goal

pub loop-log-preserved : goal.loop-log-preserved
loop-log-preserved c =
    let here : c.loop-log.log-index < length c.args.logs.now = grind arith in
    record {
      marks = λ thread. and_then _ _ (list_any (step_forks thread) c.log-item.result.steps.items) _ _ _ (c.loop-log.invariant.marks thread) (c.unmark_forked.ensures.marks thread ∙ ap (λ steps. get_or c.loop-log.roots thread false && not (list_any (step_forks thread) steps)) c.as_slice.ensures.value)
          (any_more (λ log. list_any (step_forks thread) log.steps.items) c.args.logs.now c.loop-log.log-index c.log-item.result here c.log-item.is);
      count = c.unmark_forked.ensures.count ∙ c.loop-log.invariant.count;
    }
