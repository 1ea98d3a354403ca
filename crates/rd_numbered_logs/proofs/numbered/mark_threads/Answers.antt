use Rattle.std.proofs.Common.{◌==◌, ◌<◌, length, subst, sym, true, ◌∙◌, arith}
use Rattle.std.proofs.lemmas.List.{length-set}
use Rattle.rd_numbered_logs.proofs.MarkLemmas.{any_more, item_got, marked, or_then}
use Rattle.rd_numbered_logs.proofs.numbered.mark_threads.Goals as goal

pub loop-log-preserved : goal.loop-log-preserved
loop-log-preserved c =
    let here : c.loop-log.log-index < length c.args.logs.now = grind arith in
    let known : c.log-item.result.thread < length c.loop-log.roots = subst (λ n. c.log-item.result.thread < n) (sym c.loop-log.invariant.count) (c.requires c.loop-log.log-index c.log-item.result (item_got c.args.logs.now c.loop-log.log-index c.log-item.result here c.log-item.is)) in
    record {
      marks = λ thread. or_then _ _ (c.log-item.result.thread == thread) _ _ _ (c.loop-log.invariant.marks thread) (marked c.loop-log.roots c.log-item.result.thread thread known)
          (any_more (λ log. log.thread == thread) c.args.logs.now c.loop-log.log-index c.log-item.result here c.log-item.is);
      count = length-set c.loop-log.roots c.log-item.result.thread true ∙ c.loop-log.invariant.count;
    }
