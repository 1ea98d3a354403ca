use Rattle.std.proofs.Common.{◌≡◌, ◌<◌, ◌+◌, ◌++◌, ◌∷◌, [], length, map, take, sym, ap, subst, ◌∙◌, arith}
use Rattle.std.proofs.lemmas.List.{length-map, length-take-le}
use Rattle.rd_logs.specs.WholeLogs.{record_of}
use Rattle.rd_numbered_logs.specs.LogNames.{mentioning_all}
use Rattle.rd_numbered_logs.specs.Numbering.{AreNumberedLogs, IsFrontOf, IsNumberedLog}
use Rattle.rd_numbered_logs.proofs.NameLemmas.{item_mapped, item_taken, mentions_log}
use Rattle.rd_numbered_logs.proofs.StepLemmas.{front_all, numbered_more, threads_longer}
use Rattle.rd_numbered_logs.proofs.numbered.number_each.Goals as goal

pub loop-thread-preserved : goal.loop-thread-preserved
loop-thread-preserved c =
    let i = c.loop-thread.thread in
    let records = map record_of c.args.logs.now in
    let log = record_of c.index-logs-thread.result in
    let here : i < length c.args.logs.now = grind arith in
    let within : i < length records = subst (λ n. i < n) (sym (length-map c.args.logs.now record_of)) here in
    let is = item_mapped record_of c.args.logs.now i c.index-logs-thread.result here c.index-logs-thread.is in
    let front : IsFrontOf c.loop-thread.names c.number_log.new.names = subst (IsFrontOf c.loop-thread.names) (sym c.in_ok-log.ensures.names) (front_all c.loop-thread.names log.events) in
    let count : length c.loop-thread.numbered.items ≡ i = c.loop-thread.invariant.logs.count ∙ length-take-le i records (omega (arith, within)) in
    record {
      names = c.in_ok-log.ensures.names ∙ ap (λ names. mentioning_all names log.events) c.loop-thread.invariant.names ∙ sym (mentions_log c.args.names.now records i log within is);
      logs = subst (AreNumberedLogs c.number_log.new.names (take (i + 1) records)) (sym c.in_ok-push.ensures.items)
          (subst (λ logs. AreNumberedLogs c.number_log.new.names logs (c.loop-thread.numbered.items ++ c.in_ok-log.log ∷ [])) (sym (item_taken records i log within is))
          (numbered_more c.loop-thread.names c.number_log.new.names (take i records) log c.loop-thread.numbered.items c.in_ok-log.log front c.loop-thread.invariant.logs
          (subst (λ n. IsNumberedLog c.number_log.new.names n log c.in_ok-log.log) (sym count) c.in_ok-log.ensures.log)));
      known = let longer = threads_longer c.loop-thread.names c.number_log.new.names front in omega (arith, longer, c.loop-thread.invariant.known);
    }
