use Rattle.std.proofs.Common.{◌<◌, ◌≤◌, inl, inr, get_or, length, map, sym, ap, subst, ◌∙◌, arith}
use Rattle.std.proofs.lemmas.Bool.{cases_eq}
use Rattle.std.specs.Vec.{vec_len}
use Rattle.rd_logs.specs.declared.whole.ReadLog.{ReadLog}
use Rattle.rd_logs.specs.WholeLogs.{record_of}
use Rattle.rd_weave.specs.Answers.{events_of_log}
use Rattle.rd_weave.proofs.CountLemmas.{events_read}
use Rattle.rd_weave.proofs.counts.is_left.Goals as goal

pub returns-then-counts-place-clause-some : goal.returns-then-counts-place-clause-some
returns-then-counts-place-clause-some c = λ _.
    let i = c.loop-place.place in
    let here : i < length c.args.logs.now = grind arith in
    let events = events_read c.args.logs.now i c.index-logs-place.result here c.index-logs-place.is in
    (i, here, subst (λ n. get_or c.args.counts.now i 0 < n) (c.len.ensures ∙ ap (λ (log : ReadLog). vec_len log.events) (sym c.index-logs-place.is) ∙ c.index-logs-place.result.events.ok.0 ∙ ap length (sym events)) c.if-counts-place.true)

pub loop-place-preserved : goal.loop-place-preserved
loop-place-preserved c = λ log below.
    let i = c.loop-place.place in
    let here : i < length c.args.logs.now = grind arith in
    let events = events_read c.args.logs.now i c.index-logs-place.result here c.index-logs-place.is in
    elim (cases_eq log i) [
      | inl same ↦
          subst (λ l. length (events_of_log (map record_of c.args.logs.now) l) ≤ get_or c.args.counts.now l 0) (sym same)
          (subst (λ n. n ≤ get_or c.args.counts.now i 0) (c.len.ensures ∙ ap (λ (log : ReadLog). vec_len log.events) (sym c.index-logs-place.is) ∙ c.index-logs-place.result.events.ok.0 ∙ ap length (sym events)) c.if-counts-place.false)
      | inr other ↦ c.loop-place.invariant log (omega (arith, below, other))
    ]
