use Rattle.std.proofs.Common.{◌≡◌, ◌<◌, ◌+◌, ◌∷◌, [], List, ℕ, length, map, drop, Err, sym, ap, subst, ◌∙◌, arith}
use Rattle.std.proofs.lemmas.List.{length-append, length-map, map-append}
use Rattle.rd_logs.specs.declared.whole.Log.{Log}
use Rattle.rd_logs.specs.WholeLogs.{log_texts, record_of}
use Rattle.rd_numbered_logs.proofs.NameLemmas.{item_mapped}
use Rattle.rd_weave.specs.Answers.{records_from}
use Rattle.rd_weave.proofs.ReadingLemmas.{all_read, bad_one, in_front, reads_one}
use Rattle.rd_weave.proofs.reading.read_all.Goals as goal

pub returns-in-Err-clause-bad : goal.returns-in-Err-clause-bad
returns-in-Err-clause-bad c = λ log line is.
    let i = c.loop-log.log-index in
    let texts : List (List ℕ) = log_texts c.args.logs.now in
    let here : i < length c.args.logs.now = grind arith in
    let within : i < length texts = subst (λ n. i < n) (sym (length-map c.args.logs.now (λ (log : Log). log.bytes))) here in
    let at = item_mapped (λ (log : Log). log.bytes) c.args.logs.now i c.log-item.result here c.log-item.is in
    let bad = c.in-Err.ensures.bad log line is in
    let number : i ≡ log = omega (arith, bad.0, c.len.ensures, c.loop-log.read.ok.0, c.loop-log.invariant.count) in
    c.loop-log.invariant.same ∙ bad_one (map record_of c.loop-log.read.items) i texts c.log-item.result.bytes line within at bad.1 ∙ ap (λ n. Err (record { log = n; line = line })) number

pub loop-log-preserved : goal.loop-log-preserved
loop-log-preserved c =
    let i = c.loop-log.log-index in
    let texts : List (List ℕ) = log_texts c.args.logs.now in
    let here : i < length c.args.logs.now = grind arith in
    let within : i < length texts = subst (λ n. i < n) (sym (length-map c.args.logs.now (λ (log : Log). log.bytes))) here in
    let at = item_mapped (λ (log : Log). log.bytes) c.args.logs.now i c.log-item.result here c.log-item.is in
    record {
      same = c.loop-log.invariant.same
          ∙ reads_one (map record_of c.loop-log.read.items) i texts c.log-item.result.bytes (record_of c.in-Ok.one) within at c.in-Ok.ensures.ok
          ∙ ap (λ front. in_front front (records_from (i + 1) (drop (i + 1) texts))) (sym (map-append record_of c.loop-log.read.items (c.in-Ok.one ∷ [])) ∙ ap (map record_of) (sym c.in_ok-keep_log.ensures));
      count = ap length c.in_ok-keep_log.ensures ∙ omega (arith, length-append c.loop-log.read.items (c.in-Ok.one ∷ []), c.loop-log.invariant.count);
    }

pub returns-clause-ok : goal.returns-clause-ok
returns-clause-ok c =
    let i = c.loop-log.log-index in
    c.loop-log.invariant.same ∙ all_read (map record_of c.loop-log.read.items) i (log_texts c.args.logs.now) (length-map c.args.logs.now (λ (log : Log). log.bytes) ∙ omega (arith, c.loop-log-test.false, c.loop-log.auto.log-index-end))
