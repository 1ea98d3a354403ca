use Rattle.std.proofs.Common.{◌<◌, ◌++◌, List, length, map, take, sym, ap, subst, ◌∙◌, arith}
use Rattle.std.proofs.lemmas.List.{append_assoc, length-map}
use Rattle.rd_event.specs.declared.items.Line.TheVariants.{Object}
use Rattle.rd_logs.specs.WholeLogs.{LogRecord, record_of}
use Rattle.rd_numbered_logs.proofs.NameLemmas.{item_mapped}
use Rattle.rd_weave.specs.Answers.{object_lines}
use Rattle.rd_weave.proofs.LineLemmas.{objects_next}
use Rattle.rd_weave.proofs.lines.append_objects.Goals as goal

pub loop-log-preserved : goal.loop-log-preserved
loop-log-preserved c =
    let i = c.loop-log.log-index in
    let records : List LogRecord = map record_of c.args.logs.now in
    let log = record_of c.log-item.result in
    let here : i < length c.args.logs.now = grind arith in
    let within : i < length records = subst (λ n. i < n) (sym (length-map c.args.logs.now record_of)) here in
    let is = item_mapped record_of c.args.logs.now i c.log-item.result here c.log-item.is in
    c.in_ok-append_declared.ensures
    ∙ ap (λ objects. c.loop-log.lines.items ++ map (λ declared. Object declared.name declared.kind) objects) c.as_slice.ensures.value
    ∙ ap (λ lines. lines ++ map (λ declared. Object declared.name declared.kind) log.objects) c.loop-log.invariant
    ∙ append_assoc c.args.lines.now.items (object_lines (take i records)) (map (λ declared. Object declared.name declared.kind) log.objects)
    ∙ ap (λ lines. c.args.lines.now.items ++ lines) (sym (objects_next records i log within is))
