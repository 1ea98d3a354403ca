use Rattle.std.proofs.Common.{◌<◌, ◌+◌, ℕ, Bool, List, if◌then◌else◌, ◌++◌, ◌∷◌, [], false, get_or, length, map, drop, sym, ap, subst, ◌∙◌, arith}
use Rattle.std.proofs.lemmas.List.{append_assoc, length-map}
use Rattle.rd_event.specs.declared.items.Line.TheVariants.{Thread}
use Rattle.rd_logs.specs.WholeLogs.{LogRecord, record_of}
use Rattle.rd_numbered_logs.proofs.NameLemmas.{item_dropped, item_mapped}
use Rattle.rd_weave.specs.Answers.{root_lines}
use Rattle.rd_weave.proofs.LineLemmas.{root_next}
use Rattle.rd_weave.proofs.lines.append_roots.Goals as goal

pub loop-place-preserved : goal.loop-place-preserved
loop-place-preserved c =
    let i = c.loop-place.place in
    let is_root : ℕ → Bool = λ thread. get_or c.args.roots.now thread false in
    let records : List LogRecord = map record_of c.args.logs.now in
    let log = record_of c.index-logs-place.result in
    let here : i < length c.args.logs.now = grind arith in
    let within : i < length records = subst (λ n. i < n) (sym (length-map c.args.logs.now record_of)) here in
    let is = item_mapped record_of c.args.logs.now i c.index-logs-place.result here c.index-logs-place.is in
    let rest : List LogRecord = drop (i + 1) records in
    c.loop-place.invariant
    ∙ ap (λ logs. c.loop-place.lines.items ++ root_lines is_root i logs) (item_dropped records i log within is)
    ∙ ap (λ lines. c.loop-place.lines.items ++ lines) (root_next is_root i log rest)
    ∙ sym (append_assoc c.loop-place.lines.items (if is_root i then Thread log.thread ∷ [] else []) (root_lines is_root (i + 1) rest))
    ∙ ap (λ lines. lines ++ root_lines is_root (i + 1) rest) (ap (λ b. c.loop-place.lines.items ++ (if b then Thread log.thread ∷ [] else [])) (sym c.is_marked.ensures) ∙ sym c.in_ok-append_root.ensures)
