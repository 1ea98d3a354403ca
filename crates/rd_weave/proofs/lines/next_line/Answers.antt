use Rattle.std.proofs.Common.{[], Some, set, sym, ap, ◌∙◌}
use Rattle.std.proofs.lemmas.List.{get_or-map, map-set, same_from_push}
use Rattle.rd_event.specs.declared.items.Line.TheVariants.{Event}
use Rattle.rd_logs.specs.declared.lines.LogEvent.{LogEvent}
use Rattle.rd_logs.specs.declared.whole.ReadLog.{ReadLog}
use Rattle.rd_weave.specs.Answers.{rest_events}
use Rattle.rd_weave.proofs.lines.next_line.Goals as goal

pub returns-then-place-logs : goal.returns-then-place-logs
returns-then-place-logs c = λ front noted at.
    let read = get_or-map (λ (log : ReadLog). log.events.items) c.args.logs.now c.args.log c.index-logs-place.result [] c.if-place-logs.true in
    let same = same_from_push c.pop.new.self.items front c.in_ok-noted.noted noted (sym c.in_ok-noted.ensures.items ∙ sym read ∙ at) in (
      ap (λ (one : LogEvent). Some (Event one.event)) same.1,
      map-set (λ (log : ReadLog). log.events.items) c.args.logs.now c.args.log _ ∙ ap (set (rest_events c.args.logs.now) c.args.log) same.0,
    )
