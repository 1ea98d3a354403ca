use Rattle.std.proofs.Common.{◌<◌, [], List, get_or, length, reverse, sym, ap, subst, ◌∙◌, arith}
use Rattle.std.proofs.lemmas.List.{get_or-map, length-map, length-set, map-set}
use Rattle.rd_logs.specs.declared.lines.LogEvent.{LogEvent}
use Rattle.rd_logs.specs.declared.whole.ReadLog.{ReadLog}
use Rattle.rd_weave.specs.Answers.{rest_events}
use Rattle.rd_weave.proofs.LineLemmas.{turned_one}
use Rattle.rd_weave.proofs.lines.turn_around.Goals as goal

pub loop-place-preserved : goal.loop-place-preserved
loop-place-preserved c =
    let i = c.loop-place.place in
    let here : i < length c.loop-place.logs = grind arith in
    let rests : List (List LogEvent) = rest_events c.loop-place.logs in
    let within : i < length rests = subst (λ n. i < n) (sym (length-map c.loop-place.logs (λ (log : ReadLog). log.events.items))) here in
    let read = get_or-map (λ (log : ReadLog). log.events.items) c.loop-place.logs i c.index-logs-place.result [] here in
    let own = c.turn_one.ensures ∙ ap reverse (sym read ∙ c.loop-place.invariant.left i (omega arith)) in
    let set_is = map-set (λ (log : ReadLog). log.events.items) c.loop-place.logs i c.turn_one.new.log in
    let next = turned_one rests (rest_events c.args.logs.now) i c.turn_one.new.log.events.items within own c.loop-place.invariant.turned c.loop-place.invariant.left in
    record {
      count = length-set c.loop-place.logs i c.turn_one.new.log ∙ c.loop-place.invariant.count;
      turned = λ log below. ap (λ rs. get_or rs log []) set_is ∙ next.0 log below;
      left = λ log above. ap (λ rs. get_or rs log []) set_is ∙ next.1 log above;
    }
