use Rattle.std.proofs.Common.{◌≡◌, ◌<◌, ◌+◌, ◌++◌, ◌∷◌, [], List, length, take, get_or, sym, ap, subst, ◌∙◌, arith}
use Rattle.std.proofs.lemmas.List.{append_assoc, get_or_default}
use Rattle.rd_event.specs.declared.items.Line.TheVariants.{Event}
use Rattle.rd_logs.specs.declared.lines.LogEvent.{LogEvent}
use Rattle.rd_numbered_logs.proofs.MarkLemmas.{item_got}
use Rattle.rd_weave.specs.Answers.{placed_lines, rest_events}
use Rattle.rd_weavings.specs.declared.spots.Spot.{Spot}
use Rattle.rd_weave.proofs.LineLemmas.{AreRests, known_rest, lines_next, next_event, taken_next}
use Rattle.rd_weave.proofs.lines.append_events.Goals as goal

pub loop-spot-preserved : goal.loop-spot-preserved
loop-spot-preserved c = λ records start spots.
    let i = c.loop-spot.spot-index in
    let no_spot : Spot = record { log = 0; place = 0 } in
    let s : Spot = get_or c.args.spots.now i no_spot in
    let within : i < length c.args.spots.now = grind arith in
    let is : s ≡ get_or c.args.spots.now i s = get_or_default c.args.spots.now i no_spot s within in
    let spot = spots i s (item_got c.args.spots.now i s within is) in
    let so_far = c.loop-spot.invariant records start spots in
    let rests : List (List LogEvent) = rest_events c.loop-spot.logs in
    let (noted, at, last) = next_event records c.args.spots.now i s within is rests so_far.1 spot.0 spot.1 in
    let done = c.in_ok-append_event.ensures _ noted last in (
      done.0 ∙ ap (λ lines. lines ++ Event noted.event ∷ []) so_far.0 ∙ append_assoc c.args.lines.now.items (placed_lines records (take i c.args.spots.now)) (Event noted.event ∷ [])
          ∙ ap (λ lines. c.args.lines.now.items ++ lines) (sym (lines_next records c.args.spots.now i s within is rests so_far.1 spot.0 spot.1 noted at)),
      subst (AreRests records (take (i + 1) c.args.spots.now)) (sym done.1)
          (taken_next records c.args.spots.now i s within is rests so_far.1 spot.0 spot.1 (known_rest rests s.log noted _ last)),
    )
