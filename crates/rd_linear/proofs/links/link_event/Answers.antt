use Rattle.std.proofs.Common.{◌≡◌, Some, arith, refl, sym, ◌∙◌, ap, subst}
use Rattle.std.specs.Option.{option_map_or}
use Rattle.std.proofs.lemmas.Option.{slice_get-get_or}
use Rattle.rd_order.specs.Order.{thread_of}
use Rattle.rd_linear.specs.Lanes.{thread_at}
use Rattle.rd_linear.specs.Linear.{Stands}
use Rattle.rd_linear.proofs.LinkLemmas.{IsLinking, item_is, linking_ends, linking_more, part_within, waited_before}
use Rattle.rd_linear.proofs.links.link_event.Goals as goal

pub link_wait-requires-clause-inside : goal.link_wait-requires-clause-inside
link_wait-requires-clause-inside c =
    let es = c.args.events.now in let waits = c.args.waits.now in let place = c.args.place in let part = c.index-part.result.now in let at = c.loop-at.at in
    let is_part = item_is waits.parts.items place part (omega (arith, c.requires.inside, c.requires.waits.length_is)) c.index-part.ensures in
    let is_wait = item_is waits.places.items at c.index.result.now (part_within es waits place at part c.requires.waits is_part c.loop-at-test.true) c.index.ensures in
    let before = waited_before es waits place at c.index.result.now part c.requires.waits is_part c.loop-at.auto.at c.loop-at-test.true is_wait in
    omega (arith, before, c.requires.inside, c.loop-at.invariant.places_are, c.requires.links.places_are)

pub link_wait-requires-clause-stands : goal.link_wait-requires-clause-stands
link_wait-requires-clause-stands c =
    let es = c.args.events.now in let place = c.args.place in
    let event = slice_get-get_or es place c.index-events-place.result c.requires.inside ∙ ap Some (sym c.index-events-place.is) in
    let of : thread_at es place ≡ c.thread_of-thread.result = ap (λ o. option_map_or thread_of o 0) event ∙ sym c.thread_of-thread.ensures in
    subst (Stands c.args.threads.now) of (c.requires.threads.all place c.requires.inside)

pub loop-at-preserved : goal.loop-at-preserved
loop-at-preserved c =
    let es = c.args.events.now in let waits = c.args.waits.now in let place = c.args.place in let part = c.index-part.result.now in let at = c.loop-at.at in
    let is_part = item_is waits.parts.items place part (omega (arith, c.requires.inside, c.requires.waits.length_is)) c.index-part.ensures in
    let is_wait = item_is waits.places.items at c.index.result.now (part_within es waits place at part c.requires.waits is_part c.loop-at-test.true) c.index.ensures in
    let e = c.in_ok-link_wait.ensures in
    linking_more es c.args.threads.now waits c.thread_of-thread.result part.from at c.index.result.now c.args.links.now c.loop-at.links c.link_wait.new.links c.loop-at.invariant
    e.chained e.lanes c.link_wait.ensures.places e.kept is_wait e.heard

pub returns : goal.returns
returns c =
    let es = c.args.events.now in let waits = c.args.waits.now in let place = c.args.place in let part = c.index-part.result.now in let at = c.loop-at.at in
    let event = slice_get-get_or es place c.index-events-place.result c.requires.inside ∙ ap Some (sym c.index-events-place.is) in
    let of : c.thread_of-thread.result ≡ thread_at es place = c.thread_of-thread.ensures ∙ sym (ap (λ o. option_map_or thread_of o 0) event) in
    let is_part = item_is waits.parts.items place part (omega (arith, c.requires.inside, c.requires.waits.length_is)) c.index-part.ensures in
    linking_ends es c.args.threads.now waits place part.from at part.to part c.args.links.now c.loop-at.links c.requires.links is_part refl refl (omega (arith, c.loop-at-test.false))
    (subst (λ t. IsLinking es c.args.threads.now waits t part.from at c.args.links.now c.loop-at.links) of c.loop-at.invariant)
