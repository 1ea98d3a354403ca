use Rattle.std.proofs.Common.{◌≡◌, Some, length, ap, arith, subst, sym, ◌∙◌}
use Rattle.std.specs.Option.{option_map_or}
use Rattle.std.proofs.lemmas.Option.{get_or_from_slice_get, slice_get-get_or, slice_get_within}
use Rattle.rd_order.specs.Order.{thread_of}
use Rattle.rd_linear.specs.Lanes.{AreLanesBelow, thread_at}
use Rattle.rd_linear.specs.Linear.{Stands}
use Rattle.rd_linear.proofs.AskingLemmas.{lane_count}
use Rattle.rd_linear.proofs.ThreadLemmas.{none_given, place_added}
use Rattle.rd_linear.proofs.lanes.lanes_of.Goals as goal

pub lane_of-at-requires-clause-stands : goal.lane_of-at-requires-clause-stands
lane_of-at-requires-clause-stands c =
    let es = c.args.events.now in let place = c.loop-place.place in
    let event = slice_get-get_or es place c.index-events-place.result c.loop-place-test.true ∙ ap Some (sym c.index-events-place.is) in
    let of : thread_at es place ≡ c.thread_of.result = ap (λ o. option_map_or thread_of o 0) event ∙ sym c.thread_of.ensures in
    subst (Stands c.args.threads.now) of (c.requires.threads.all place c.loop-place-test.true)

pub add_place-requires : goal.add_place-requires
add_place-requires c = record {
  inside = let within = slice_get_within c.args.threads.now c.lane_of-at.result c.thread_of.result c.lane_of-at.ensures in
      let long = ap length c.loop-place.invariant.threads_are in omega (arith, within, long, lane_count c.loop-place.lanes.items);
}

pub loop-place-preserved : goal.loop-place-preserved
loop-place-preserved c =
    let es = c.args.events.now in let place = c.loop-place.place in let threads = c.args.threads.now in
    let event = slice_get-get_or es place c.index-events-place.result c.loop-place-test.true ∙ ap Some (sym c.index-events-place.is) in
    let of : thread_at es place ≡ c.thread_of.result = ap (λ o. option_map_or thread_of o 0) event ∙ sym c.thread_of.ensures in
    let within = slice_get_within threads c.lane_of-at.result c.thread_of.result c.lane_of-at.ensures in
    let is = get_or_from_slice_get threads c.lane_of-at.result c.thread_of.result 0 c.lane_of-at.ensures in
    place_added es place c.lane_of-at.result threads c.loop-place.lanes.items c.add_place.new.lanes.items c.loop-place.invariant c.requires.threads.rising (within, is ∙ sym of)
    c.in_ok-add_place.ensures

pub returns-clause-lanes : goal.returns-clause-lanes
returns-clause-lanes c =
    let es = c.args.events.now in
    let all : c.loop-place.place ≡ length es = omega (arith, c.loop-place-test.false, c.loop-place.auto.place-end) in
    none_given es c.args.threads.now c.loop-place.lanes.items (subst (λ n. AreLanesBelow es n c.args.threads.now c.loop-place.lanes.items) all c.loop-place.invariant)
