use Rattle.std.proofs.Common.{◌+◌, ◌/◌, ◌<◌, length, filter_map, map, slice_get, ap, sym, ◌∙◌, subst, arith, true, slice_set}
use Rattle.std.proofs.lemmas.List.{length-set}
use Rattle.std.proofs.lemmas.Option.{slice_get_within, get_or_from_slice_get}
use Rattle.rd_linear.specs.declared.lanes.Lane.{Lane}
use Rattle.rd_linear.specs.Lanes.{AreThreadsRising, AreTurning, ready_in, threads_in}
use Rattle.rd_linear.specs.Links.{AreAskedBut, HaveLanes, HaveLinks}
use Rattle.rd_linear.specs.Orders.{IsLinear}
use Rattle.rd_linear.proofs.AskingLemmas.{choice_of, count_ranks, map_length, set_there, turn_asked}
use Rattle.rd_linear.proofs.LaneLemmas.{threads_kept}
use Rattle.rd_linear.proofs.OrderingLemmas.{found_place, found_ready, order_linear, some_choice, some_if, turning_ends, turning_starts, turn_taken}
use Rattle.rd_linear.proofs.lanes.reorder.Goals as goal

pub loop-turn-init : goal.loop-turn-init
loop-turn-init c =
    let waits = c.in_ok-waits.waits in let same = c.in_ok-lanes.ensures.threads ∙ c.as_slice-2.ensures.value in (
      turning_starts c.args.events.now c.in_ok-threads.threads.items c.args.number c.in_ok-lanes.lanes.items c.in_ok-seen.seen.items c.new-places.result
          c.new-places.ensures c.in_ok-seen.ensures c.in_ok-lanes.ensures.lanes same,
      c.in_ok-ranks.ensures ∙ ap (λ seen. map (ready_in waits seen) c.as_slice-4.result.now) c.as_slice-3.ensures.value ∙ ap (map (ready_in waits c.in_ok-seen.seen.items)) c.as_slice-4.ensures.value,
    )

pub unwrap-at-requires : goal.unwrap-at-requires
unwrap-at-requires c =
    let l = c.loop-turn in let waits = c.in_ok-waits.waits in
    let some = some_choice c.args.events.now c.args.number l.turn c.in_ok-threads.threads.items c.in_ok-threads.ensures.threads waits c.in_ok-waits.ensures
    l.lanes.items l.seen.items l.places l.left l.invariant.0 c.loop-turn-test.true in
    let count = count_ranks waits l.seen.items l.lanes.items l.ranks l.invariant.1 in
    some_if c.choose.result (length (filter_map (λ given. given) l.ranks)) c.choose.ensures.none (subst (λ n. 0 < n) (sym count) some)

pub index_mut-requires : goal.index_mut-requires
index_mut-requires c =
    let l = c.loop-turn in let found = c.unwrap-at.result in
    let choice = choice_of c.in_ok-waits.waits l.seen.items l.lanes.items l.ranks l.left c.choose.result found l.invariant.1 c.choose.ensures.some c.unwrap-at.ensures in
    omega (arith, slice_get_within l.lanes.items found.0 choice.0 choice.1, l.lanes.ok.0)

pub overflow_add-index_mut : goal.overflow_add-index_mut
overflow_add-index_mut c =
    let l = c.loop-turn in let found = c.unwrap-at.result in
    let choice = choice_of c.in_ok-waits.waits l.seen.items l.lanes.items l.ranks l.left c.choose.result found l.invariant.1 c.choose.ensures.some c.unwrap-at.ensures in
    let same = c.index_mut.ensures.value ∙ get_or_from_slice_get l.lanes.items found.0 choice.0 c.index_mut.result.now choice.1 in
    let place = found_place c.args.events.now c.args.number l.turn c.in_ok-threads.threads.items c.in_ok-threads.ensures.threads
    c.in_ok-waits.waits c.in_ok-waits.ensures l.lanes.items l.seen.items l.places l.left l.invariant.0 c.loop-turn-test.true choice.0 found.1 choice.2 in
    let within = slice_get_within choice.0.places.items choice.0.given found.1 place in
    let given = ap (λ lane. lane.given) same in
    grind (arith, within, given, choice.0.places.ok.0, choice.0.places.ok.1, choice.0.places.small)

pub index_mut-requires-in-loop-turn : goal.index_mut-requires-in-loop-turn
index_mut-requires-in-loop-turn c =
    let l = c.loop-turn in let found = c.unwrap-at.result in
    let choice = choice_of c.in_ok-waits.waits l.seen.items l.lanes.items l.ranks l.left c.choose.result found l.invariant.1 c.choose.ensures.some c.unwrap-at.ensures in
    let ready = found_ready c.args.events.now c.args.number l.turn c.in_ok-threads.threads.items c.in_ok-threads.ensures.threads
    c.in_ok-waits.waits c.in_ok-waits.ensures l.lanes.items l.seen.items l.places l.left l.invariant.0 c.loop-turn-test.true found.0 choice.0 found.1 choice.1 choice.2 in
    omega (arith, ready.0, l.seen.ok.0, l.invariant.0.marks.count_is)

pub ask-requires-clause-inside : goal.ask-requires-clause-inside
ask-requires-clause-inside c =
    let l = c.loop-turn in let found = c.unwrap-at.result in
    let choice = choice_of c.in_ok-waits.waits l.seen.items l.lanes.items l.ranks l.left c.choose.result found l.invariant.1 c.choose.ensures.some c.unwrap-at.ensures in
    let long = ap length c.as_slice-in-loop-turn-2.ensures.value in
    omega (arith, slice_get_within l.lanes.items found.0 choice.0 choice.1, long, length-set l.lanes.items found.0 (record { thread = c.index_mut.result.now.thread; places = c.index_mut.result.now.places; given = c.index_mut.result.now.given + 1 }))

pub ask-requires-clause-count : goal.ask-requires-clause-count
ask-requires-clause-count c =
    let l = c.loop-turn in let found = c.unwrap-at.result in
    let long = ap length c.as_slice-in-loop-turn-2.ensures.value in let ranks = ap length l.invariant.1 in
    ranks ∙ (map_length (ready_in c.in_ok-waits.waits l.seen.items) l.lanes.items
    ∙ (sym (length-set l.lanes.items found.0 (record { thread = c.index_mut.result.now.thread; places = c.index_mut.result.now.places; given = c.index_mut.result.now.given + 1 })) ∙ sym long))

pub ask_linked-requires-clause-inside : goal.ask_linked-requires-clause-inside
ask_linked-requires-clause-inside c =
    let l = c.loop-turn in let found = c.unwrap-at.result in
    let choice = choice_of c.in_ok-waits.waits l.seen.items l.lanes.items l.ranks l.left c.choose.result found l.invariant.1 c.choose.ensures.some c.unwrap-at.ensures in
    let ready = found_ready c.args.events.now c.args.number l.turn c.in_ok-threads.threads.items c.in_ok-threads.ensures.threads
    c.in_ok-waits.waits c.in_ok-waits.ensures l.lanes.items l.seen.items l.places l.left l.invariant.0 c.loop-turn-test.true found.0 choice.0 found.1 choice.1 choice.2 in
    omega (arith, ready.0, c.in_ok-links.ensures.places_are)

pub ask_linked-requires-clause-lanes : goal.ask_linked-requires-clause-lanes
ask_linked-requires-clause-lanes c =
    let l = c.loop-turn in let found = c.unwrap-at.result in
    let choice = choice_of c.in_ok-waits.waits l.seen.items l.lanes.items l.ranks l.left c.choose.result found l.invariant.1 c.choose.ensures.some c.unwrap-at.ensures in
    let old = c.index_mut.result.now in
    let same = c.index_mut.ensures.value ∙ get_or_from_slice_get l.lanes.items found.0 choice.0 old choice.1 in
    let next : Lane = record { thread = old.thread; places = old.places; given = old.given + 1 } in
    let threads = ap threads_in c.as_slice-in-loop-turn-4.ensures.value ∙ (threads_kept l.lanes.items found.0 choice.0 next choice.1 (ap (λ lane. lane.thread) same) ∙ l.invariant.0.one_each) in
    subst (λ ts. HaveLanes ts c.in_ok-links.links.items.items) (c.as_slice.ensures.value ∙ sym threads) c.in_ok-links.ensures.lanes_are

pub ask_linked-requires-clause-asked : goal.ask_linked-requires-clause-asked
ask_linked-requires-clause-asked c =
    let l = c.loop-turn in let found = c.unwrap-at.result in let es = c.args.events.now in let waits = c.in_ok-waits.waits in let links = c.in_ok-links.links in
    let choice = choice_of waits l.seen.items l.lanes.items l.ranks l.left c.choose.result found l.invariant.1 c.choose.ensures.some c.unwrap-at.ensures in
    let old = c.index_mut.result.now in
    let same = c.index_mut.ensures.value ∙ get_or_from_slice_get l.lanes.items found.0 choice.0 old choice.1 in
    let next : Lane = record { thread = old.thread; places = old.places; given = old.given + 1 } in
    let place = found_place es c.args.number l.turn c.in_ok-threads.threads.items c.in_ok-threads.ensures.threads
    waits c.in_ok-waits.ensures l.lanes.items l.seen.items l.places l.left l.invariant.0 c.loop-turn-test.true choice.0 found.1 choice.2 in
    let lanes = slice_set l.lanes.items found.0 next in let seen = slice_set l.seen.items found.1 true in
    let set = c.ask.ensures next (ap (λ xs. slice_get xs found.0) c.as_slice-in-loop-turn-2.ensures.value ∙ set_there l.lanes.items found.0 next (slice_get_within l.lanes.items found.0 choice.0 choice.1))
    ∙ ap (λ s. slice_set l.ranks found.0 (ready_in waits s next)) c.as_slice-in-loop-turn.ensures.value in
    let asked = turn_asked es l.places waits links l.lanes.items l.seen.items l.ranks c.ask.new.ranks found.0 found.1 choice.0 next l.invariant.0.lanes_are
    (subst AreThreadsRising (sym l.invariant.0.one_each) c.in_ok-threads.ensures.threads.rising)
    (subst (λ ts. HaveLinks es ts waits links) (c.as_slice.ensures.value ∙ sym l.invariant.0.one_each) c.in_ok-links.ensures)
    l.invariant.1 choice.1 place set in
    subst (λ s. AreAskedBut waits s c.as_slice-in-loop-turn-4.result.now c.ask.new.ranks links.items.items found.1 (length links.items.items)) (sym c.as_slice-in-loop-turn-3.ensures.value)
    (subst (λ ls. AreAskedBut waits seen ls c.ask.new.ranks links.items.items found.1 (length links.items.items)) (sym c.as_slice-in-loop-turn-4.ensures.value) asked)

pub loop-turn-preserved : goal.loop-turn-preserved
loop-turn-preserved c =
    let l = c.loop-turn in let found = c.unwrap-at.result in let es = c.args.events.now in let threads = c.in_ok-threads.threads.items in let waits = c.in_ok-waits.waits in
    let choice = choice_of waits l.seen.items l.lanes.items l.ranks l.left c.choose.result found l.invariant.1 c.choose.ensures.some c.unwrap-at.ensures in
    let old = c.index_mut.result.now in
    let same = c.index_mut.ensures.value ∙ get_or_from_slice_get l.lanes.items found.0 choice.0 old choice.1 in
    let next : Lane = record { thread = old.thread; places = old.places; given = old.given + 1 } in
    let taken = turn_taken es c.args.number l.turn threads c.in_ok-threads.ensures.threads waits c.in_ok-waits.ensures
    l.lanes.items l.seen.items l.places l.left l.invariant.0 c.loop-turn-test.true found.0 found.1 choice.0 next choice.1 choice.2 choice.3
    (ap (λ lane. lane.thread) same) (ap (λ lane. lane.places.items) same) (ap (λ lane. lane.given + 1) same) (length-set l.seen.items found.1 true) in
    let lanes = slice_set l.lanes.items found.0 next in let seen = slice_set l.seen.items found.1 true in
    let readies = filter_map (ready_in waits l.seen.items) l.lanes.items in (
      subst (AreTurning es c.args.number (l.turn + 1) threads lanes seen c.push.new.self) (sym choice.4)
          (subst (λ ps. AreTurning es c.args.number (l.turn + 1) threads lanes seen ps (l.left / length readies)) (sym c.in_ok-push.ensures.ok) taken),
      c.ask_linked.ensures ∙ ap (λ s. map (ready_in waits s) c.as_slice-in-loop-turn-4.result.now) c.as_slice-in-loop-turn-3.ensures.value ∙ ap (map (ready_in waits seen)) c.as_slice-in-loop-turn-4.ensures.value,
    )

pub returns-clause-order : goal.returns-clause-order
returns-clause-order c =
    let l = c.loop-turn in (
      c.in_ok-threads.threads.items,
      c.in_ok-threads.ensures.threads,
      turning_ends c.args.events.now c.args.number l.turn l.left c.in_ok-threads.threads.items l.lanes.items l.seen.items l.places c.loop-turn-test.false l.invariant.0,
    )

pub returns-clause-linear : goal.returns-clause-linear
returns-clause-linear c =
    let l = c.loop-turn in
    subst (IsLinear c.args.events.now)
    (sym (turning_ends c.args.events.now c.args.number l.turn l.left c.in_ok-threads.threads.items l.lanes.items l.seen.items l.places c.loop-turn-test.false l.invariant.0))
    (order_linear c.args.events.now c.in_ok-threads.threads.items c.args.number c.in_ok-threads.ensures.threads)
