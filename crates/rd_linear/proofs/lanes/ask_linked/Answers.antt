use Rattle.std.proofs.Common.{◌≡◌, ◌+◌, ◌-◌, arith, subst, sym, ◌∙◌}
use Rattle.std.proofs.lemmas.Option.{slice_get_within}
use Rattle.rd_linear.specs.Links.{AreAskedBut}
use Rattle.rd_linear.proofs.AskingLemmas.{HasNumber, asked_along, asked_from, asked_through, first_number, has_one, lane_count, link_there, next_number, smaller_number}
use Rattle.rd_linear.proofs.LinkLemmas.{index_default}
use Rattle.rd_linear.proofs.lanes.ask_linked.Goals as goal

pub loop-number-init : goal.loop-number-init
loop-number-init c =
    let links = c.args.links.now in let place = c.args.place in let items = links.items.items in
    let is = c.index-number.ensures ∙ index_default links.last.items place c.index-number.result.now c.requires.inside in (
      subst (λ n. HasNumber items place n) (sym is) (first_number links place c.requires.chained),
      subst (λ n. AreAskedBut c.args.waits.now c.args.seen.now c.args.lanes.now c.args.ranks.now items place n) (sym is)
          (asked_from c.args.waits.now c.args.seen.now c.args.lanes.now c.args.ranks.now links place c.requires.chained c.requires.asked),
    )

pub index-link-requires : goal.index-link-requires
index-link-requires c =
    let items = c.args.links.now.items in let number = c.loop-number.number in
    let h = c.loop-number.invariant.0 (number - 1) (omega (arith, c.loop-number-test.true)) in
    let w = slice_get_within items.items (number - 1) h.0 h.1 in omega (arith, w, items.ok.0)

pub ask-requires-clause-inside : goal.ask-requires-clause-inside
ask-requires-clause-inside c =
    let items = c.args.links.now.items.items in let number = c.loop-number.number in let link = c.index-link.result.now in
    let there = link_there items c.args.place number link c.loop-number.invariant.0 (omega (arith, c.loop-number-test.true)) c.index-link.ensures in
    let l = c.requires.lanes (number - 1) link there.0 in omega (arith, l, lane_count c.args.lanes.now)

pub loop-number-smaller : goal.loop-number-smaller
loop-number-smaller c =
    let items = c.args.links.now.items.items in let number = c.loop-number.number in let link = c.index-link.result.now in
    let there = link_there items c.args.place number link c.loop-number.invariant.0 (omega (arith, c.loop-number-test.true)) c.index-link.ensures in
    let l = smaller_number c.args.links.now (number - 1) link c.requires.chained there.0 in omega (arith, l, c.loop-number-test.true)

pub loop-number-preserved : goal.loop-number-preserved
loop-number-preserved c =
    let links = c.args.links.now in let items = links.items.items in let number = c.loop-number.number in let link = c.index-link.result.now in let place = c.args.place in
    let lanes = c.args.lanes.now in
    let there = link_there items place number link c.loop-number.invariant.0 (omega (arith, c.loop-number-test.true)) c.index-link.ensures in
    let l = c.requires.lanes (number - 1) link there.0 in
    let one = has_one lanes link.lane (omega (arith, l, lane_count lanes)) in
    let same : number ≡ (number - 1) + 1 = omega (arith, c.loop-number-test.true) in (
      next_number links place (number - 1) link c.requires.chained there.0 there.1,
      asked_along c.args.waits.now c.args.seen.now lanes c.loop-number.ranks c.ask.new.ranks links place (number - 1) link c.requires.chained there.0 there.1 one.0 one.1
          (c.ask.ensures one.0 one.1) (subst (λ n. AreAskedBut c.args.waits.now c.args.seen.now lanes c.loop-number.ranks items place n) same c.loop-number.invariant.1),
    )

pub returns : goal.returns
returns c =
    asked_through c.args.waits.now c.args.seen.now c.args.lanes.now c.loop-number.ranks c.args.links.now.items.items c.args.place c.loop-number.number
    (omega (arith, c.loop-number-test.false)) c.loop-number.invariant.1
