use Rattle.std.proofs.Common.{◌≡◌, ◌<◌, ◌+◌, length, take, get_or, sym, ap, subst, ◌∙◌, arith}
use Rattle.std.proofs.lemmas.List.{get_or_default, length-set, take_all}
use Rattle.rd_numbered_logs.proofs.MarkLemmas.{item_got}
use Rattle.rd_weave.proofs.CountLemmas.{all_counted, counted}
use Rattle.rd_weavings.specs.declared.spots.Spot.{Spot}
use Rattle.rd_weavings.specs.Logs.{given}
use Rattle.rd_weave.proofs.counts.counts_of.Goals as goal

pub loop-spot-preserved : goal.loop-spot-preserved
loop-spot-preserved c =
    let i = c.loop-spot.spot-index in
    let no_spot : Spot = record { log = 0; place = 0 } in
    let s : Spot = get_or c.args.spots.now i no_spot in
    let within : i < length c.args.spots.now = grind arith in
    let is : s ≡ get_or c.args.spots.now i s = get_or_default c.args.spots.now i no_spot s within in
    let next = c.requires i s (item_got c.args.spots.now i s within is) in
    let known : s.log < length c.loop-spot.counts.items = subst (λ n. s.log < n) (sym c.loop-spot.invariant.count) next.0 in
    record {
      count = length-set c.loop-spot.counts.items s.log (s.place + 1) ∙ c.loop-spot.invariant.count;
      each = counted c.args.spots.now i s within is c.loop-spot.counts.items c.args.logs known next.1 c.loop-spot.invariant.each;
    }

pub returns : goal.returns
returns c =
    let whole : take c.loop-spot.spot-index c.args.spots.now ≡ c.args.spots.now = take_all c.loop-spot.spot-index c.args.spots.now (grind arith) in
    all_counted (given c.args.spots.now) c.loop-spot.counts.items c.args.logs c.loop-spot.invariant.count
    (λ l below. c.loop-spot.invariant.each l below ∙ ap (λ spots. given spots l) whole)
