use Rattle.std.proofs.Common.{◌+◌, ◌<◌, take, drop, length, not, set, ap, sym, ◌∙◌, arith}
use Rattle.std.specs.Prelude.{vec_capacity}
use Rattle.std.proofs.Math.ListN.{length-set}
use Rattle.rd_epoch.specs.EpochParts.{is_heard}
use Rattle.rd_epoch.specs.declared.kept.Epoch.{Epoch}
use Rattle.rd_epoch.proofs.LineLemmas.{front_no, front_yes, rest_more, rest_set}
use Rattle.rd_epoch.proofs.reads.keep_unheard.Goals as goal
use Rattle.rd_epoch.proofs.reads.keep_unheard.Goals.{then-not-is_heard, else-not-is_heard}

pub loop-place-preserved : goal.loop-place-preserved
loop-place-preserved g c =
    let inv = c.loop-place.invariant in
    let xs = c.loop-place.epochs.items in
    let old = c.args.epochs.now.items in
    let y = c.index.result.now in
    let p = λ (e : Epoch). not (is_heard c.args.clock.now e) in
    let inside : c.loop-place.place < length old = omega (arith, c.loop-place-test.true, c.len-place-end.ensures, inv.size) in
    elim c.if-not-is_heard.branch [
      | then-not-is_heard w ↦
          let items = ap (λ v. v.items) w.epochs-is in
          record {
            behind = omega (arith, inv.behind, w.kept-is);
            size = ap length items ∙ length-set xs c.loop-place.kept y ∙ inv.size;
            front = ap (take c.if-not-is_heard.kept) items ∙ ap (λ k. take k (set xs c.loop-place.kept y)) w.kept-is
                ∙ front_yes p xs old c.loop-place.kept c.loop-place.place y inv.behind inside inv.size inv.front inv.rest y c.index.ensures (ap not (sym c.is_heard.ensures.value ∙ w.if-not-is_heard.true));
            rest = ap (drop (c.loop-place.place + 1)) items ∙ rest_set p xs old c.loop-place.kept c.loop-place.place y inv.behind inside inv.size inv.front inv.rest y;
            cost = omega (arith, c.is_heard.ensures.cost, inv.cost);
            room = ap vec_capacity w.epochs-is ∙ inv.room;
          }
      | else-not-is_heard w ↦
          let items = ap (λ v. v.items) w.epochs-is in
          record {
            behind = omega (arith, inv.behind, w.kept-is);
            size = ap length items ∙ inv.size;
            front = ap (take c.if-not-is_heard.kept) items ∙ ap (λ k. take k xs) w.kept-is
                ∙ front_no p xs old c.loop-place.kept c.loop-place.place y inv.behind inside inv.size inv.front inv.rest
                (ap p (sym c.index.ensures) ∙ ap not (sym c.is_heard.ensures.value ∙ w.if-not-is_heard.false));
            rest = ap (drop (c.loop-place.place + 1)) items ∙ rest_more p xs old c.loop-place.kept c.loop-place.place y inv.behind inside inv.size inv.front inv.rest;
            cost = omega (arith, c.is_heard.ensures.cost, inv.cost);
            room = ap vec_capacity w.epochs-is ∙ inv.room;
          }
    ]
