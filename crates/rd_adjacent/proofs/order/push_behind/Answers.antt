use Rattle.std.proofs.Common.{◌≡◌, ◌++◌, [], ◌∷◌, cond, ap, sym, ◌∙◌}
use Rattle.std.proofs.lemmas.List.{append_assoc}
use Rattle.rd_adjacent.specs.Beside.{places_behind, is_other}
use Rattle.rd_adjacent.proofs.RangeLemmas.{filter_next}
use Rattle.rd_adjacent.proofs.order.push_behind.Goals as goal

pub loop-place-preserved : goal.loop-place-preserved
loop-place-preserved c =
    let es = c.args.events.now in let i = c.args.two.now.i in let j = c.args.two.now.j in let n = c.loop-place.place in
    let old = c.args.places.now in
    c.in_ok-push_if.ensures
    ∙ (λ k. c.loop-place.invariant k ++ cond (c.is_other-wanted.ensures k) (n ∷ []) [])
    ∙ append_assoc old (places_behind es i j n) (cond (is_other es i j n) (n ∷ []) [])
    ∙ ap (λ l. old ++ l) (sym (filter_next (is_other es i j) n))
