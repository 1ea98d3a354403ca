use Rattle.std.proofs.Common.{Some, ap, sym, ◌∙◌, refl}
use Rattle.std.proofs.lemmas.Option.{slice_get-get_or}
use Rattle.rd_linear.specs.declared.lanes.Lane.{Lane}
use Rattle.rd_linear.proofs.ThreadLemmas.{place_put}
use Rattle.rd_linear.proofs.lanes.add_place.Goals as goal

pub returns : goal.returns
returns c =
    let lanes = c.args.lanes.now.items in
    let old = c.index_mut.result.now in
    let next : Lane = record { thread = old.thread; places = c.push.new.self; given = old.given } in
    place_put lanes c.args.at c.args.place old next (slice_get-get_or lanes c.args.at old c.requires.inside ∙ ap Some (sym c.index_mut.ensures.value)) refl refl
    c.in_ok-push.ensures.items
