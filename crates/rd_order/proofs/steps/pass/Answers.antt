use Rattle.std.proofs.Common.{◌≡◌, ◌+◌, Some, slice_get, arith, ap, subst, sym, ◌∙◌}
use Rattle.std.proofs.lemmas.Option.{slice_get-get_or}
use Rattle.rd_order.specs.Paths.{IsFarthest}
use Rattle.rd_order.specs.Noting.{AreNoted}
use Rattle.rd_order.proofs.NextLemmas.{comes_none, comes_some, next_is}
use Rattle.rd_order.proofs.NotingLemmas.{noted_more, noted_still}
use Rattle.rd_order.proofs.steps.pass.Goals as goal

pub returns-in_ok-note-clause-step : goal.returns-in_ok-note-clause-step
returns-in_ok-note-clause-step c =
    let es = c.args.events.now in let j = c.args.j in let place = c.args.place in let event = c.index-events-place.result in
    let at : slice_get es place ≡ Some event = slice_get-get_or es place event (omega (arith, c.requires.below, c.requires.to)) ∙ ap Some (sym c.index-events-place.is) in
    let noted : AreNoted es j (place + 1) c.args.notes.now = subst (λ lo. AreNoted es j lo c.args.notes.now) c.requires.noted.1 c.requires.noted.2 in
    let is : IsFarthest es j place c.next-found.result = subst (IsFarthest es j place) (sym c.next-found.ensures) (next_is es j place event c.args.notes.now at noted) in
    is

pub returns-in_ok-note-clause-noted : goal.returns-in_ok-note-clause-noted
returns-in_ok-note-clause-noted c =
    let es = c.args.events.now in let j = c.args.j in let place = c.args.place in let event = c.index-events-place.result in
    let at : slice_get es place ≡ Some event = slice_get-get_or es place event (omega (arith, c.requires.below, c.requires.to)) ∙ ap Some (sym c.index-events-place.is) in
    let noted : AreNoted es j (place + 1) c.args.notes.now = subst (λ lo. AreNoted es j lo c.args.notes.now) c.requires.noted.1 c.requires.noted.2 in
    let is : IsFarthest es j place c.next-found.result = subst (IsFarthest es j place) (sym c.next-found.ensures) (next_is es j place event c.args.notes.now at noted) in
    noted_more es j place event at (comes_some es j place c.next-found.result is (sym c.is_some.ensures ∙ c.if-is_some.true)) c.args.notes.now c.note.new.notes noted
    c.in_ok-note.ensures.threads c.in_ok-note.ensures.acquires c.in_ok-note.ensures.shares

pub returns-else-is_some-clause-step : goal.returns-else-is_some-clause-step
returns-else-is_some-clause-step c =
    let es = c.args.events.now in let j = c.args.j in let place = c.args.place in let event = c.index-events-place.result in
    let at : slice_get es place ≡ Some event = slice_get-get_or es place event (omega (arith, c.requires.below, c.requires.to)) ∙ ap Some (sym c.index-events-place.is) in
    let noted : AreNoted es j (place + 1) c.args.notes.now = subst (λ lo. AreNoted es j lo c.args.notes.now) c.requires.noted.1 c.requires.noted.2 in
    let is : IsFarthest es j place c.next-found.result = subst (IsFarthest es j place) (sym c.next-found.ensures) (next_is es j place event c.args.notes.now at noted) in
    is

pub returns-else-is_some-clause-noted : goal.returns-else-is_some-clause-noted
returns-else-is_some-clause-noted c =
    let es = c.args.events.now in let j = c.args.j in let place = c.args.place in let event = c.index-events-place.result in
    let at : slice_get es place ≡ Some event = slice_get-get_or es place event (omega (arith, c.requires.below, c.requires.to)) ∙ ap Some (sym c.index-events-place.is) in
    let noted : AreNoted es j (place + 1) c.args.notes.now = subst (λ lo. AreNoted es j lo c.args.notes.now) c.requires.noted.1 c.requires.noted.2 in
    let is : IsFarthest es j place c.next-found.result = subst (IsFarthest es j place) (sym c.next-found.ensures) (next_is es j place event c.args.notes.now at noted) in
    noted_still es j place c.args.notes.now (comes_none es j place c.next-found.result c.requires.below is (sym c.is_some.ensures ∙ c.if-is_some.false)) noted
