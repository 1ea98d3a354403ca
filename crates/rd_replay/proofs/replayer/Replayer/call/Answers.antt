use Rattle.std.proofs.Common.{Some, arith, ap, refl, sym, ◌∙◌}
use Rattle.std.proofs.lemmas.Option.{slice_get-get_or}
use Rattle.rd_replay.proofs.ReplayerLemmas.{differs_answer, differs_stands, fits_here, inside_here, same_answer, same_stands, stands_stopped, stands_unshipped}
use Rattle.rd_replay.proofs.replayer.Replayer.call.Goals as goal

pub returns-in-NotShipped-clause-stands : goal.returns-in-NotShipped-clause-stands
returns-in-NotShipped-clause-stands c = λ kinds calls stands may. stands_unshipped c.args.self.now c.args.self.now kinds calls (c.args.line, c.args.call.now) stands may c.in-NotShipped.is refl

pub returns-in-Differs-clause-stands : goal.returns-in-Differs-clause-stands
returns-in-Differs-clause-stands c = λ kinds calls stands may.
    stands_stopped c.args.self.now c.args.self.now kinds calls (c.args.line, c.args.call.now) c.in-Differs.line c.in-Differs.expected stands may c.in-Differs.is refl

pub index_mut-object-requires : goal.index_mut-object-requires
index_mut-object-requires c =
    let (kinds, calls, stands, may) = c.requires in
    let inside = inside_here kinds calls c.args.self.now.objects.items c.args.call.now (stands.objects c.in-Exact.is) may in
    let count = c.args.self.now.objects.ok.0 in
    omega (arith, inside, count)

-- the object of the call stands in its place
pub compare-requires-clause-taken : goal.compare-requires-clause-taken
compare-requires-clause-taken c =
    let (kinds, calls, stands, may) = c.requires in
    let objects = c.args.self.now.objects.items in
    let kept = stands.objects c.in-Exact.is in
    (fits_here kinds calls objects c.args.call.now c.index_mut-object.result.now kept may
    (slice_get-get_or objects c.args.call.now.object c.index_mut-object.result.now (inside_here kinds calls objects c.args.call.now kept may)
    ∙ ap Some (sym c.index_mut-object.ensures.value))).1

pub compare-requires-clause-some : goal.compare-requires-clause-some
compare-requires-clause-some c =
    let (kinds, calls, stands, may) = c.requires in
    let objects = c.args.self.now.objects.items in
    let kept = stands.objects c.in-Exact.is in
    (fits_here kinds calls objects c.args.call.now c.index_mut-object.result.now kept may
    (slice_get-get_or objects c.args.call.now.object c.index_mut-object.result.now (inside_here kinds calls objects c.args.call.now kept may)
    ∙ ap Some (sym c.index_mut-object.ensures.value))).0

pub returns-in-None-clause-answer : goal.returns-in-None-clause-answer
returns-in-None-clause-answer c = λ kinds calls stands may.
    let objects = c.args.self.now.objects.items in
    let kept = stands.objects c.in-Exact.is in
    let at = slice_get-get_or objects c.args.call.now.object c.index_mut-object.result.now (inside_here kinds calls objects c.args.call.now kept may)
    ∙ ap Some (sym c.index_mut-object.ensures.value) in
    same_answer kinds calls c.args.self.now c.args.self.now (c.args.line, c.args.call.now) c.index_mut-object.result.now c.compare.new.object stands may c.in-Exact.is at
    c.in_ok-compare.ensures.kind (sym c.in_ok-compare.ensures.answer ∙ c.in-None.is)

pub returns-in-None-clause-stands : goal.returns-in-None-clause-stands
returns-in-None-clause-stands c = λ kinds calls stands may.
    let objects = c.args.self.now.objects.items in
    let kept = stands.objects c.in-Exact.is in
    let at = slice_get-get_or objects c.args.call.now.object c.index_mut-object.result.now (inside_here kinds calls objects c.args.call.now kept may)
    ∙ ap Some (sym c.index_mut-object.ensures.value) in
    same_stands kinds calls c.args.self.now _ (c.args.line, c.args.call.now) c.index_mut-object.result.now c.compare.new.object stands may c.in-Exact.is at
    c.in_ok-compare.ensures.kind (sym c.in_ok-compare.ensures.answer ∙ c.in-None.is) (c.in_ok-compare.ensures.same c.in-None.is) refl refl

pub returns-in-Some-clause-answer : goal.returns-in-Some-clause-answer
returns-in-Some-clause-answer c = λ kinds calls stands may.
    let objects = c.args.self.now.objects.items in
    let kept = stands.objects c.in-Exact.is in
    let at = slice_get-get_or objects c.args.call.now.object c.index_mut-object.result.now (inside_here kinds calls objects c.args.call.now kept may)
    ∙ ap Some (sym c.index_mut-object.ensures.value) in
    differs_answer kinds calls c.args.self.now c.args.self.now (c.args.line, c.args.call.now) c.index_mut-object.result.now c.compare.new.object stands may c.in-Exact.is at
    c.in_ok-compare.ensures.kind c.in-Some.expected (sym c.in_ok-compare.ensures.answer ∙ c.in-Some.is)

pub returns-in-Some-clause-stands : goal.returns-in-Some-clause-stands
returns-in-Some-clause-stands c = λ kinds calls stands may.
    let objects = c.args.self.now.objects.items in
    let kept = stands.objects c.in-Exact.is in
    let at = slice_get-get_or objects c.args.call.now.object c.index_mut-object.result.now (inside_here kinds calls objects c.args.call.now kept may)
    ∙ ap Some (sym c.index_mut-object.ensures.value) in
    differs_stands kinds calls c.args.self.now _ (c.args.line, c.args.call.now) c.index_mut-object.result.now c.compare.new.object stands may c.in-Exact.is at
    c.in_ok-compare.ensures.kind c.in-Some.expected (sym c.in_ok-compare.ensures.answer ∙ c.in-Some.is) refl
