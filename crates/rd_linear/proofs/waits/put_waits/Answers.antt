use Rattle.std.proofs.Common.{◌≡◌, Some, ap, arith, sym, ◌∙◌}
use Rattle.std.specs.Prelude.{slice_get}
use Rattle.std.proofs.lemmas.Option.{slice_get-get_or}
use Rattle.rd_linear.specs.Noting.{waits_by}
use Rattle.rd_linear.specs.declared.waits.Part.{Part}
use Rattle.rd_linear.specs.declared.waits.Waits.{Waits}
use Rattle.rd_linear.proofs.NotingLemmas.{noted_more}
use Rattle.rd_linear.proofs.WaitsByLemmas.{waits_hold, waits_more}
use Rattle.rd_linear.proofs.waits.put_waits.Goals as goal

pub loop-place-preserved : goal.loop-place-preserved
loop-place-preserved c =
    let es = c.args.events.now in let n = c.loop-place.place in let event = c.index-events-place.result in
    let at : slice_get es n ≡ Some event = slice_get-get_or es n event c.loop-place-test.true ∙ ap Some (sym c.index-events-place.is) in
    let notes = c.loop-place.notes in
    let old = c.loop-place.waits in
    let new : Waits = record { places = c.push_waits.new.places; parts = c.push.new.self } in
    let part : Part = record { from = c.loop-place.from; to = c.in_ok-to.to } in
    record {
      noted = noted_more es n event at notes c.note.new.notes c.loop-place.invariant.noted c.in_ok-note.ensures.threads c.in_ok-note.ensures.releases c.in_ok-note.ensures.unshares;
      waits = waits_more es n old new (waits_by notes event) part c.loop-place.invariant.waits (waits_hold c.requires.formed.0 es c.requires.formed.1 n event at notes c.loop-place.invariant.noted)
          c.in_ok-push_waits.ensures c.in_ok-push.ensures.items c.loop-place.invariant.from (omega (arith, c.in_ok-to.ensures, c.len-in-loop-place.ensures, c.push_waits.new.places.ok.0));
      from = omega (arith, c.in_ok-to.ensures, c.len-in-loop-place.ensures, c.push_waits.new.places.ok.0);
    }
