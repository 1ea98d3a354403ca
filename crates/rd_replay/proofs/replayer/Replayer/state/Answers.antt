use Rattle.std.proofs.Common.{◌≡◌, ◌<◌, Some, arith, ap, sym, ◌∙◌}
use Rattle.std.specs.Prelude.{length}
use Rattle.std.proofs.lemmas.Option.{slice_get-get_or}
use Rattle.std.proofs.lemmas.Result.{IfOk-weaker}
use Rattle.rd_object.specs.declared.shapes.ReplayEnd.TheVariants.{Exact}
use Rattle.rd_replay.proofs.ReplayerLemmas.{held_state}
use Rattle.rd_replay.proofs.replayer.Replayer.state.Goals as goal

pub returns : goal.returns
returns c =
    let (kinds_known, calls_known, known, within, ends) = c.requires in
    let exact : c.args.self.now.end ≡ Exact = known.end ∙ ends in
    IfOk-weaker c.shape.result _ _ (λ shape is kinds calls stands inside.
    let kept = stands.objects exact in
    let there : c.args.object < length c.args.self.now.objects.items = omega (arith, kept.count, inside) in
    held_state kinds calls c.args.self.now.objects.items c.args.object c.index.result.now kept inside
    (slice_get-get_or c.args.self.now.objects.items c.args.object c.index.result.now there ∙ ap Some (sym c.index.ensures))
    ∙ ap Some (sym is)) c.shape.ensures
