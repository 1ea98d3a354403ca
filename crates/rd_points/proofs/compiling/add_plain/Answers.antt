use Rattle.std.proofs.Common.{[], ◌∷◌, ◌++◌, ap, ◌∙◌}
use Rattle.std.specs.Prelude.{is_none}
use Rattle.rd_points.specs.Classes.{slot_at}
use Rattle.rd_points.proofs.BlockLemmas.{none_is, pushed}
use Rattle.rd_points.proofs.compiling.add_plain.Goals as goal

pub loop-i-preserved : goal.loop-i-preserved
loop-i-preserved c =
    let made = none_is c.slot_at.result c.is_none.result c.is_none.ensures ∙ ap is_none c.slot_at.ensures in
    pushed (λ i. is_none (slot_at i)) c.args.plain.now.items c.loop-i.plain.items c.push.new.self.items c.loop-i.i
    (c.in_ok-push.ensures.items ∙ ap (λ x. c.loop-i.plain.items ++ x ∷ []) made) c.loop-i.invariant
