use Rattle.std.proofs.Common.{◌+◌, ℕ, [], ◌∷◌, ◌++◌, Option, ap, ◌∙◌, arith}
use Rattle.rd_points.specs.declared.touches.Touch.{Touch}
use Rattle.rd_points.specs.Classes.{slot_at}
use Rattle.rd_points.proofs.BlockLemmas.{pushed}
use Rattle.rd_points.proofs.compiling.block_touches.Goals as goal

pub loop-i-preserved : goal.loop-i-preserved
loop-i-preserved c =
    let i = c.loop-i.i in
    let touch : ℕ → Touch = λ k. record { class = c.args.first + k; slot = slot_at k } in
    let numbered : ℕ → Touch = λ k. record { class = c.args.first + k; slot = c.slot_at.result } in
    let slotted : Option ℕ → Touch = λ s. record { class = c.args.first + i; slot = s } in
    let made = ap numbered c.from.ensures ∙ ap slotted c.slot_at.ensures in
    (pushed touch [] c.loop-i.touches.items c.push.new.self.items i (c.push.ensures.items ∙ ap (λ x. c.loop-i.touches.items ++ x ∷ []) made) c.loop-i.invariant.0, omega arith)
