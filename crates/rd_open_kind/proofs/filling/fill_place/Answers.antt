use Rattle.std.proofs.Common.{◌≡◌, ◌%◌, ◌/◌, false, Option, Some, None, is_some, arith, refl, sym, ◌∙◌}
use Rattle.std.specs.Prelude.{option_map}
use Rattle.rd_open_kind.proofs.FilledLemmas.{may_fill}
use Rattle.rd_open_kind.proofs.filling.fill_place.Goals as goal

-- what isn't there stands for nothing
none_there : {X Y : Type 0} (f : X → Y) (x : Option X) → is_some x ≡ false → option_map f x ≡ None
none_there f (Some x) e = absurd (cc)
none_there f None e = refl

pub pair-set-requires : goal.pair-set-requires
pair-set-requires c =
    let inside = c.requires in
    rw c.truth_of.ensures (may_fill c.args.draft.now c.args.value (c.args.place % 16) (c.args.place / 16) c.methods-methods.ensures.valid c.if-first-second.true
    (omega (arith, inside)) (sym c.formula.ensures ∙ none_there _ c.formula.result (c.if-is_none.ensures)))
