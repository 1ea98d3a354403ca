use Rattle.std.proofs.Common.{◌≡◌, ◌∙◌, Some, ap, length, refl, sym}
use Rattle.std.specs.Cmp.Lexicographic.{same_text}
use Rattle.std.proofs.lemmas.Option.{slice_get_read}
use Rattle.rd_formulas.proofs.scope.place_of.Goals as goal

pub returns-then-eq-clause-some : goal.returns-then-eq-clause-some
returns-then-eq-clause-some c =
    let same : c.items.result.now ≡ c.args.name.now = same_text _ _ (sym c.if-eq.true ∙ c.eq.ensures) in
    slice_get_read c.args.names.now (length c.args.names.now) c.loop-place.place c.index-names-place.result refl c.loop-place-test.true c.index-names-place.is
    ∙ ap Some (sym c.items.ensures.value ∙ same)
