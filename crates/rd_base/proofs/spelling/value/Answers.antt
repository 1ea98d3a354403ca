use Rattle.std.proofs.Common.{◌<◌, ◌^◌, Some, arith, w64, sym, ap, ◌∙◌}
use Rattle.std.proofs.lemmas.Int.{to_z_pos}
use Rattle.rd_base.specs.declared.values.Value.TheVariants.{Int}
use Rattle.rd_base.proofs.ValueLemmas.{short_value}
use Rattle.rd_base.proofs.spelling.value.Goals as goal

pub returns-in-Some-clause-found : goal.returns-in-Some-clause-found
returns-in-Some-clause-found c =
    let half : c.in-Some.number < 2 ^ 63 = omega (arith, c.in-Some.ensures.0) in
    short_value _ _ c.in-Some.ensures.0 c.in-Some.ensures.1 ∙ ap (λ z. Some (Int z)) (sym (to_z_pos w64 _ half))
