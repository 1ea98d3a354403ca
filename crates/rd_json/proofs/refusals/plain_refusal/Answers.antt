use Rattle.std.proofs.Common.{arith}
use Rattle.rd_reading.specs.RefusedTexts.{spec_cause_text}
use Rattle.rd_json.proofs.PlainLemmas.{refusal_plain}
use Rattle.rd_json.proofs.refusals.plain_refusal.Goals as goal

pub returns : goal.returns
returns c =
    let refused = c.args.refused.now in
    refusal_plain refused.line refused.place (spec_cause_text refused.cause) (omega (arith, c.from-line.type_inv, c.from-line.ensures))
    (omega (arith, c.from-place.type_inv, c.from-place.ensures)) c.plain_cause.ensures
