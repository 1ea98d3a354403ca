use Rattle.std.proofs.Common.{arith, subst, sym}
use Rattle.rd_reading.specs.RefusedTexts.{spec_cause_text}
use Rattle.rd_report.specs.Writing.{ArePlain}
use Rattle.rd_json.proofs.PlainLemmas.{other_plain, pair_plain, spec_limit_plain}
use Rattle.rd_json.proofs.refusals.plain_cause.Goals as goal

pub returns-in-MissingPair : goal.returns-in-MissingPair
returns-in-MissingPair c =
    subst (λ cause. ArePlain (spec_cause_text cause)) (sym c.in-MissingPair.is)
    (pair_plain c.in-MissingPair.first c.in-MissingPair.second c.items-first.ensures.name c.items-second.ensures.name)

pub returns-in-Limit : goal.returns-in-Limit
returns-in-Limit c =
    subst (λ cause. ArePlain (spec_cause_text cause)) (sym c.in-Limit.is)
    (spec_limit_plain c.in-Limit.field-0 c.in-Limit.number (omega (arith, c.from-number.type_inv, c.from-number.ensures)))

pub returns-in_default : goal.returns-in_default
returns-in_default c = other_plain c.args.cause.now (λ first second is. c.in_default.not-MissingPair first second is) (λ name number is. c.in_default.not-Limit name number is)
