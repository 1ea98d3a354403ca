use Rattle.std.proofs.Common.{◌≡◌, get_or, arith}
use Rattle.rd_event.proofs.FrontLemmas.{front_small, front_decimal}
use Rattle.rd_event.proofs.front.short_number.Goals as goal

pub returns-clause-decimal : goal.returns-clause-decimal
returns-clause-decimal c =
    let found = c.first_digits-number.result in
    let told = c.first_digits-number.ensures in
    let first : get_or c.args.bytes.now 0 0 ≡ 48 → found.1 ≡ 1 = λ zero. omega (arith, zero, c.if-digits-eq0.false, c.else-bytes-eq48.either) in
    front_decimal c.args.bytes.now found.1 found.0 (omega (arith, c.if-digits-eq0.false)) told.few told.within first told.all told.number

pub returns-clause-small : goal.returns-clause-small
returns-clause-small c =
    let told = c.first_digits-number.ensures in
    omega (arith, told.number, front_small c.args.bytes.now c.first_digits-number.result.1 told.few told.all)
