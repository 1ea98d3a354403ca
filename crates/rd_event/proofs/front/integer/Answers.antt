use Rattle.rd_event.proofs.FrontLemmas.{length_is, value_is, unsigned_front, signed_front}
use Rattle.rd_event.proofs.front.integer.Goals as goal

pub returns-then-sign-eq0-clause-length : goal.returns-then-sign-eq0-clause-length
returns-then-sign-eq0-clause-length c =
    let told = c.in_ok-number.ensures in
    length_is (unsigned_front c.args.bytes.now c.sign_length-sign.result c.in_ok-number.number c.in_ok-number.digits c.if-sign-eq0.true told.small told.decimal told.within told.ended)

pub returns-then-sign-eq0-clause-value : goal.returns-then-sign-eq0-clause-value
returns-then-sign-eq0-clause-value c =
    let told = c.in_ok-number.ensures in
    value_is (unsigned_front c.args.bytes.now c.sign_length-sign.result c.in_ok-number.number c.in_ok-number.digits c.if-sign-eq0.true told.small told.decimal told.within told.ended)

pub returns-clause-length : goal.returns-clause-length
returns-clause-length c =
    let told = c.in_ok-number.ensures in
    let sign = c.sign_length-sign.ensures.sign c.if-sign-eq0.false in
    length_is (signed_front c.args.bytes.now c.sign_length-sign.result c.in_ok-number.number c.in_ok-number.digits sign told.small c.if-number-eq0.false told.decimal told.within told.ended)

pub returns-clause-value : goal.returns-clause-value
returns-clause-value c =
    let told = c.in_ok-number.ensures in
    let sign = c.sign_length-sign.ensures.sign c.if-sign-eq0.false in
    value_is (signed_front c.args.bytes.now c.sign_length-sign.result c.in_ok-number.number c.in_ok-number.digits sign told.small c.if-number-eq0.false told.decimal told.within told.ended)
