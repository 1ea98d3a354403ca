use Rattle.std.proofs.Common.{◌+◌, ◌*◌, arith, ◌∙◌, ap, refl}
use Rattle.rd_base.proofs.IntegerLemmas.{short_more, short_front, short_read}
use Rattle.rd_base.proofs.spelling.short_number.Goals as goal

pub overflow_mul-number : goal.overflow_mul-number
overflow_mul-number c =
    let few = c.is_short.ensures.few c.if-not-is_short.false in
    omega (arith, c.loop-byte.invariant.number, short_front c.args.bytes.now c.loop-byte.byte-index few c.loop-byte.invariant.all)

pub overflow_add-number : goal.overflow_add-number
overflow_add-number c =
    let few = c.is_short.ensures.few c.if-not-is_short.false in
    let digit = c.if-not-is_ascii_digit.ensures.cases in
    omega (
      arith,
      c.from.ensures,
      digit.1,
      c.loop-byte.invariant.number,
      short_front c.args.bytes.now c.loop-byte.byte-index few c.loop-byte.invariant.all,
    )

pub loop-byte-preserved : goal.loop-byte-preserved
loop-byte-preserved c =
    let more =
    short_more c.args.bytes.now c.loop-byte.byte-index _ c.loop-byte.number c.loop-byte-test.true refl c.if-not-is_ascii_digit.ensures.cases
    c.loop-byte.invariant.all c.loop-byte.invariant.number in
    record { all = more.0; number = ap (λ digit. c.loop-byte.number * 10 + digit) c.from.ensures ∙ more.1 }

pub returns : goal.returns
returns c =
    short_read c.args.bytes.now c.loop-byte.byte-index c.loop-byte.number (c.is_short.ensures.some c.if-not-is_short.false)
    (c.is_short.ensures.few c.if-not-is_short.false) (c.is_short.ensures.first c.if-not-is_short.false) c.loop-byte-test.false
    c.loop-byte.invariant.all c.loop-byte.invariant.number
