use Rattle.std.proofs.Common.{◌+◌, ◌*◌, arith, ◌∙◌, ap, refl}
use Rattle.rd_base.proofs.IntegerLemmas.{short_more}
use Rattle.rd_event.proofs.FrontLemmas.{front_small}
use Rattle.rd_event.proofs.front.first_digits.Goals as goal

pub overflow_mul-number : goal.overflow_mul-number
overflow_mul-number c =
    omega (arith, c.loop-index.invariant.number, front_small c.args.bytes.now c.loop-index.index c.loop-index.invariant.few c.loop-index.invariant.all)

pub overflow_add-number : goal.overflow_add-number
overflow_add-number c =
    let digit = c.if-not-is_ascii_digit.ensures.cases in
    omega (
      arith,
      c.from.ensures,
      digit.1,
      c.loop-index.invariant.number,
      front_small c.args.bytes.now c.loop-index.index c.loop-index.invariant.few c.loop-index.invariant.all,
    )

pub loop-index-preserved : goal.loop-index-preserved
loop-index-preserved c =
    let more =
    short_more c.args.bytes.now c.loop-index.index _ c.loop-index.number c.loop-index-test.true refl c.if-not-is_ascii_digit.ensures.cases
    c.loop-index.invariant.all c.loop-index.invariant.number in record {
      few = omega (arith, c.loop-index.invariant.few, c.if-index-eq-MOST_DIGITS.false);
      all = more.0;
      number = ap (λ digit. c.loop-index.number * 10 + digit) c.from.ensures ∙ more.1;
    }
