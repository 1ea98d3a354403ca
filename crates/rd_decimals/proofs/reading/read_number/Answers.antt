use Rattle.std.proofs.Common.{◌≡◌, sym, ◌∙◌, false, true, arith}
use Rattle.std.specs.Cmp.Lexicographic.{bytes_decides}
use Rattle.std.specs.Fmt.{decimal}
use Rattle.std.specs.Str.{bytes_eq}
use Rattle.rd_decimals.proofs.DecimalLemmas.{no_parse_no_number, no_text_no_number, other_no_number, own_number}
use Rattle.rd_decimals.proofs.reading.read_number.Goals as goal
use Rattle.rd_decimals.proofs.reading.read_number.Goals.{else-number-most-via-then-number-most+else-is_decimal, else-number-most-via-else-number-most}

pub returns-in_default-clause-number : goal.returns-in_default-clause-number
returns-in_default-clause-number c = no_text_no_number _ _ (omega arith) c.in_default.ensures.cases.0

pub returns-in_default-parse-clause-number : goal.returns-in_default-parse-clause-number
returns-in_default-parse-clause-number c =
    no_parse_no_number _ c.args.bytes.now c.in_default-parse.field-0 (omega arith)
    (rw c.in-Ok.ensures.cases.0 at c.in_default-parse.ensures.value.0)

pub returns-then-is_decimal-clause-number : goal.returns-then-is_decimal-clause-number
returns-then-is_decimal-clause-number c =
    own_number _ _ c.args.bytes.now (omega arith) c.if-number-most.true
    ((bytes_decides (decimal c.in-Ok-parse.number) c.args.bytes.now).0 (sym c.is_decimal.ensures ∙ c.if-is_decimal.true))

pub returns-else-number-most-clause-number : goal.returns-else-number-most-clause-number
returns-else-number-most-clause-number c =
    other_no_number c.args.most c.in-Ok-parse.number c.args.bytes.now c.parse.result (omega arith)
    (rw c.in-Ok.ensures.cases.0 at c.parse.ensures.value.0) c.in-Ok-parse.is
    (elim c.else-number-most.branch [
      | else-number-most-via-then-number-most+else-is_decimal w ↦ λ below is.
          let equal : bytes_eq (decimal c.in-Ok-parse.number) c.args.bytes.now ≡ true = (bytes_decides (decimal c.in-Ok-parse.number) c.args.bytes.now).1 is in
          let different : bytes_eq (decimal c.in-Ok-parse.number) c.args.bytes.now ≡ false = sym w.is_decimal.ensures ∙ w.if-is_decimal.false in
          cc
      | else-number-most-via-else-number-most w ↦ λ below is. omega arith
    ])
