use Rattle.rd_base.proofs.IntegerLemmas.{no_text_no_integer, no_number_no_integer}
use Rattle.rd_base.proofs.spelling.integer.Goals as goal

pub returns-in_default : goal.returns-in_default
returns-in_default c = no_text_no_integer _ c.in_default.ensures.cases.0

pub returns-in_default-parse : goal.returns-in_default-parse
returns-in_default-parse c =
    no_number_no_integer c.args.bytes.now c.in_default-parse.field-0 (rw c.in-Ok.ensures.cases.0 at c.in_default-parse.ensures.value.0)
